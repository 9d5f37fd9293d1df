-- The print begins anew; an empty piece is the end of the input, and any other one is fed to the run.
use Rattle.std.proofs.Common.{rules}
use Rattle.simulate.proofs.Taken.{taken_end, taken_piece}
use Rattle.simulate.proofs.Session.print_piece.Goals as goal

pub returns-then-is_empty-clause-prints : goal.returns-then-is_empty-clause-prints
returns-then-is_empty-clause-prints g c =
    taken_end c.args.self.now.feed c.finish.new.self c.args.piece.now _ c.finish.new.print.items _
    c.in_ok-finish.ensures.reads (search rules) (search rules) (search rules)

pub returns-clause-prints : goal.returns-clause-prints
returns-clause-prints g c =
    taken_piece c.args.self.now.feed c.feed.new.self c.feed.new.print.items c.args.piece.now _ _ c.feed.result
    c.feed.ensures.reads (search rules) (search rules) (search rules)
