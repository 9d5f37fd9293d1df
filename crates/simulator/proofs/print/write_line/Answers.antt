-- The four numbers and the line feed lie one after another.
use Rattle.std.proofs.Common.{arith}
use Rattle.simulator.proofs.Justified.{laid}
use Rattle.simulator.proofs.print.write_line.Goals as goal

pub returns : goal.returns
returns c =
    laid c.args.print.now c.right_justify.new.columns c.right_justify-2.new.columns c.right_justify-3.new.columns
    c.right_justify-4.new.columns c.args.number c.args.columns (omega arith) c.right_justify.ensures
    c.right_justify-2.ensures (rw c.from.ensures at c.right_justify-3.ensures) c.right_justify-4.ensures
