-- A last piece is one piece, and the end of the file.
use Rattle.std.proofs.Common.{rules}
use Rattle.std.proofs.lemmas.Result.{on_ok_weaker}
use Rattle.simulator.proofs.Feeds.{prints_stopped, prints_last}
use Rattle.simulator.proofs.feed.Feed.feed_last.Goals as goal

pub returns-in-Continue : goal.returns-in-Continue
returns-in-Continue c =
    let goes = rw c.in-Continue.is at c.in_ok-feed.ensures.reads in
    on_ok_weaker c.finish.result
    (λ ends memory bytes printed read.
    prints_last c.args.piece.now c.args.print.now.items c.finish.new.print.items c.finish.new.self read c.feed.new.self _
    c.feed.new.print.items goes ends (search rules))
    c.finish.ensures.reads

pub returns-in-Break : goal.returns-in-Break
returns-in-Break c memory bytes printed read =
    prints_stopped c.args.piece.now c.args.print.now.items c.feed.new.print.items c.feed.new.self read
    (rw c.in-Break.is at c.in_ok-feed.ensures.reads)
