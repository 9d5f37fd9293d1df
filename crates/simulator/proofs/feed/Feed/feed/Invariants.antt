-- Whatever follows, the print is what was appended and the print of what is left; each line takes bytes of it.
use Rattle.std.proofs.Common.{length}
use Rattle.simulator.specs.Feeds.{ReadsOn}
use Rattle.simulator.proofs.feed.Feed.feed.Given as goal

abbrev pub invariant-loop-count : goal.invariant-loop-count
invariant-loop-count l = ReadsOn l.initial.self l.initial.rest l.initial.print.items l.self l.rest l.print.items

abbrev pub decreases-loop-count : goal.decreases-loop-count
decreases-loop-count l = length l.rest
