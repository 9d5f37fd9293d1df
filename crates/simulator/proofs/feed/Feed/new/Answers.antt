-- A run begins with nothing read.
use Rattle.std.proofs.Common.{rules}
use Rattle.simulator.proofs.Feeds.{reads_nothing}
use Rattle.simulator.proofs.feed.Feed.new.Goals as goal

pub returns-clause-reads : goal.returns-clause-reads
returns-clause-reads c = reads_nothing (search rules)
