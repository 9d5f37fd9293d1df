-- Each call leaves one column less.
use Rattle.std.proofs.Common.{length}
use Rattle.simulator.proofs.print.+fill_before.Given as goal

abbrev pub decreases-fill_before : goal.decreases-fill_before
decreases-fill_before l = length l.columns.now
