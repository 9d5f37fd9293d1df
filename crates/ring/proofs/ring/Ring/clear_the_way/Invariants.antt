-- The search has come from where it began, and fewer live records are left to carry with each turn.
use Rattle.std.proofs.Common.{◌≤◌}
use Rattle.ring.specs.Runs.{RunsOn}
use Rattle.ring.proofs.Knows.{left}
use Rattle.ring.proofs.ring.Ring.clear_the_way.Given as goal

abbrev pub invariant-loop-content : goal.invariant-loop-content
invariant-loop-content g l =
    (l.start.0 ≤ l.self.known.top.0)
    × RunsOn g.D.Disk.moves g.D.Disk.meaning l.series l.start.0 l.initial.self l.initial.disk l.self l.disk

abbrev pub decreases-loop-content : goal.decreases-loop-content
decreases-loop-content g l = left l.start.0 l.series 0 l.self.known.lives
