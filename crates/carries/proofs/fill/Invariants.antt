-- The reservations so far were made.
use Rattle.ring.specs.Ring.{Agrees}
use Rattle.carries.proofs.Fills.{Filling}
use Rattle.carries.proofs.fill.Given as goal

abbrev pub invariant-loop-series : goal.invariant-loop-series
invariant-loop-series g l =
    Agrees l.initial.ring (g.D.Disk.meaning l.initial.disk) →
    Filling l.initial.ring.format (g.D.Disk.meaning l.initial.disk) l.series l.ring (g.D.Disk.meaning l.disk)
