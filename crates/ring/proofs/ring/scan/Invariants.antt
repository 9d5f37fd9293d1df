-- What is known is what the sectors so far tell, and none of them is foreign.
use Rattle.std.proofs.Common.{◌≡◌, None}
use Rattle.ring.specs.Ring.{foreign_below}
use Rattle.ring.proofs.Scans.{known_below}
use Rattle.ring.proofs.ring.scan.Given as goal

abbrev pub invariant-loop-sector : goal.invariant-loop-sector
invariant-loop-sector g l =
    (foreign_below l.format (g.D.Disk.meaning l.disk).reading l.sector ≡ None)
    × (l.known ≡ known_below l.format (g.D.Disk.meaning l.disk).reading l.sector)
