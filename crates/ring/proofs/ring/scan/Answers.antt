-- One sector more: foreign, blank, or a record that is met.
use Rattle.std.proofs.Common.{sym, refl, arith}
use Rattle.ring.specs.Ring.{foreign_below}
use Rattle.ring.proofs.Scans.{nothing_below, scan_stops, scan_blank, scan_record, scan_ends}
use Rattle.ring.proofs.ring.scan.Goals as goal
use Rattle.ring.proofs.ring.scan.Goals.{in-Blank, in-Record}

pub loop-sector-init : goal.loop-sector-init
unfolding foreign_below
loop-sector-init g c = (refl, sym (nothing_below _ _))

pub returns-in-Foreign : goal.returns-in-Foreign
returns-in-Foreign g c =
    scan_stops _ _ _ c.loop-sector.sector c.requires c.in_ok-bytes.bytes c.loop-sector-test.true c.in_ok-bytes.ensures
    c.in-Foreign.ensures
    c.loop-sector.invariant.0

pub loop-sector-preserved : goal.loop-sector-preserved
loop-sector-preserved g c =
    elim c.match-classify.branch [
      | in-Blank w ↦
          rw w.known-is
          (scan_blank _ _ _ c.loop-sector.sector c.requires c.in_ok-bytes.bytes c.loop-sector-test.true c.in_ok-bytes.ensures
          c.loop-sector.known
          w.in-Blank.ensures
          c.loop-sector.invariant)
      | in-Record w ↦
          rw w.known-is
          (scan_record _ _ _ c.loop-sector.sector c.requires c.in_ok-bytes.bytes c.loop-sector-test.true c.in_ok-bytes.ensures
          c.loop-sector.known w.meet-known.result
          w.in-Record.entry
          w.in-Record.ensures
          w.meet-known.ensures
          c.loop-sector.invariant)
    ]

pub returns : goal.returns
returns g c =
    scan_ends _ _ _ c.loop-sector.sector c.requires c.loop-sector.known (omega arith) c.loop-sector.invariant
