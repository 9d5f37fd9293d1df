-- The current fails at the reservation's write, or its flush is left to be made.
use Rattle.std.proofs.lemmas.Result.{err_from_is_err_and}
use Rattle.ring.proofs.AnyRing.{write_stops, write_goes}
use Rattle.ring.proofs.ring.Ring.begin.Goals as goal

pub returns-in_err-written-clause-runs : goal.returns-in_err-written-clause-runs
returns-in_err-written-clause-runs g c =
    let p = err_from_is_err_and c.from_residual-in_err-written.result c.from_residual-in_err-written.ensures.1 in
    rw (p.1, p.2)
    (write_stops g.D.Disk.moves g.D.Disk.meaning c.args.claim _ _ _ _ _ c.in_ok-gap.ensures.runs _ _
    c.write_reservation.ensures.moves
    c.in_err-written.field-0.0
    c.in_err-written.ensures.answer
    c.in_err-written.ensures.effect.0
    c.in_err-written.ensures.effect.1)

pub returns-clause-runs : goal.returns-clause-runs
returns-clause-runs g c =
    rw c.in_ok-written.ensures.written
    (write_goes g.D.Disk.moves g.D.Disk.meaning c.args.claim _ _ _ _ _ c.in_ok-gap.ensures.runs _ _
    c.write_reservation.ensures.moves
    _ c.in_ok-written.ensures.answer
    c.in_ok-written.ensures.effect)
