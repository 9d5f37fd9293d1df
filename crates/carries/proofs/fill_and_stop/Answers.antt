-- What was filled may be stopped.
use Rattle.std.proofs.Common.{arith}
use Rattle.carries.proofs.Rests.{new_format, may_stop, both, filled_then_stopped}
use Rattle.carries.proofs.fill_and_stop.Goals as goal

pub returns : goal.returns
returns g c without =
    let same = new_format _ without _ c.in_ok-ring.ensures.answer in
    let made = c.in_ok-fill.ensures (c.in_ok-ring.ensures.agrees (omega arith)) in
    let filled = rw same at made in
    both _ _ _ (c.stop.ensures (may_stop _ without _ filled)) (λ told stops. filled_then_stopped _ _ _ _ _ _ _ _ filled stops)
