-- The block that was reserved goes on where the one in hand ends.
use Rattle.std.proofs.Common.{refl}
use Rattle.std.proofs.lemmas.Result.{err_from_is_err_and}
use Rattle.server.proofs.Requests.{took_none, took_ends}
use Rattle.server.proofs.state.Up.extend.Goals as goal

pub returns-clause-ends : goal.returns-clause-ends
returns-clause-ends g c =
    took_ends c.args.self.now _ c.requires.agrees c.requires.ends _ _ _ _ _ c.reserve.ensures.refused c.reserve.ensures.reserves
    c.in_ok-reserved.reserved _ c.in_ok-reserved.was c.take.ensures
    (c.in_ok-reserved.ensures.ends c.requires.agrees)

pub returns-in_err-reserved-clause-took : goal.returns-in_err-reserved-clause-took
returns-in_err-reserved-clause-took g c =
    let p = err_from_is_err_and c.from_residual.result c.from_residual.ensures.1 in
    rw (p.1, p.2)
    (took_none c.args.self.now _ c.requires.agrees c.requires.ends _ _ _ _ _ c.reserve.ensures.refused c.reserve.ensures.reserves
    c.in_err-reserved.field-0.0 _ c.in_err-reserved.was refl)
