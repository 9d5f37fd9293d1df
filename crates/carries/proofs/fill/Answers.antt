-- One reservation more for each of the eight series, and then the last.
use Rattle.std.proofs.Common.{◌≡◌, refl, add-one, arith}
use Rattle.carries.proofs.Fills.{begins, one_more, filling_each}
use Rattle.carries.proofs.fill.Goals as goal

pub loop-series-init : goal.loop-series-init
loop-series-init g c agrees = begins _ _ agrees

pub loop-series-preserved : goal.loop-series-preserved
loop-series-preserved g c agrees =
    rw add-one
    (one_more _ _ _ _ _ (c.loop-series.invariant agrees) _ _ (filling_each _ c.loop-series-test.true) _ _ _
    c.in_ok-reserve.ensures.refused
    c.in_ok-reserve.ensures.reserves)

pub returns : goal.returns
returns g c agrees =
    let eight : c.loop-series.series ≡ 8 = omega (arith, c.loop-series-test.false, c.loop-series.auto.series-end) in
    let so_far = rw eight at c.loop-series.invariant agrees in
    (one_more _ _ 8 _ _ so_far _ _ refl _ _ _ c.in_ok-reserve-2.ensures.refused c.in_ok-reserve-2.ensures.reserves).made
