-- Each turn is one of the search: it ends, goes on, or is stopped.
use Rattle.std.proofs.Common.{sym, ap, arith}
use Rattle.std.proofs.lemmas.Result.{err_from_is_err_and}
use Rattle.ring.proofs.AnyRing.{found_to_carry, turn_unread, turn_carries, turn_stopped}
use Rattle.ring.proofs.Turns.{noted_since, carries_from, carries_less}
use Rattle.ring.proofs.ring.Ring.clear_the_way.Goals as goal

pub loop-content-init : goal.loop-content-init
loop-content-init g c = (omega arith, λ value same answer r' after runs. runs)

pub loop-content-smaller : goal.loop-content-smaller
loop-content-smaller g c =
    carries_less c.loop-content.self.known c.carry.new.self.known c.args.series c.args.self.now.known.top.0
    c.in-Some.entry
    c.to_carry.ensures.eight
    (omega (arith, c.requires))
    c.loop-content.invariant.0
    (carries_from _ _ _ _ _ (sym c.in-Some.ensures.value))
    (ap (λ r. r.known) c.in_ok-carry-in-Some.ensures.appends.3)

pub loop-content-preserved : goal.loop-content-preserved
loop-content-preserved g c = (
  noted_since c.loop-content.self.known c.carry.new.self.known c.in-Some.entry.series c.in-Some.entry.end
      c.args.self.now.known.top.0
      (omega (arith, c.requires))
      c.loop-content.invariant.0
      (ap (λ r. r.known) c.in_ok-carry-in-Some.ensures.appends.3),
  turn_carries g.D.Disk.moves g.D.Disk.meaning _ _ _ _ _ _ c.loop-content.invariant.1 c.in-Some.entry
      (found_to_carry _ _ _ _ _ _ c.in_ok-content.ensures c.in-Some.ensures.value)
      _ _
      c.in_ok-carry-in-Some.ensures.appends,
)

pub returns-in_err-carry-in-Some : goal.returns-in_err-carry-in-Some
returns-in_err-carry-in-Some g c =
    let p = err_from_is_err_and c.from_residual-in_err-carry-in-Some.result c.from_residual-in_err-carry-in-Some.ensures.1 in
    record {
      gap = rw p.1 tt;
      runs =
          rw (p.1, p.2)
          (turn_stopped g.D.Disk.moves g.D.Disk.meaning _ _ _ _ _ _ c.loop-content.invariant.1 c.in-Some.entry
          (found_to_carry _ _ _ _ _ _ c.in_ok-content.ensures c.in-Some.ensures.value)
          _ _
          c.in_err-carry-in-Some.field-0.0
          c.in_err-carry-in-Some.ensures.work
          c.in_err-carry-in-Some.ensures.appends);
    }

pub returns : goal.returns
returns g c =
    record {
      gap = c.gap-gap.ensures;
      runs =
          record {
            clear = found_to_carry _ _ _ _ _ _ c.in_ok-content.ensures c.in-None.ensures.value;
            on = c.loop-content.invariant.1;
          };
    }

pub returns-in_err-content-clause-runs : goal.returns-in_err-content-clause-runs
returns-in_err-content-clause-runs g c =
    let p = err_from_is_err_and c.from_residual.result c.from_residual.ensures.1 in
    rw (p.1, p.2)
    (turn_unread g.D.Disk.moves g.D.Disk.meaning _ _ _ _ _ _ c.loop-content.invariant.1 _ c.in_err-content.ensures)
