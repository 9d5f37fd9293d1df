-- The gap is looked at last.
use Rattle.std.proofs.Common.{ℕ, sym, refl, ap, ◌∙◌, arith}
use Rattle.std.proofs.lemmas.Map.Keys.{le_from_is_le}
use Rattle.ring.specs.Ring.{recover}
use Rattle.ring.proofs.Recovers.{recover_live, recover_well, recover_agrees}
use Rattle.ring.proofs.ring.Ring.recover.Goals as goal

pub returns-then-holds_live : goal.returns-then-holds_live
returns-then-holds_live g c =
    let all = c.sectors-sectors.ensures.count in
    let least = le_from_is_le 10 c.sectors-sectors.result (rw c.new.ensures.start at c.if-not-contains.ensures.cases.0) in
    let most = le_from_is_le c.sectors-sectors.result 2048 (rw c.new.ensures.end at c.if-not-contains.ensures.cases.1) in
    record {
      answer =
          recover_live _ _ all least most c.in_ok-known.known c.in_ok-known.ensures c.gap-gap.result
          c.in_ok-bytes.bytes c.classify.result c.gap-gap.ensures c.in_ok-bytes.ensures c.classify.ensures
          (sym c.if-holds_live.ensures)
          ∙ ap (λ (n : ℕ). recover (record { tag = c.args.tag; top = c.args.top; sectors = n }) (g.D.Disk.meaning c.args.disk.now).reading) all;
      agrees = λ _. tt;
    }

pub returns : goal.returns
returns g c =
    let all = c.sectors-sectors.ensures.count in
    let least = le_from_is_le 10 c.sectors-sectors.result (rw c.new.ensures.start at c.if-not-contains.ensures.cases.0) in
    let most = le_from_is_le c.sectors-sectors.result 2048 (rw c.new.ensures.end at c.if-not-contains.ensures.cases.1) in
    record {
      answer =
          recover_well _ _ all least most c.in_ok-known.known c.in_ok-known.ensures c.gap-gap.result
          c.in_ok-bytes.bytes c.classify.result c.gap-gap.ensures c.in_ok-bytes.ensures c.classify.ensures
          (sym c.if-holds_live.ensures)
          ∙ ap (λ (n : ℕ). recover (record { tag = c.args.tag; top = c.args.top; sectors = n }) (g.D.Disk.meaning c.args.disk.now).reading) all;
      agrees = λ tops.
          recover_agrees _ _ all least most c.in_ok-known.known c.in_ok-known.ensures c.gap-gap.result
          c.in_ok-bytes.bytes c.classify.result c.gap-gap.ensures c.in_ok-bytes.ensures c.classify.ensures
          _ refl (omega arith) tops
          (sym c.if-holds_live.ensures);
    }
