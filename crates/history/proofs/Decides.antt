-- What a call wants, by cases; and what a claim is like that a wish makes.
use Rattle.std.proofs.Common.{◌≡◌, ℕ, ◌+◌, ◌-◌, ◌<◌, ◌≤◌, max, leb, Some, None, Option, refl, ap, subst, arith}
use Rattle.std.proofs.lemmas.Bool.{cond_both, leb-true, leb-false}
use Rattle.record.specs.declared.numbers.Rank.{Rank}
use Rattle.record.specs.declared.numbers.Reading.{Reading as ClockReading}
use Rattle.kind.specs.Meaning.{Numbering, LawfulKind}
use Rattle.history.specs.History.{floor_of, or_zero}
use Rattle.history.specs.Promise.{FloorsZero, HasFloor}
use Rattle.server.specs.Rules.{Range, Wish, declines, draws, block_end, claim, by_rank, by_floor}
use Rattle.server.specs.declared.fault.ServerFault.TheVariants.{Reading, AboveTop}
use Rattle.history.proofs.Draws.{Claims}

-- the first of so many ranks of a series at a reading, and the block that they claim
module _ (k : Numbering) (s end next n : ℕ) (reading : ClockReading) where
  abbrev pub rank : ℕ
  rank = max next (floor_of k reading)

  abbrev pub block : Range
  block = record { first = max end rank; end = (block_end k (record { 0 = rank + n - 1 })).0 }

  pub floor_cases :
      (P : Wish → Type 0) →
      (k.floor reading ≡ None → P (declines Reading)) →
      (HasFloor k reading → k.top.0 + 1 < rank + n → P (declines AboveTop)) →
      (HasFloor k reading → rank + n ≤ k.top.0 + 1 → rank + n ≤ end → P (draws s rank n None)) →
      (HasFloor k reading → rank + n ≤ k.top.0 + 1 → end < rank + n → P (draws s rank n (Some block))) →
      P (by_floor k s end next n (k.floor reading))
  floor_cases P unread high inside outside = by_reading (k.floor reading) refl
    where
      by_end : HasFloor k reading → rank + n ≤ k.top.0 + 1 → P (draws s rank n (claim k end rank n))
      by_end has lawful =
          cond_both (leb (rank + n) end) None (Some block) (λ (c : Option Range). P (draws s rank n c))
          (λ e. inside has lawful (leb-true (rank + n) end e))
          (λ e. outside has lawful (leb-false (rank + n) end e))

      by_reading : (floor : Option Rank) → k.floor reading ≡ floor → P (by_floor k s end next n floor)
      by_reading None e = unread e
      by_reading (Some floor) e =
          let has : HasFloor k reading = (floor, e) in
          let is : rank ≡ max next floor.0 = ap (λ (x : Option Rank). max next (or_zero x)) e in
          subst (λ (x : ℕ). P (by_rank k s end x n)) is
          (cond_both (leb (rank + n) (k.top.0 + 1)) (draws s rank n (claim k end rank n)) (declines AboveTop) P
          (λ e. by_end has (leb-true (rank + n) (k.top.0 + 1) e))
          (λ e. high has (leb-false (rank + n) (k.top.0 + 1) e)))

  pub claims :
      (lost : ℕ) → LawfulKind k → k.block ≤ lost → n ≡ 1 → next ≤ end → rank + n ≤ k.top.0 + 1 → end < rank + n →
      Claims k (FloorsZero k) lost end next (floor_of k reading) rank n block
  claims lost lawful wide single order up_to outside =
      record {
        above = omega (arith, lawful.least);
        covers = omega (arith, lawful.least);
        ends = omega arith;
        near = omega arith;
        most = omega arith;
        whole = λ zeros. let z : floor_of k reading ≡ 0 = ap or_zero (zeros reading) in (omega arith, omega arith);
      }
