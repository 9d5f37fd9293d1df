-- What holds of a series between calls: of its next rank, its end, what was given, and what may be lost.
use Rattle.std.proofs.Common.{◌≡◌, ℕ, zero, suc, ◌+◌, ◌*◌, ◌<◌, ◌≤◌, min, max, true, false, eqb, List, [], ◌∷◌, Some, None, Result, refl, ap, add-mul}
use Rattle.std.proofs.Common.{one-mul, zero-mul, arith}
use Rattle.std.specs.List.{AllByRecursion}
use Rattle.std.proofs.Math.Nat.{mul-le-mul_left}
use Rattle.std.proofs.ByRecursion.{All-weaker}
use Rattle.std.proofs.lemmas.Bool.{eq-eqb, cond_both}
use Rattle.record.specs.declared.numbers.Identifier.{Identifier}
use Rattle.record.specs.declared.numbers.Rank.{Rank}
use Rattle.record.specs.declared.numbers.Reading.{Reading}
use Rattle.record.specs.declared.numbers.Sequence.{Sequence}
use Rattle.disk.specs.Meaning.{Meaning}
use Rattle.kind.specs.Meaning.{Numbering}
use Rattle.history.specs.History.{Event, cut, Told, gave, refused, silent, woke, told, end_in, next, rank_of, floor_of, floor_since, next_by}
use Rattle.history.specs.History.{after_by, floor_by, cuts_by, labels_by, after_last, cuts_since, lost, loss, pushed, labels, standing}
use Rattle.history.specs.Promise.{FloorsZero}
use Rattle.server.specs.Rules.{Range}
use Rattle.server.specs.declared.fault.ServerFault.{ServerFault}

-- an identifier that was given has a rank below the one that would follow the last
abbrev pub Label : Numbering → ℕ → ℕ → Identifier → Type 0
Label k s after identifier =
    (r : Rank) × (r.0 < after) × (r.0 ≤ k.top.0) × (identifier ≡ k.identifier s r)

-- so many reservations of a block each, one after the other from rank 0 on, the newest first
abbrev pub blocks : Numbering → ℕ → List Range
blocks k zero = []
blocks k (suc h) = record { first = h * k.block; end = min ((h + 1) * k.block) (k.top.0 + 1) } ∷ blocks k h

-- the reservations that stand are such blocks, and the series' end is where they end
pub record Counted (k : Numbering) (end : ℕ) (ranges : List Range) : Type 0 where
  pub hi : ℕ
  pub are : ranges ≡ blocks k hi
  pub reach : end ≡ min (hi * k.block) (k.top.0 + 1)

-- reservations are such blocks where all floors are 0
abbrev pub InBlocks : Numbering → List Event → Type 0
InBlocks k past = FloorsZero k

pub in_blocks_before : (k : Numbering) (event : Event) (past : List Event) → InBlocks k (event ∷ past) → InBlocks k past
in_blocks_before k event past even = even

-- a series whose end is as given
pub record Series (k : Numbering) (start : Meaning) (past : List Event) (s end : ℕ) : Type 0 where
  pub low : after_last k start s past ≤ next k start s past
  pub inside : next k start s past ≤ end
  pub near : end ≤ next k start s past + lost k past
  pub bound : next k start s past ≤ max (after_last k start s past) (floor_since k s past) + loss k past (cuts_since s past)
  pub labelled : AllByRecursion (Label k s (after_last k start s past)) (labels s past)
  pub counted : InBlocks k past → Counted k end (standing k start s None past)

-- no call makes less what a cut may lose, and it is at least a block
pub lost_block : (k : Numbering) (past : List Event) → k.block ≤ lost k past
unfolding lost
lost_block k past = omega arith

pub lost_more : (k : Numbering) (event : Event) (past : List Event) → lost k past ≤ lost k (event ∷ past)
unfolding lost
lost_more k event past = omega arith

pub loss_more : (k : Numbering) (event : Event) (past : List Event) (cuts : ℕ) → loss k past cuts ≤ loss k (event ∷ past) cuts
loss_more k event past cuts = mul-le-mul_left cuts (lost_more k event past)

-- what is told of a series stays, but its highest floor may rise
pub record Keeps (k : Numbering) (start : Meaning) (past : List Event) (tells : Told) (s : ℕ) : Type 0 where
  pub next_stays : next_by k start s tells (next k start s past) ≡ next k start s past
  pub after_stays : after_by k s tells (next k start s past) (after_last k start s past) ≡ after_last k start s past
  pub floor_rises : floor_since k s past ≤ floor_by k s tells (floor_since k s past)
  pub cuts_stay : cuts_by s tells (cuts_since s past) ≡ cuts_since s past
  pub labels_stay : labels_by s tells (labels s past) ≡ labels s past

-- so it is where no rank of it is given, and it does not wake
abbrev pub GivesNone : ℕ → Told → Type 0
GivesNone s (gave t reading n xs) = eqb t s ≡ false
GivesNone s (woke m) = ⊥
GivesNone s tells = Unit {0}

pub keeps : (k : Numbering) (start : Meaning) (past : List Event) (tells : Told) (s : ℕ) → GivesNone s tells → Keeps k start past tells s
keeps k start past (gave t reading n xs) s other =
    record {
      next_stays = rw other refl;
      after_stays = rw other refl;
      floor_rises = rw other (omega arith);
      cuts_stay = rw other refl;
      labels_stay = rw other refl;
    }
keeps k start past (refused t reading) s none =
    record {
      next_stays = refl;
      after_stays = refl;
      floor_rises =
          cond_both (eqb t s) (max (floor_since k s past) (floor_of k reading)) (floor_since k s past) (λ x. floor_since k s past ≤ x)
          (λ e. omega arith)
          (λ e. omega arith);
      cuts_stay = refl;
      labels_stay = refl;
    }
keeps k start past silent s none =
    record { next_stays = refl; after_stays = refl; floor_rises = omega arith; cuts_stay = refl; labels_stay = refl }
keeps k start past (woke m) s none = absurd none

-- the identifiers of so many ranks from a first one on
abbrev pub identifiers : Numbering → ℕ → ℕ → ℕ → List Identifier
identifiers k s first zero = []
identifiers k s first (suc n) = k.identifier s (record { 0 = first }) ∷ identifiers k s (first + 1) n

-- these, put in front of others of lower ranks
all_pushed :
    (k : Numbering) (s n first : ℕ) (was : List Identifier) → first + n ≤ k.top.0 + 1 → AllByRecursion (Label k s first) was →
    AllByRecursion (Label k s (first + n)) (pushed (identifiers k s first n) was)
all_pushed k s zero first was lawful all =
    All-weaker (Label k s first) (Label k s (first + 0)) (λ x h. (h.0, omega (arith, h.1), h.2, h.3)) was all
all_pushed k s (suc n) first was lawful all =
    let xs : List Identifier = pushed (identifiers k s (first + 1) n) (k.identifier s (record { 0 = first }) ∷ was) in
    All-weaker (Label k s (first + 1 + n)) (Label k s (first + suc n)) (λ x h. (h.0, omega (arith, h.1), h.2, h.3)) xs
    (all_pushed k s n (first + 1) (k.identifier s (record { 0 = first }) ∷ was) (omega arith) (
      (record { 0 = first }, omega arith, omega arith, refl),
      All-weaker (Label k s first) (Label k s (first + 1)) (λ x h. (h.0, omega (arith, h.1), h.2, h.3)) was all,
    ))

module _ {k : Numbering} {start : Meaning} {past : List Event} {s end : ℕ} (inv : Series k start past s end) where
  -- a call that gives it no rank
  pub series_kept :
      (event : Event) → GivesNone s (told event) → standing k start s None (event ∷ past) ≡ standing k start s None past →
      Series k start (event ∷ past) s end
  series_kept event none same =
      let stays = keeps k start past (told event) s none in
      let same_cuts = ap (loss k (event ∷ past)) stays.cuts_stay in
      let more = loss_more k event past (cuts_since s past) in
      let wide = lost_more k event past in
      record {
        low = omega (arith, inv.low, stays.next_stays, stays.after_stays);
        inside = omega (arith, inv.inside, stays.next_stays);
        near = omega (arith, inv.near, stays.next_stays);
        bound = omega (arith, inv.bound, stays.next_stays, stays.after_stays, stays.floor_rises);
        labelled = rw (stays.labels_stay, stays.after_stays) inv.labelled;
        counted = λ even. rw same (inv.counted (in_blocks_before k event past even));
      }

  -- so many ranks of it are given, with the end that it has then
  pub series_given :
      (event : Event) (reading : Reading) (n end' : ℕ) → told event ≡ gave s reading n (identifiers k s (rank_of k start s reading past) n) →
      rank_of k start s reading past + n ≤ k.top.0 + 1 → rank_of k start s reading past + n ≤ end' →
      end' ≤ rank_of k start s reading past + n + lost k (event ∷ past) →
      (InBlocks k (event ∷ past) → Counted k end' (standing k start s None (event ∷ past))) →
      Series k start (event ∷ past) s end'
  series_given event reading n end' is lawful inside near counted =
      let same : eqb s s ≡ true = eq-eqb s s refl in
      let first : ℕ = rank_of k start s reading past in
      let none = zero-mul (lost k (event ∷ past)) in
      record {
        low = rw (is, same) (omega arith);
        inside = rw (is, same) inside;
        near = rw (is, same) near;
        bound = rw (is, same) (omega arith);
        labelled =
            rw (is, same)
            (all_pushed k s n first (labels s past) lawful
            (All-weaker (Label k s (after_last k start s past)) (Label k s first) (λ x h. (h.0, omega (arith, h.1, inv.low), h.2, h.3))
            (labels s past) inv.labelled));
        counted = counted;
      }

  -- a cut
  pub series_cut :
      (tear supply : ℕ) (answer : Result Sequence ServerFault) (after : Meaning) →
      next k start s past ≤ end_in k start after s →
      end_in k start after s ≤ max (after_last k start s past) (floor_since k s past) + loss k past (cuts_since s past) + lost k past →
      (InBlocks k past → Counted k (end_in k start after s) (standing k start s (Some after) past)) →
      Series k start (cut tear supply answer after ∷ past) s (end_in k start after s)
  series_cut tear supply answer after up most counted =
      let event : Event = cut tear supply answer after in
      let sum = add-mul (cuts_since s past) 1 (lost k (event ∷ past)) in
      let one = one-mul (lost k (event ∷ past)) in
      let more = loss_more k event past (cuts_since s past) in
      let wide = lost_more k event past in
      record {
        low = omega (arith, inv.low);
        inside = omega arith;
        near = omega arith;
        bound = omega (arith, most);
        labelled = inv.labelled;
        counted = λ even. counted (in_blocks_before k event past even);
      }
