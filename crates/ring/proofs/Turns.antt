-- A turn of the search carries a live record, and fewer are left after it.
use Rattle.std.proofs.Common.{◌≡◌, ℕ, ◌^◌, ◌<◌, ◌≤◌, ◌≢◌, length, set, Some, ap, arith}
use Rattle.record.specs.declared.numbers.Rank.{Rank}
use Rattle.record.specs.declared.sector.Content.{Content}
use Rattle.record.specs.declared.sector.Record.{Record}
use Rattle.ring.specs.Ring.{carry_of, live_among, live_of, note, next_known}
use Rattle.ring.specs.declared.known.Known.{Known}
use Rattle.ring.proofs.Knows.{left, left-set}

-- the top rises with a record
pub noted_since : (k k' : Known) (s : ℕ) (end : Rank) (start : ℕ) → start < 2 ^ 63 → start ≤ k.top.0 → k' ≡ note k (next_known k s end) → start ≤ k'.top.0
noted_since k k' s end start small since e = grind arith

-- a record that the code carries is of another series, and the live one as the ring knows it, no newer than the start
pub record Carries (k : Known) (s start : ℕ) (r : Record) : Type 0 where
  pub other : r.series ≢ s
  pub series : r.series < 8
  pub number : r.sequence.0 ≡ (live_among k.lives r.series).number.0
  pub old : r.sequence.0 ≤ start

pub carries_from : (k : Known) (s start : ℕ) (c : Content) (r : Record) → carry_of k s start c ≡ Some r → Carries k s start r
carries_from k s start c r e = grind arith

-- fewer are left after it
pub carries_less :
    (k k' : Known) (s start : ℕ) (r : Record) → length k.lives ≡ 8 → start < 2 ^ 63 → start ≤ k.top.0 →
    Carries k s start r → k' ≡ note k (next_known k r.series r.end) →
    left start s 0 k'.lives < left start s 0 k.lives
carries_less k k' s start r eight small since carries e =
    let lives : k'.lives ≡ set k.lives r.series (live_of (next_known k r.series r.end)) = ap (λ (x : Known). x.lives) e in
    let one = left-set start s 0 r.series k.lives (live_of (next_known k r.series r.end))
    (omega (arith, carries.series))
    (λ h. carries.other (omega arith))
    (omega (arith, carries.number, carries.old))
    (omega arith) in
    let same = ap (left start s 0) lives in
    omega arith
