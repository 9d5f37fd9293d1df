-- Ranks that are given: what is told of the series then, that they rise, and which reservation covers one.
use Rattle.std.proofs.Common.{◌≡◌, ℕ, zero, suc, ◌+◌, ◌-◌, ◌*◌, ◌<◌, ◌≤◌, min, List, ◌∷◌, length, inl, inr, refl, ap, ◌∙◌, ⊎_elim, add-mul, one-mul, zero-mul, arith}
use Rattle.std.proofs.ByRecursion.{All-weaker}
use Rattle.std.proofs.lemmas.Bool.{cases_lt, cases_order, le-leb, lt-ltb, lt-leb}
use Rattle.record.specs.declared.numbers.Identifier.{Identifier}
use Rattle.record.specs.declared.numbers.Reading.{Reading}
use Rattle.disk.specs.Meaning.{Meaning}
use Rattle.kind.specs.Meaning.{Numbering, LawfulKind}
use Rattle.history.specs.History.{Event, rank_of, after_last, labels, IsCovered, made_before}
use Rattle.history.specs.Promise.{Rising, HasFloor}
use Rattle.server.specs.Rules.{Range}
use Rattle.history.proofs.Series.{Series, Label, Counted, blocks}

-- the identifier of a rank from next on is the kind's for this rank and no other, and above all that were given before
pub rises :
    (k : Numbering) → LawfulKind k → (start : Meaning) (past : List Event) (s end : ℕ) (reading : Reading) → s < 8 → HasFloor k reading →
    Series k start past s end → rank_of k start s reading past ≤ k.top.0 →
    Rising k start s reading past (k.identifier s (record { 0 = rank_of k start s reading past }))
rises k lawful start past s end reading below has inv up_to =
    let rank : ℕ = rank_of k start s reading past in
    record {
      series = below;
      floor = has;
      lawful = up_to;
      told = refl;
      only = λ r l e.
          let same : (k.identifier s (record { 0 = rank })).0 ≡ (k.identifier s r).0 = ap (λ (x : Identifier). x.0) e in
          ⊎_elim (λ h. h)
          (⊎_elim
          (λ h. absurd (omega (arith, lawful.rising s r (record { 0 = rank }) below h up_to)))
          (λ h. absurd (omega (arith, lawful.rising s (record { 0 = rank }) r below h l))))
          (cases_order r.0 rank);
      above =
          All-weaker (Label k s (after_last k start s past)) (λ (earlier : Identifier). earlier.0 < (k.identifier s (record { 0 = rank })).0)
          (λ x h.
          let low : h.0.0 < rank = omega (arith, h.1, inv.low) in
          omega (arith, ap (λ (y : Identifier). y.0) h.3, lawful.rising s h.0 (record { 0 = rank }) below low up_to))
          (labels s past) inv.labelled;
    }

-- a rank below the end as hi × block size + lo, where hi blocks lie before the one that covers it
length-blocks : (k : Numbering) (h : ℕ) → length (blocks k h) ≡ h
length-blocks k zero = refl
length-blocks k (suc h) = omega (arith, length-blocks k h)

pub record Covered (B rank : ℕ) (ranges : List Range) : Type 0 where
  pub there : IsCovered rank ranges
  pub lo : ℕ
  pub below : lo < B
  pub sum : rank ≡ made_before rank ranges * B + lo

covered_older : (B rank : ℕ) (r : Range) (older : List Range) → rank < r.first → Covered B rank older → Covered B rank (r ∷ older)
covered_older B rank r older before c = record { there = inr c.there; lo = c.lo; below = c.below; sum = rw (lt-leb r.first rank before) c.sum }

covered_here :
    (B rank lo : ℕ) (r : Range) (older : List Range) → r.first ≤ rank → rank < r.end → lo < B → rank ≡ length older * B + lo →
    Covered B rank (r ∷ older)
covered_here B rank lo r older from inside small sum =
    record { there = inl (from, inside); lo = lo; below = small; sum = rw (le-leb r.first rank from, lt-ltb rank r.end inside) sum }

covered : (k : Numbering) (rank h : ℕ) → rank < min (h * k.block) (k.top.0 + 1) → Covered k.block rank (blocks k h)
covered k rank zero below = let z = zero-mul k.block in absurd (omega arith)
covered k rank (suc h) below =
    let more = add-mul h 1 k.block in
    let one = one-mul k.block in
    let here : suc h ≡ h + 1 = omega arith in
    let wide = ap (λ (x : ℕ). x * k.block) here in
    let many = ap (λ (x : ℕ). x * k.block) (length-blocks k h) in
    let r : Range = record { first = h * k.block; end = min ((h + 1) * k.block) (k.top.0 + 1) } in
    ⊎_elim
    (λ l. covered_older k.block rank r (blocks k h) l (covered k rank h (omega arith)))
    (λ l. covered_here k.block rank (rank - h * k.block) r (blocks k h) l (omega arith) (omega arith) (omega arith))
    (cases_lt rank (h * k.block))

pub hi_lo_of : (k : Numbering) (rank end : ℕ) (ranges : List Range) → Counted k end ranges → rank < end → Covered k.block rank ranges
hi_lo_of k rank end ranges counted below = rw counted.are (covered k rank counted.hi (omega (arith, counted.reach)))

-- one block more
pub counted_more :
    (k : Numbering) (end : ℕ) (ranges : List Range) (claimed : Range) → Counted k end ranges → end < claimed.end → claimed.first ≡ end →
    claimed.end ≡ min (end + k.block) (k.top.0 + 1) → Counted k claimed.end (claimed ∷ ranges)
counted_more k end ranges claimed counted above from to =
    let more = add-mul counted.hi 1 k.block in
    let one = one-mul k.block in
    let here : suc counted.hi ≡ counted.hi + 1 = omega arith in
    let wide = ap (λ (x : ℕ). x * k.block) here in
    let begins : claimed.first ≡ counted.hi * k.block = omega (arith, counted.reach) in
    let reaches : claimed.end ≡ min ((counted.hi + 1) * k.block) (k.top.0 + 1) = omega (arith, counted.reach) in
    record {
      hi = suc counted.hi;
      are =
          ap (λ (x : ℕ). record { first = x; end = claimed.end } ∷ ranges) begins
          ∙ ap (λ (x : ℕ). record { first = counted.hi * k.block; end = x } ∷ ranges) reaches
          ∙ ap (λ (rs : List Range). record { first = counted.hi * k.block; end = min ((counted.hi + 1) * k.block) (k.top.0 + 1) } ∷ rs) counted.are;
      reach = omega arith;
    }
