-- A disk without records that was filled recovers, and all that it reads is kept.
use Rattle.std.proofs.Common.{◌≡◌, ℕ, zero, suc, ◌*◌, ◌<◌, ◌≤◌, ltb, List, length, Ok, Err, Result, IsOkAnd, IfOk, sym, refl, ◌∙◌, subst, ⊎_elim, arith}
use Rattle.std.proofs.lemmas.Bool.{cases_Bool, cases_lt, ltb-true}
use Rattle.record.specs.declared.sector.Format.{Format}
use Rattle.disk.specs.Meaning.{Meaning}
use Rattle.disk.specs.Blank.{WithoutRecords}
use Rattle.ring.specs.Left.{Recovers, LawfulReservation}
use Rattle.ring.specs.Operations.{outcome}
use Rattle.ring.specs.Ring.{known, plan, recover, top, Step}
use Rattle.ring.specs.Search.{reservation}
use Rattle.ring.specs.declared.fault.RingFault.{RingFault}
use Rattle.ring.specs.declared.ring.Ring.{Ring}
use Rattle.ring.specs.declared.token.Reserved.{Reserved}
use Rattle.ring.proofs.Leaves.{reserved_whole, operations_counted}
use Rattle.ring.proofs.Starts.{blank_recovers, blank_top, recovers_answer}
use Rattle.carries.specs.Stops.{format, filling, Filled, Stops, FilledAndStopped}

-- sectors that recover and are all kept, with a top record of so much at most
pub record Rests (f : Format) (most : ℕ) (m : Meaning) : Type 0 where
  pub recovers : Recovers f m.reading
  pub kept : m.kept ≡ m.reading
  pub low : top f m.reading ≤ most

-- each of the nine has one of the eight series, and an end of 1 or 2
filling_lawful : (n : ℕ) → ((filling n).series < 8) × (1 ≤ (filling n).end.0) × ((filling n).end.0 ≤ 2)
filling_lawful n =
    ⊎_elim
    (λ e. rw e (ltb-true n 8 e, omega arith, omega arith))
    (λ e. rw e (omega arith, omega arith, omega arith))
    (cases_Bool (ltb n 8))

-- what succeeds had supply enough
enough : (f : Format) (r : Reserved) (steps : List Step) (supply : ℕ) → outcome r steps supply ≡ Ok r → 2 * length steps ≤ supply
enough f r steps supply e =
    ⊎_elim
    (λ l.
    let stopped = (operations_counted f r steps supply).2 l in
    let n : ◌≡◌ {A = Result Reserved RingFault} (Ok r) (Err stopped.0) = sym e ∙ stopped.1 in
    cc)
    (λ l. l)
    (cases_lt supply (2 * length steps))

module _ (start : Meaning) (without : WithoutRecords start) where
  abbrev f : Format
  f = format start

  start_recovers : Recovers f start.reading
  start_recovers = blank_recovers f start refl (omega arith) (omega arith) without

  -- the ring that recovery answers there
  pub new_format : (r : Ring) → Ok r ≡ recover f start.reading → r.format ≡ f
  new_format r e =
      let is : Ok r ≡ Ok (record { format = f; known = known f start.reading }) = e ∙ recovers_answer f start.reading start_recovers in
      grind arith

  pub rests : (n : ℕ) (m : Meaning) → n ≤ 9 → Filled f start n m → Rests f (8 * n) m
  unfolding Filled
  rests zero m l same =
      let low : top f start.reading ≡ 0 = blank_top f start without in
      subst (Rests f (8 * 0)) (sym same) (record { recovers = start_recovers; kept = without.kept; low = omega (arith, low) })
  rests (suc n) m l filled =
      let before = rests n filled.0 (omega arith) filled.1 in
      let asked = filling_lawful n in
      let lawful : LawfulReservation f (filling n).series (filling n).end.0 filled.0 =
      record {
        recovers = before.recovers;
        kept = before.kept;
        series = asked.0;
        some = asked.1;
        ends = omega (arith, asked.2);
        numbers = omega (arith, before.low);
      } in
      let supplied =
      enough f (reservation f filled.0.reading (filling n).series (filling n).end)
      (plan f 7 (filling n).series (filling n).end.0 filled.0.reading) filled.0.supply filled.2.answers in
      let whole = reserved_whole f (filling n).series (filling n).end.0 filled.0 m lawful supplied filled.2.goes in
      record { recovers = whole.0.recovers; kept = whole.1; low = omega (arith, before.low, whole.0.most) }

  abbrev sized : ℕ → Format
  sized n = record { tag = 1; top = record { 0 = 999999998 }; sectors = n }

  -- a filled disk may be stopped
  pub may_stop : (m : Meaning) → Filled f start 9 m → LawfulReservation (format m) 7 3 m
  may_stop m filled =
      let r = rests 9 m (omega arith) filled in
      let lawful : LawfulReservation f 7 3 m =
      record {
        recovers = r.recovers;
        kept = r.kept;
        series = omega arith;
        some = omega arith;
        ends = omega arith;
        numbers = omega (arith, r.low);
      } in
      subst (λ (n : ℕ). LawfulReservation (sized n) 7 3 m) r.recovers.sized.count lawful

pub filled_then_stopped :
    (cuts : ℕ → ℕ → Meaning → Meaning → Type 0) (start filled end : Meaning) (supply tear : ℕ) (answer : Result ℕ RingFault) (found : Result Ring RingFault) →
    Filled (format start) start 9 filled → Stops cuts filled supply tear answer found end → FilledAndStopped cuts start supply tear answer found end
filled_then_stopped cuts start filled end supply tear answer found fills stops = record { filled = filled; fills = fills; stops = stops }

-- the answer of a stop that follows
pub both : {T E : Type 0} (x : Result T E) (P Q : T → Type 0) → IsOkAnd x P → ((y : T) → P y → Q y) → IfOk x Q
both (Ok y) P Q h k = k y h
both (Err e) P Q h k = tt
