-- What a request asks of the disk is what the ring's rule asks for.
use Rattle.std.proofs.Common.{◌≡◌, ℕ, ◌+◌, ◌-◌, ◌^◌, ◌<◌, ◌≤◌, Bool, true, false, cond, List, [], length, Some, None, sym, refl, ap, ◌∙◌, subst, ⊎_elim, arith}
use Rattle.std.proofs.lemmas.Bool.{cases_lt, cond-true, lt-ltb, le-ltb, le-leb, leb-true}
use Rattle.record.specs.declared.numbers.Reading.{Reading as ClockReading}
use Rattle.record.specs.declared.sector.Format.{Format}
use Rattle.disk.specs.Meaning.{Meaning}
use Rattle.kind.specs.Meaning.{Numbering}
use Rattle.ring.specs.Left.{Recovers, Follows}
use Rattle.ring.specs.Ring.{plan}
use Rattle.ring.proofs.Plans.{seven_carries, most_steps}
use Rattle.ring.proofs.Starts.{agrees_recovers}
use Rattle.server.specs.Rules.{format, Ask, one, Range, Wish, declines, draws, by_floor}
use Rattle.server.specs.declared.fault.ServerFault.TheVariants.{Series}
use Rattle.server.specs.declared.state.Up.{Up}
use Rattle.history.specs.History.{Event, latest, end_in, next, wish, steps_of, wanted_by, wanted, asked, dark, top_record, numbers_suffice}
use Rattle.history.specs.Promise.{MustReserve, new_end, AsksByRule}
use Rattle.history.proofs.Decides.{floor_cases, block}
use Rattle.history.proofs.Invariant.{IsUp}

-- while a server is up its disk recovers
pub up_recovers : {k : Numbering} {start : Meaning} {past : List Event} {u : Up} → IsUp k start past u → Recovers (format k start) (latest start past).reading
up_recovers {k} {start} {past} {u} inv =
    subst (λ (x : Format). Recovers x (latest start past).reading) inv.form (agrees_recovers u.ring (latest start past) inv.agrees)

module _ (k : Numbering) (start : Meaning) (past : List Event) (s : ℕ) (reading : ClockReading) where
  abbrev m : Meaning
  m = latest start past

  abbrev f : Format
  f = format k start

  abbrev ask : Ask
  ask = one s reading

  abbrev end : ℕ
  end = end_in k start m s

  abbrev to : ℕ
  to = new_end k start s reading past

  abbrev claimed : Range
  claimed = block k s end (next k start s past) 1 reading

  in_series : s < 8 → wish k start ask past ≡ by_floor k s end (next k start s past) 1 (k.floor reading)
  in_series l = rw (lt-ltb s 8 l) refl

  out_of_series : 8 ≤ s → wish k start ask past ≡ declines (Series s)
  out_of_series l = rw (le-ltb s 8 l) refl

  asked_by : (b : Bool) → dark k start past ≡ b → asked k start ask past ≡ cond b [] (wanted k start ask past)
  asked_by b e = ap (λ (x : Bool). cond x [] (wanted k start ask past)) e

  follows : ((dark k start past ≡ false) → Recovers f m.reading) → MustReserve k start s reading past → Follows f s to m.reading (asked k start ask past)
  follows recovers must =
      let all : wanted k start ask past ≡ plan f 7 s to m.reading =
      subst (λ (w : Wish). wanted_by k start past w ≡ plan f 7 s to m.reading) (sym (in_series must.series))
      (floor_cases k s end (next k start s past) 1 reading (λ (w : Wish). wanted_by k start past w ≡ plan f 7 s to m.reading)
      (λ none. absurd (let z : None ≡ Some must.floor.0 = sym none ∙ must.floor.1 in cc))
      (λ has high. absurd (omega (arith, must.lawful)))
      (λ has up_to inside. absurd (omega (arith, must.outside)))
      (λ has up_to outside.
      cond-true (numbers_suffice k start past) (steps_of k start past s claimed) [] (le-leb (top_record k start past + 8) (2 ^ 62 - 1) must.numbers)
      ∙ ap (λ (x : ℕ). plan f 7 s x m.reading) (let z : claimed.end ≡ to = omega arith in z))) in
      subst (Follows f s to m.reading) (sym (asked_by false must.lit ∙ all))
      (seven_carries f s to m.reading
      (record { recovers = recovers must.lit; series = must.series; numbers = omega (arith, must.numbers) })).0

  wanted_short : (w : Wish) → length (wanted_by k start past w) ≤ 8
  wanted_short (declines fault) = omega arith
  wanted_short (draws t first n None) = omega arith
  wanted_short (draws t first n (Some claim)) = by_test (numbers_suffice k start past)
    where
      by_test : (b : Bool) → length (cond b (steps_of k start past t claim) []) ≤ 8
      by_test true = most_steps f t claim.end m.reading
      by_test false = omega arith

  asked_short : (b : Bool) → length (cond b [] (wanted k start ask past)) ≤ 8
  asked_short true = omega arith
  asked_short false = wanted_short (wish k start ask past)

  nothing : (MustReserve k start s reading past → ⊥) → asked k start ask past ≡ []
  nothing need_not = by_dark (dark k start past) refl
    where
      by_numbers :
          (b : Bool) → numbers_suffice k start past ≡ b → (top_record k start past + 8 ≤ 2 ^ 62 - 1 → ⊥) →
          cond b (steps_of k start past s claimed) [] ≡ []
      by_numbers true e short = absurd (short (leb-true (top_record k start past + 8) (2 ^ 62 - 1) e))
      by_numbers false e short = refl

      lit_nothing : dark k start past ≡ false → wanted k start ask past ≡ []
      lit_nothing lit =
          ⊎_elim
          (λ l.
          subst (λ (w : Wish). wanted_by k start past w ≡ []) (sym (in_series l))
          (floor_cases k s end (next k start s past) 1 reading (λ (w : Wish). wanted_by k start past w ≡ [])
          (λ none. refl) (λ has high. refl) (λ has up_to inside. refl)
          (λ has up_to outside.
          by_numbers (numbers_suffice k start past) refl
          (λ numbers. need_not (record { series = l; floor = has; lawful = omega arith; outside = omega arith; lit = lit; numbers = numbers })))))
          (λ l. ap (wanted_by k start past) (out_of_series l))
          (cases_lt s 8)

      by_dark : (b : Bool) → dark k start past ≡ b → asked k start ask past ≡ []
      by_dark true e = asked_by true e
      by_dark false e = asked_by false e ∙ lit_nothing e

  pub asks_by_rule : ((dark k start past ≡ false) → Recovers f m.reading) → AsksByRule k start s reading past (asked k start ask past)
  asks_by_rule recovers = record { follows = follows recovers; carries = asked_short (dark k start past); nothing = nothing }
