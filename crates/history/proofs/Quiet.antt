-- Calls that touch no disk: denied ones, and ranks drawn from the block in hand.
use Rattle.std.proofs.Common.{◌≡◌, ℕ, ◌+◌, ◌-◌, ◌^◌, ◌<◌, ◌≤◌, ◌||◌, List, [], ◌∷◌, ◌++◌, length, Some, None, Option, sym, refl, ap, ◌∙◌, subst, arith}
use Rattle.std.proofs.lemmas.Bool.{or_from, cond-false, le-ltb}
use Rattle.disk.specs.Meaning.{Meaning}
use Rattle.kind.specs.Meaning.{Numbering}
use Rattle.ring.specs.Operations.{Op, Went, performed, writes_in}
use Rattle.ring.specs.Ring.{Step}
use Rattle.ring.specs.declared.token.Blocks.{Blocks}
use Rattle.history.specs.History.{Event, asks, told, after_of, latest, end_in, next, wish, wanted, asked, succeeded, too_little, dark_by, dark}
use Rattle.history.specs.History.{writes_by, writes, reserved_by, made, cut_from, standing}
use Rattle.server.specs.Rules.{format, Ask, Range, Wish, draws, end_at, next_at}
use Rattle.server.specs.declared.state.Up.{Up}
use Rattle.history.proofs.Invariant.{IsUp}
use Rattle.history.proofs.Series.{Series, GivesNone, series_kept}

none-performed : (k : Numbering) (start : Meaning) (steps : List Step) (supply : ℕ) → steps ≡ [] → performed (format k start) steps supply ≡ []
unfolding performed
none-performed k start steps supply e = ap (λ (x : List Step). performed (format k start) x supply) e

none_written : (ops : List Op) → ops ≡ [] → writes_in ops ≡ 0
unfolding writes_in
none_written ops e = ap writes_in e

none-reserved : (k : Numbering) (start : Meaning) (s supply : ℕ) (x : Option Meaning) (want : Wish) → reserved_by k start s supply x want [] ≡ []
none-reserved k start s supply x (draws t first n (Some claimed)) = refl
none-reserved k start s supply x want = refl

-- sequence numbers run short only after that many writes
pub numbers_last : (top written : ℕ) → top ≤ written → 2 ^ 62 - 1 < top + 8 → 2 ^ 62 - 8 ≤ written
numbers_last top written l h = omega arith

-- an event that asks for something
module _ (k : Numbering) (start : Meaning) (past : List Event) (event : Event) (ask : Ask) (is : asks event ≡ Some ask) where
  pub dark_is : dark k start (event ∷ past) ≡ (dark k start past || too_little (latest start past).supply (wanted k start ask past))
  dark_is = ap (dark_by k start past (dark k start past)) is

  pub writes_is : writes k start (event ∷ past) ≡ writes k start past + writes_in (succeeded k start ask past)
  writes_is = ap (writes_by k start past (writes k start past)) is

  pub standing_is : (s : ℕ) (x : Option Meaning) → standing k start s x (event ∷ past) ≡ made k start s x past (Some ask) ++ standing k start s x past
  standing_is s x = ap (λ (o : Option Ask). made k start s x past o ++ standing k start s (cut_from o (after_of event) x) past) is

-- a call that asks for no write, and leaves the disk as it is
pub record Quiet (k : Numbering) (start : Meaning) (past : List Event) (event : Event) (ask : Ask) : Type 0 where
  pub is : asks event ≡ Some ask
  pub here : after_of event ≡ latest start past
  pub nothing : asked k start ask past ≡ []

module _ {k : Numbering} {start : Meaning} {past : List Event} {event : Event} {ask : Ask} (q : Quiet k start past event ask) where
  none_succeeds : succeeded k start ask past ≡ []
  none_succeeds = none-performed k start (asked k start ask past) (latest start past).supply q.nothing

  pub touches_none : Went (latest start past) (succeeded k start ask past) (latest start past)
  touches_none = subst (λ (ops : List Op). Went (latest start past) ops (latest start past)) (sym none_succeeds) refl

  pub writes_none : writes k start (event ∷ past) ≡ writes k start past
  writes_none = omega (arith, writes_is k start past event ask q.is, none_written (succeeded k start ask past) none_succeeds)

  pub standing_none : (s : ℕ) (x : Option Meaning) → standing k start s x (event ∷ past) ≡ standing k start s x past
  standing_none s x =
      standing_is k start past event ask q.is s x
      ∙ ap (λ (steps : List Step). reserved_by k start s (latest start past).supply x (wish k start ask past) steps ++ standing k start s x past) q.nothing
      ∙ ap (λ (rs : List Range). rs ++ standing k start s x past) (none-reserved k start s (latest start past).supply x (wish k start ask past))

  -- a series that it gives no rank stays in order
  pub series_quiet : {s end : ℕ} → Series k start past s end → GivesNone s (told event) → Series k start (event ∷ past) s end
  series_quiet {s} inv none = series_kept inv event none (standing_none s None)

  -- a server that is up stays up, with the blocks in hand after it
  pub up_quiet :
      {u : Up} → IsUp k start past u → (blocks : Blocks) → length blocks.0 ≡ 8 →
      ((s : ℕ) → s < 8 → next_at (record { ring = u.ring; blocks = blocks }) s ≡ next k start s (event ∷ past)) →
      ((s : ℕ) → s < 8 → end_at (record { ring = u.ring; blocks = blocks }) s ≡ end_in k start (latest start past) s) →
      ((s : ℕ) → s < 8 → Series k start (event ∷ past) s (end_in k start (latest start past) s)) →
      IsUp k start (event ∷ past) (record { ring = u.ring; blocks = blocks })
  up_quiet inv blocks eight are ends series =
      let wants : wanted k start ask past ≡ [] = sym (cond-false (dark k start past) [] (wanted k start ask past) inv.lit) ∙ q.nothing in
      record {
        lit =
            dark_is k start past event ask q.is
            ∙ or_from (dark k start past) (too_little (latest start past).supply (wanted k start ask past)) inv.lit
            (ap (too_little (latest start past).supply) wants ∙ le-ltb (latest start past).supply 0 (omega arith));
        agrees = rw q.here inv.agrees;
        form = inv.form;
        kept = rw q.here inv.kept;
        eight = eight;
        nexts = are;
        ends = λ s l. rw q.here (ends s l);
        series = λ s l. rw q.here (series s l);
        tops = rw (q.here, writes_none) inv.tops;
      }

-- while the server is up, a call that wants no write is such a one
pub asked_lit :
    {k : Numbering} {start : Meaning} {past : List Event} {u : Up} → IsUp k start past u → (ask : Ask) →
    asked k start ask past ≡ wanted k start ask past
asked_lit {k} {start} {past} inv ask = cond-false (dark k start past) [] (wanted k start ask past) inv.lit
