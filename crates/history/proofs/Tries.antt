-- The operations that a call tries are those of the writes that it asks for, whatever call it is.
use Rattle.std.proofs.Common.{◌≡◌, ℕ, ◌+◌, ◌<◌, ◌≤◌, Bool, true, false, cond, List, [], Some, None, sym, refl, ap, ◌∙◌, subst, ⊎_elim, arith}
use Rattle.std.proofs.lemmas.Bool.{cases_lt, cond-true, cond-false, lt-ltb, le-ltb}
use Rattle.record.specs.declared.numbers.Rank.{Rank}
use Rattle.record.specs.declared.sector.Format.{Format}
use Rattle.disk.specs.Meaning.{Meaning}
use Rattle.kind.specs.Meaning.{Numbering, LawfulKind}
use Rattle.ring.specs.Operations.{tried}
use Rattle.ring.specs.Ring.{plan, Step}
use Rattle.ring.specs.Search.{refusal}
use Rattle.history.specs.History.{Event, latest, end_in, next, wish, steps_of, wanted_by, wanted, asked, dark, numbers_suffice}
use Rattle.server.specs.Rules.{format, Ask, one, Range, Wish, declines, draws, by_floor, tries, tries_by, tries_for}
use Rattle.server.specs.declared.fault.ServerFault.TheVariants.{Series}
use Rattle.server.specs.declared.state.State.{State}
use Rattle.server.specs.declared.state.State.TheVariants.{Up as Awake, Down}
use Rattle.server.specs.declared.state.Up.{Up}
use Rattle.history.proofs.Decides.{floor_cases}
use Rattle.history.proofs.Draws.{decides, not_refused}
use Rattle.history.proofs.Invariant.{IsUp, Invariant}
use Rattle.history.proofs.Quiet.{asked_lit}

-- what a wish claims, if anything, is of one of the eight series and up to an end that a ring takes
abbrev pub Reservable : Numbering → Wish → Type 0
Reservable k (declines fault) = Unit {0}
Reservable k (draws s first n None) = Unit {0}
Reservable k (draws s first n (Some claimed)) = (s < 8) × (0 < claimed.end) × (claimed.end ≤ k.top.0 + 1)

-- on a server that is up, by what it wants
module _ {k : Numbering} {start : Meaning} {past : List Event} {u : Up} (inv : IsUp k start past u) where
  abbrev m : Meaning
  m = latest start past

  abbrev f : Format
  f = format k start

  module _ (s : ℕ) (claimed : Range) (below : s < 8) (some : 0 < claimed.end) (ends : claimed.end ≤ k.top.0 + 1) where
    abbrev to : Rank
    to = record { 0 = claimed.end }

    tries_numbers :
        (b : Bool) → numbers_suffice k start past ≡ b →
        tries_for u.ring m s to (refusal u.ring.format u.ring.known.top.0 s to)
        ≡ tried f (cond (numbers_suffice k start past) (steps_of k start past s claimed) []) m.supply
    unfolding tried
    tries_numbers true numbers =
        ap (tries_for u.ring m s to) (not_refused inv s to below some ends true numbers)
        ∙ ap (λ (x : Format). tried x (plan x 7 s claimed.end m.reading) m.supply) inv.form
        ∙ sym (ap (λ (steps : List Step). tried f steps m.supply) (cond-true (numbers_suffice k start past) (steps_of k start past s claimed) [] numbers))
    tries_numbers false numbers =
        ap (tries_for u.ring m s to) (not_refused inv s to below some ends false numbers)
        ∙ sym (ap (λ (steps : List Step). tried f steps m.supply) (cond-false (numbers_suffice k start past) (steps_of k start past s claimed) [] numbers))

  tries_wish : (w : Wish) → Reservable k w → tries_by u m w ≡ tried f (wanted_by k start past w) m.supply
  unfolding tried
  tries_wish (declines fault) reservable = refl
  tries_wish (draws s first n None) reservable = refl
  tries_wish (draws s first n (Some claimed)) reservable =
      tries_numbers s claimed reservable.0 reservable.1 reservable.2 (numbers_suffice k start past) refl

-- and on any server
pub tries_asked :
    (k : Numbering) (start : Meaning) (past : List Event) (state : State) → Invariant k start past state →
    (ask : Ask) → Reservable k (wish k start ask past) →
    tries k state (latest start past) ask ≡ tried (format k start) (asked k start ask past) (latest start past).supply
unfolding tried
tries_asked k start past (Awake u) inv ask reservable =
    ap (tries_by u (latest start past)) (decides inv ask)
    ∙ tries_wish inv (wish k start ask past) reservable
    ∙ sym (ap (λ (steps : List Step). tried (format k start) steps (latest start past).supply) (asked_lit inv ask))
tries_asked k start past (Down fault) inv ask reservable =
    sym
    (ap (λ (steps : List Step). tried (format k start) steps (latest start past).supply) (cond-true (dark k start past) [] (wanted k start ask past) inv.unlit))

-- what a call wants is such a wish
pub wish_reserves : (k : Numbering) → LawfulKind k → (start : Meaning) (past : List Event) (ask : Ask) → Reservable k (wish k start ask past)
wish_reserves k lawful start past (one s reading) =
    ⊎_elim
    (λ l.
    let is : wish k start (one s reading) past ≡ by_floor k s (end_in k start (latest start past) s) (next k start s past) 1 (k.floor reading) =
    rw (lt-ltb s 8 l) refl in
    subst (Reservable k) (sym is)
    (floor_cases k s (end_in k start (latest start past) s) (next k start s past) 1 reading (Reservable k)
    (λ none. tt) (λ has high. tt) (λ has up_to inside. tt)
    (λ has up_to outside. (l, omega (arith, lawful.least), omega arith))))
    (λ l.
    let is : wish k start (one s reading) past ≡ declines (Series s) = rw (le-ltb s 8 l) refl in
    subst (Reservable k) (sym is) tt)
    (cases_lt s 8)
