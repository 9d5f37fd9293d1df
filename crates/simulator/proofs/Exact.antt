-- Each of the two disks goes by its operations as a function, and so does a request.
use Rattle.std.proofs.Common.{◌≡◌, ℕ, ◌-◌, Bool, true, false, cond, List, [], set, Some, None, Ok, Err, Option, Result, sym, refl, ap, ◌∙◌, subst}
use Rattle.std.proofs.lemmas.List.{set-set, set-get_or}
use Rattle.record.specs.declared.numbers.Identifier.{Identifier}
use Rattle.record.specs.declared.numbers.Rank.{Rank}
use Rattle.record.specs.declared.numbers.Reading.{Reading}
use Rattle.disk.specs.Devices.{Stands, stands, before, faithful, torn_disk, write_through, latest_write}
use Rattle.disk.specs.Holding.{Holding}
use Rattle.disk.specs.Meaning.{Meaning, at}
use Rattle.kind.specs.Meaning.{Numbering}
use Rattle.ring.proofs.Determined.{determined}
use Rattle.ring.specs.Operations.{Op, put, settle, Move, Chain}
use Rattle.ring.specs.Ring.{known}
use Rattle.ring.specs.Search.{Ended, refusal}
use Rattle.ring.specs.declared.fault.RingFault.{RingFault}
use Rattle.ring.specs.declared.ring.Ring.{Ring}
use Rattle.ring.specs.declared.token.Reserved.{Reserved}
use Rattle.server.specs.Rules.{with_ring, one, Range, Wish, declines, draws, decide, end_at, next_at}
use Rattle.server.specs.Rules.{drawn, identified, tries_for, tries_by, tries, Answered, Reserving, Does, Gave}
use Rattle.server.specs.declared.fault.ServerFault.{ServerFault}
use Rattle.server.specs.declared.state.State.{State}
use Rattle.server.specs.declared.state.State.TheVariants.{Up as Awake, Down}
use Rattle.server.specs.declared.state.Up.{Up}
use Rattle.simulator.specs.Devices.{meaning_of, make_of, device_moves, is_carried_out, after_try, after_tries}
use Rattle.simulator.specs.Requests.{LeftBy, after_reserving, reserved_by, decided, given_by}
use Rattle.simulator.specs.declared.device.Device.{Device}
use Rattle.simulator.specs.declared.device.Device.TheVariants.{Faithful, Torn}
use Rattle.simulator.specs.declared.device.Make.{Make}
use Rattle.simulator.proofs.Tears.{means}

-- a function of one of two values
of_either : {A B : Type 0} (f : A → B) (b : Bool) (x y : A) → f (cond b x y) ≡ cond b (f x) (f y)
of_either f true x y = refl
of_either f false x y = refl

-- how a disk over memory stands once a write or a flush of it has succeeded
abbrev put_in : {H : Type 0} → Holding H → Stands H → ℕ → List ℕ → Stands H
put_in w x i bytes =
    record {
      reading = set x.reading i bytes;
      beyond = x.beyond;
      held = w.with_write x.held i (at x.reading i);
      supply = x.supply - 1;
    }

abbrev settled_in : {H : Type 0} → Holding H → Stands H → Stands H
settled_in w x = record { reading = x.reading; beyond = x.beyond; held = w.nothing; supply = x.supply - 1 }

-- each operation is a function of what the disk means, and leaves the same disk
each_is :
    (d d' : Device) (op : Op) → Move device_moves d op d' →
    (make_of d' ≡ make_of d) × (meaning_of d' ≡ after_try (make_of d) (meaning_of d) op)
each_is (Faithful d) (Faithful d') (put i bytes) e = (
  refl,
  ap (means write_through.before) e
      ∙ of_either (means write_through.before) (is_carried_out (faithful d) i) (put_in write_through (stands d) i bytes) (stands d),
)
each_is (Torn d) (Torn d') (put i bytes) e =
    let xs = (stands d).reading in
    let kept : set (set xs i bytes) i (at xs i) ≡ xs = set-set xs i bytes (at xs i) ∙ set-get_or xs i [] in (
      refl,
      ap (means before) e
          ∙ of_either (means before) (is_carried_out (torn_disk d) i) (put_in latest_write (stands d) i bytes) (stands d)
          ∙ ap
          (λ (ys : List (List ℕ)). cond (is_carried_out (torn_disk d) i)
          (record { reading = set xs i bytes; kept = ys; supply = d.supply - 1; beyond = (stands d).beyond })
          (torn_disk d))
          kept,
    )
each_is (Faithful d) (Faithful d') (settle i) e = (
  refl,
  ap (means write_through.before) e
      ∙ of_either (means write_through.before) (is_carried_out (faithful d) i) (settled_in write_through (stands d)) (stands d),
)
each_is (Torn d) (Torn d') (settle i) e = (
  refl,
  ap (means before) e
      ∙ of_either (means before) (is_carried_out (torn_disk d) i) (settled_in latest_write (stands d)) (stands d),
)
each_is (Faithful d) (Torn d') (put i bytes) e = absurd e
each_is (Torn d) (Faithful d') (put i bytes) e = absurd e
each_is (Faithful d) (Torn d') (settle i) e = absurd e
each_is (Torn d) (Faithful d') (settle i) e = absurd e

-- so are any that are tried one after the other
pub tries_are :
    (d d' : Device) (ops : List Op) → Chain device_moves d ops d' →
    (make_of d' ≡ make_of d) × (meaning_of d' ≡ after_tries (make_of d) (meaning_of d) ops)
unfolding after_tries
tries_are d d' ops chain =
    determined device_moves (λ x. make_of x ≡ make_of d) meaning_of (after_try (make_of d))
    (λ x y op same move.
    let is = each_is x y op move in
    (is.0 ∙ same, is.1 ∙ ap (λ (make : Make). after_try make (meaning_of x) op) same))
    d d' ops refl chain

-- what a call leaves, by its parts
same_left :
    {A : Type 0} {r r' : Result A ServerFault} {state state' : State} {m m' : Meaning} → r ≡ r' → state ≡ state' → m ≡ m' →
    ◌≡◌ {A = LeftBy A} (record { answer = r; state = state; disk = m }) (record { answer = r'; state = state'; disk = m' })
same_left e s d = rw (e, s, d)

-- a ring that has ended a reservation is what its disk then reads
ring_is :
    (r : Ring) (s : ℕ) (end : Rank) (m m' : Meaning) (answer : Result Reserved RingFault) (ring : Ring) →
    Ended r.format s end m answer ring m' → ring ≡ record { format = r.format; known = known r.format m'.reading }
ring_is r s end m m' answer ring ended = rw (ended.agrees.knows, ended.format) refl

-- a call is a function of the server's state and of what its disk means
module _ {A : Type 0} (answers : ℕ → ℕ → ℕ → Option Range → A) (make : Make) (m m' : Meaning) (r : Result A ServerFault) (after : State) where
  abbrev Is : LeftBy A → Type 0
  Is left = ◌≡◌ {A = LeftBy A} (record { answer = r; state = after; disk = m' }) left

  by_answer :
      (u : Up) (s first n : ℕ) (given : A) (ring : Ring) (answer : Result Reserved RingFault) →
      Answered u s first n given ring answer r after →
      ring ≡ record { format = u.ring.format; known = known u.ring.format m'.reading } →
      Is (after_reserving u s first n given m' answer)
  by_answer u s first n given ring (Ok reserved) answered same =
      same_left answered.0
      (answered.1 ∙ ap (λ (x : Ring). drawn (with_ring u x) s reserved.end first n) same)
      refl
  by_answer u s first n given ring (Err fault) answered same = same_left answered.0 answered.1 refl

  by_refusal :
      (u : Up) (s first n : ℕ) (claimed : Range) (given : A) (o : Option RingFault) →
      refusal u.ring.format u.ring.known.top.0 s (record { 0 = claimed.end }) ≡ o →
      Reserving u m s first n claimed given r after m' →
      m' ≡ after_tries make m (tries_for u.ring m s (record { 0 = claimed.end }) o) →
      Is (reserved_by make u m s first n claimed.end given o)
  by_refusal u s first n claimed given (Some fault) e did went =
      let none = did.reserves.refused fault e in
      let answered =
      subst (λ (x : Result Reserved RingFault). Answered u s first n given did.ring x r after) none.0 did.answered in
      same_left answered.0 answered.1 none.2
  by_refusal u s first n claimed given None e did went =
      let ended = did.reserves.reserves e in
      let same = ring_is u.ring s (record { 0 = claimed.end }) m m' did.answer did.ring ended in
      by_answer u s first n given did.ring did.answer did.answered same
      ∙ ap (λ (x : Meaning). after_reserving u s first n given x did.answer) went
      ∙ ap (after_reserving u s first n given _) (sym ended.answers)

  by_wish :
      (u : Up) (want : Wish) → Does answers u m want r after m' → m' ≡ after_tries make m (tries_by u m want) →
      Is (decided answers make u m want)
  by_wish u (declines fault) did went = same_left did.0 did.1 did.2
  by_wish u (draws s first n None) did went = same_left did.0 did.1 did.2
  by_wish u (draws s first n (Some claimed)) did went = by_refusal u s first n claimed _ _ refl did went

-- and so is a request
pub given_is :
    (make : Make) (k : Numbering) (m m' : Meaning) (s : ℕ) (r : Result Identifier ServerFault) (after state : State)
    (reading : Reading) → Gave k state m s reading r after m' → m' ≡ after_tries make m (tries k state m (one s reading)) →
    ◌≡◌ {A = LeftBy Identifier} (record { answer = r; state = after; disk = m' }) (given_by make k state m s reading)
unfolding given_by
given_is make k m m' s r after (Down fault) reading gave went = same_left gave.0 gave.1 gave.2
given_is make k m m' s r after (Awake u) reading gave went =
    by_wish (identified k) make m m' r after u (decide k (end_at u) (next_at u) (one s reading)) gave went
