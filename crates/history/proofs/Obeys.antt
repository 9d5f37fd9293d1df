-- Every history that is reached obeys the laws: one call more, and then any number of them.
use Rattle.std.proofs.Common.{⊎_elim, ◌≡◌, ℕ, ◌+◌, ◌-◌, ◌*◌, ◌^◌, ◌<◌, ◌≤◌, Bool, true, false, List, [], ◌∷◌, length, Some, None, Ok, Err, Result}
use Rattle.std.proofs.Common.{sym, refl, ap, ◌∙◌, subst, arith}
use Rattle.std.proofs.lemmas.Bool.{cases_lt, lt-ltb, le-ltb, eq-eqb, ne_eqb, or_left, cond-false, cond-true, leb-false}
use Rattle.record.specs.declared.numbers.Identifier.{Identifier}
use Rattle.record.specs.declared.numbers.Reading.{Reading as ClockReading}
use Rattle.record.specs.declared.numbers.Sequence.{Sequence}
use Rattle.disk.specs.Meaning.{Meaning}
use Rattle.disk.specs.Moves.{Moves}
use Rattle.kind.specs.Meaning.{Numbering, LawfulKind}
use Rattle.disk.specs.Blank.{WithoutRecords}
use Rattle.ring.specs.Operations.{Op, Went, tried, Chain}
use Rattle.ring.specs.Ring.{known}
use Rattle.ring.specs.declared.fault.RingFault.TheVariants.{Exhausted}
use Rattle.history.specs.History.{lost, loss, cuts_since, Event, request, cut, told, latest, end_in, next, rank_of, floor_of, wish, steps_of}
use Rattle.history.specs.History.{wanted_by, wanted, asked, succeeded, too_little, dark, writes, standing, top_record, numbers_suffice}
use Rattle.history.specs.Promise.{FloorsZero, HasFloor, AsksByRule, Rising, WithinLoss, Ground, goes_dark, went_dark, above_top, run_short}
use Rattle.history.specs.Promise.{RequestLaws, CutLaws, Obeys, Reached, begun, gave, was_cut, GoesOver, EveryHistoryObeys}
use Rattle.ring.specs.Token.{block_in}
use Rattle.server.specs.Rules.{format, Ask, one, tries, Range, Wish, declines, draws, by_floor, drawn, identified, Reserving, Does, Gave, WasCut}
use Rattle.server.specs.declared.fault.ServerFault.{ServerFault}
use Rattle.server.specs.declared.fault.ServerFault.TheVariants.{Down as WasDown, Series as NoSeries, Reading, AboveTop, Ring as OfRing}
use Rattle.server.specs.declared.state.State.{State}
use Rattle.server.specs.declared.state.State.TheVariants.{Up as Awake, Down}
use Rattle.server.specs.declared.state.Up.{Up}
use Rattle.history.proofs.Decides.{floor_cases, block, claims}
use Rattle.history.proofs.Draws.{Given, Draws, decides, draws_in_hand, draws_reserved}
use Rattle.history.proofs.Given.{Covered, rises, hi_lo_of}
use Rattle.history.proofs.Invariant.{IsUp, IsDown, Invariant}
use Rattle.history.proofs.Rule.{asks_by_rule, up_recovers}
use Rattle.history.proofs.Quiet.{Quiet, dark_is, touches_none, writes_none, standing_none, series_quiet, numbers_last, asked_lit, up_quiet}
use Rattle.history.proofs.Series.{in_blocks_before, lost_block, lost_more, loss_more, Series, GivesNone, keeps, series_given}
use Rattle.history.proofs.Tries.{tries_asked, wish_reserves}
use Rattle.history.proofs.Wakes.{invariant_begun, cut_while_up, cut_while_down}

-- a call to a server that is down
module _ {k : Numbering} {start : Meaning} {past : List Event} {event : Event} {ask : Ask} (inv : IsDown k start past) where
  module _ (q : Quiet k start past event ask) (none : (t : ℕ) → GivesNone t (told event)) where
    pub still_down : IsDown k start (event ∷ past)
    still_down =
        let w = writes_none q in
        let own = keeps k start past (told event) inv.pending (none inv.pending) in
        let same_cuts = ap (loss k (event ∷ past)) own.cuts_stay in
        let more = loss_more k event past (cuts_since inv.pending past) in
        let wide = lost_more k event past in
        record {
          unlit = dark_is k start past event ask q.is ∙ or_left (dark k start past) (too_little (latest start past).supply (wanted k start ask past)) inv.unlit;
          base = inv.base;
          pending = inv.pending;
          claimed = inv.claimed;
          one_of_eight = inv.one_of_eight;
          leaves = rw q.here inv.leaves;
          tops = rw (q.here, w) inv.tops;
          read_tops = rw (q.here, w) inv.read_tops;
          series = λ t l. series_quiet q (inv.series t l) (none t);
          above = inv.above;
          most = omega (arith, inv.most, own.after_stays, own.floor_rises);
          stands = λ t left. rw (standing_none q t (Some left), standing_none q t None) (inv.stands t left);
          counted = λ even. rw (standing_none q inv.pending None) (inv.counted (in_blocks_before k event past even));
        }

-- the laws of a request that is denied, and of one that is given
module _ (k : Numbering) (start : Meaning) (past : List Event) (s : ℕ) (reading : ClockReading) (after : Meaning) where
  module _ (touch : Went (latest start past) (succeeded k start (one s reading) past) after) where
    module _ (tops : top_record k start past ≤ writes k start past) (rule : AsksByRule k start s reading past (asked k start (one s reading) past)) where
      laws_denied :
          (fault : ServerFault) → (fault ≡ AboveTop → (s < 8) × HasFloor k reading × WithinLoss k start s reading past) →
          (s < 8 → HasFloor k reading → Ground k start s reading past) → RequestLaws k start s reading past (Err fault) after
      laws_denied fault within ground =
          record {
            touches = touch;
            by_rule = rule;
            rising = λ x e. absurd (err_not_ok x e);
            loses = λ x e. absurd (err_not_ok x e);
            loses_above = λ e. within (let same : fault ≡ AboveTop = cc in same);
            denied = λ l has _. ground l has;
            denies = λ l has _. (fault, refl);
            lasts = numbers_last (top_record k start past) (writes k start past) tops;
            hi_lo = λ zeros x e. absurd (err_not_ok x e);
          }
        where
          err_not_ok : (x : Identifier) → Err fault ≡ Ok x → ⊥
          err_not_ok x e = cc

      laws_given :
          (identifier : Identifier) → Rising k start s reading past identifier → WithinLoss k start s reading past → (Ground k start s reading past → ⊥) →
          (FloorsZero k → Covered k.block (rank_of k start s reading past) (standing k start s None (request s reading (Ok identifier) after ∷ past))) →
          RequestLaws k start s reading past (Ok identifier) after
      laws_given identifier rising within no_ground covers =
          record {
            touches = touch;
            by_rule = rule;
            rising = λ x e. let same : identifier ≡ x = cc in subst (Rising k start s reading past) same rising;
            loses = λ x e. within;
            loses_above = λ e. absurd cc;
            denied = λ l has d. absurd (let z : Ok identifier ≡ Err d.0 = d.1 in cc);
            denies = λ l has g. absurd (no_ground g);
            lasts = numbers_last (top_record k start past) (writes k start past) tops;
            hi_lo = λ zeros x e. let c = covers zeros in record { covered = c.there; lo = c.lo; below = c.below; sum = c.sum };
          }

-- the rank of a request keeps the bound on loss, as long as its series is in order
within_loss :
    (k : Numbering) (start : Meaning) (past : List Event) (s end : ℕ) (reading : ClockReading) → Series k start past s end →
    WithinLoss k start s reading past
within_loss k start past s end reading inv = omega (arith, inv.bound)

-- what one call more leaves and obeys
abbrev AfterRequest : Numbering → Meaning → List Event → ℕ → ClockReading → Result Identifier ServerFault → State → Meaning → Type 0
AfterRequest k start past s reading answer after m =
    Invariant k start (request s reading answer m ∷ past) after × RequestLaws k start s reading past answer m

-- a request to a server that is up
module _ (k : Numbering) (lawful : LawfulKind k) (start : Meaning) (past : List Event) (u : Up) (inv : IsUp k start past u) where
  module _ (s : ℕ) (reading : ClockReading) (answer : Result Identifier ServerFault) (after : State) (m' : Meaning) where
    rule : AsksByRule k start s reading past (asked k start (one s reading) past)
    rule = asks_by_rule k start past s reading (λ lit. up_recovers inv)

    abbrev m : Meaning
    m = latest start past

    abbrev ask : Ask
    ask = one s reading

    abbrev rank : ℕ
    rank = rank_of k start s reading past

    abbrev end : ℕ
    end = end_in k start m s

    abbrev identifier : Identifier
    identifier = k.identifier s (record { 0 = rank })

    abbrev event : Result Identifier ServerFault → Meaning → Event
    event r left = request s reading r left

    -- what else holds of it, by its answer
    abbrev Also : Result Identifier ServerFault → Meaning → Type 0
    Also r left = RequestLaws k start s reading past r left

    -- declined, and nothing touched
    quiet :
        (fault : ServerFault) → wish k start ask past ≡ declines fault → (fault ≡ AboveTop → (s < 8) × HasFloor k reading) →
        (s < 8 → HasFloor k reading → Ground k start s reading past) →
        (answer ≡ Err fault) × (after ≡ Awake u) × (m' ≡ m) → AfterRequest k start past s reading answer after m'
    quiet fault wants known ground did =
        let q : Quiet k start past (event (Err fault) m) ask =
        record { is = refl; here = refl; nothing = asked_lit inv ask ∙ ap (wanted_by k start past) wants } in
        rw (did.0, did.1, did.2) (
          up_quiet q inv u.blocks inv.eight inv.nexts inv.ends (λ t l. series_quiet q (inv.series t l) tt),
          laws_denied k start past s reading m (touches_none q) inv.tops rule fault
              (λ e. let is = known e in (is.0, is.1, within_loss k start past s end reading (inv.series s is.0))) ground,
        )

    module _ (below : s < 8) (has : HasFloor k reading) (up_to : rank + 1 ≤ k.top.0 + 1) where
      mine : Series k start past s end
      mine = inv.series s below

      gives : (left : Meaning) → Given k start past (event (Ok identifier) left) s rank 1
      gives left =
          record {
            others = ne_eqb s;
            next_others = λ t other. rw (ne_eqb s t other) refl;
            next_own = rw (eq-eqb s s refl) refl;
            own =
                λ to to' i l inside up near counted. series_given i (event (Ok identifier) left) reading 1 to' refl l inside
                (omega (arith, i.near, near, lost_more k (event (Ok identifier) left) past)) counted;
          }

      it_draws : Draws k start past ask event s rank 1 (floor_of k reading) identifier
      it_draws =
          record {
            below = below;
            lawful = up_to;
            asks_it = λ r left. refl;
            leaves = λ r left. refl;
            gives = gives;
            denied = λ fault left t. tt;
            raises = λ fault left. rw (eq-eqb s s refl) (omega arith);
          }

      no_ground :
          2 * length (asked k start ask past) ≤ m.supply → (end < rank + 1 → top_record k start past + 8 ≤ 2 ^ 62 - 1) →
          Ground k start s reading past → ⊥
      no_ground enough suffices (goes_dark l) = omega arith
      no_ground enough suffices (went_dark e) = let z : ◌≡◌ {A = Bool} true false = sym e ∙ inv.lit in cc
      no_ground enough suffices (above_top l) = omega arith
      no_ground enough suffices (run_short l h) = omega (arith, suffices (omega arith))

      laws_drawn :
          (left : Meaning) (to : ℕ) → Went m (succeeded k start ask past) left → Series k start (event (Ok identifier) left ∷ past) s to → rank + 1 ≤ to →
          2 * length (asked k start ask past) ≤ m.supply → (end < rank + 1 → top_record k start past + 8 ≤ 2 ^ 62 - 1) → Also (Ok identifier) left
      laws_drawn left to touch own inside enough suffices =
          laws_given k start past s reading left touch inv.tops rule identifier
          (rises k lawful start past s end reading below has mine (omega arith)) (within_loss k start past s end reading mine) (no_ground enough suffices)
          (λ zeros. hi_lo_of k rank to (standing k start s None (event (Ok identifier) left ∷ past)) (own.counted zeros) (omega arith))

      drawn_in_hand :
          rank + 1 ≤ end → wish k start ask past ≡ draws s rank 1 None →
          (answer ≡ Ok identifier) × (after ≡ drawn u s (block_in u.blocks s).end rank 1) × (m' ≡ m) →
          AfterRequest k start past s reading answer after m'
      drawn_in_hand inside wants did = draws_in_hand inv it_draws Also laws_drawn wants inside answer after m' did

      abbrev claimed : Range
      claimed = block k s end (next k start s past) 1 reading

      drawn_reserved :
          end < rank + 1 → wish k start ask past ≡ draws s rank 1 (Some claimed) →
          Reserving u m s rank 1 claimed identifier answer after m' → AfterRequest k start past s reading answer after m'
      drawn_reserved outside wants did =
          draws_reserved inv it_draws Also laws_drawn claimed wants
          (λ r left.
          claims k s end (next k start s past) 1 reading (lost k (event r left ∷ past)) lawful (lost_block k (event r left ∷ past)) refl
          mine.inside up_to outside)
          (λ numbers.
          let q : Quiet k start past (event (Err (OfRing Exhausted)) m) ask =
          record {
            is = refl;
            here = refl;
            nothing =
                asked_lit inv ask ∙ ap (wanted_by k start past) wants
                ∙ cond-false (numbers_suffice k start past) (steps_of k start past s claimed) [] numbers;
          } in
          laws_denied k start past s reading m (touches_none q) inv.tops rule (OfRing Exhausted) (λ e. absurd cc)
          (λ l has. run_short (omega arith) (leb-false (top_record k start past + 8) (2 ^ 62 - 1) numbers)))
          (λ fault left touch little. laws_denied k start past s reading left touch inv.tops rule (OfRing fault) (λ e. absurd cc) (λ l has. goes_dark little))
          answer after m' did

    -- by what it wants
    abbrev Allows : Wish → Type 0
    Allows w = wish k start ask past ≡ w → Does (identified k) u m w answer after m' → AfterRequest k start past s reading answer after m'

    pub request_up : Gave k (Awake u) m s reading answer after m' → AfterRequest k start past s reading answer after m'
    request_up did =
        let d = subst (λ (w : Wish). Does (identified k) u m w answer after m') (decides inv ask) did in
        ⊎_elim
        (λ l.
        let is : wish k start ask past ≡ by_floor k s end (next k start s past) 1 (k.floor reading) = rw (lt-ltb s 8 l) refl in
        floor_cases k s end (next k start s past) 1 reading Allows
        (λ none wants d. quiet Reading wants (λ h. absurd cc) (λ below has. absurd (let z : None ≡ Some has.0 = sym none ∙ has.1 in cc)) d)
        (λ has high wants d. quiet AboveTop wants (λ h. (l, has)) (λ below floored. above_top (omega arith)) d)
        (λ has up_to inside wants d. drawn_in_hand l has up_to inside wants d)
        (λ has up_to outside wants d. drawn_reserved l has up_to outside wants d)
        is (subst (λ (w : Wish). Does (identified k) u m w answer after m') is d))
        (λ l.
        let is : wish k start ask past ≡ declines (NoSeries s) = rw (le-ltb s 8 l) refl in
        quiet (NoSeries s) is (λ h. absurd cc) (λ below. absurd (omega (arith, l))) (subst (λ (w : Wish). Does (identified k) u m w answer after m') is d))
        (cases_lt s 8)

-- one request more
request_more :
    (k : Numbering) (lawful : LawfulKind k) (start : Meaning) (past : List Event) (state : State) → Invariant k start past state →
    (s : ℕ) (reading : ClockReading) (answer : Result Identifier ServerFault) (after : State) (m : Meaning) →
    Gave k state (latest start past) s reading answer after m → AfterRequest k start past s reading answer after m
request_more k lawful start past (Awake u) inv s reading answer after m did = request_up k lawful start past u inv s reading answer after m did
request_more k lawful start past (Down fault) inv s reading answer after m did =
    let m = latest start past in
    let q : Quiet k start past (request s reading (Err (WasDown fault)) m) (one s reading) =
    record { is = refl; here = refl; nothing = cond-true (dark k start past) [] (wanted k start (one s reading) past) inv.unlit } in
    rw (did.0, did.1, did.2) (
      still_down inv q (λ t. tt),
      laws_denied k start past s reading m (touches_none q) inv.read_tops
          (asks_by_rule k start past s reading (λ lit. absurd (let z : ◌≡◌ {A = Bool} true false = sym inv.unlit ∙ lit in cc)))
          (WasDown fault) (λ e. absurd cc) (λ l has. went_dark inv.unlit),
    )

-- one cut more
cut_more :
    (k : Numbering) (start : Meaning) (past : List Event) (state : State) → Invariant k start past state →
    (tear supply : ℕ) (answer : Result Sequence ServerFault) (after : State) (m : Meaning) →
    WasCut k (latest start past) supply answer after m →
    Invariant k start (cut tear supply answer m ∷ past) after × CutLaws k start supply past answer m
cut_more k start past (Awake u) inv tear supply answer after m was = cut_while_up k start past tear supply answer after m was u inv
cut_more k start past (Down fault) inv tear supply answer after m was = cut_while_down k start past tear supply answer after m was inv

-- a history that is reached: where the disk is, what holds of the server, and the laws
module _ {D : Type 0} (moves : Moves D) (meaning : D → Meaning) (k : Numbering) (first : D) where
  record KeptTo (past : List Event) (state : State) (d : D) : Type 0 where
    here : meaning d ≡ latest (meaning first) past
    holds : Invariant k (meaning first) past state
    obeys : Obeys k (meaning first) past
    goes : GoesOver moves meaning k first past d

  keeps_to :
      LawfulKind k → WithoutRecords (meaning first) → {past : List Event} {state : State} {d : D} →
      Reached moves meaning k first past state d → KeptTo past state d
  keeps_to lawful without begun =
      record { here = refl; holds = invariant_begun k (meaning first) lawful without; obeys = tt; goes = refl }
  keeps_to lawful without (gave {past} {state} {after} {d} {d'} {s} {reading} {answer} reached did chain) =
      let before = keeps_to lawful without reached in
      let more =
      request_more k lawful (meaning first) past state before.holds s reading answer after (meaning d')
      (subst (λ (x : Meaning). Gave k state x s reading answer after (meaning d')) before.here did) in
      let ops =
      ap (λ (x : Meaning). tries k state x (one s reading)) before.here
      ∙ tries_asked k (meaning first) past state before.holds (one s reading) (wish_reserves k lawful (meaning first) past (one s reading))
      ∙ ap (λ (x : Meaning). tried (format k (meaning first)) (asked k (meaning first) (one s reading) past) x.supply) (sym before.here) in
      record {
        here = refl;
        holds = more.0;
        obeys = (more.1, before.obeys);
        goes = (d, before.goes, subst (λ (x : List Op). Chain moves d x d') ops chain);
      }
  keeps_to lawful without (was_cut {past} {state} {after} {d} {d'} {tear} {supply} {answer} reached did cuts) =
      let before = keeps_to lawful without reached in
      let more =
      cut_more k (meaning first) past state before.holds tear supply answer after (meaning d')
      (subst (λ (x : Meaning). WasCut k x supply answer after (meaning d')) before.here did) in
      record { here = refl; holds = more.0; obeys = (more.1, before.obeys); goes = (d, before.goes, cuts) }

pub every_history_obeys : {D : Type 0} (moves : Moves D) (meaning : D → Meaning) → EveryHistoryObeys moves meaning
every_history_obeys moves meaning k first history state d lawful without reached =
    let kept = keeps_to moves meaning k first lawful without reached in
    (kept.obeys, kept.goes)
