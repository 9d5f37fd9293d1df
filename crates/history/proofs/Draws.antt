-- A call that draws ranks on a server that is up, whatever call it is.
use Rattle.std.proofs.Common.{◌≡◌, ◌≢◌, ℕ, ◌+◌, ◌-◌, ◌*◌, ◌^◌, ◌<◌, ◌≤◌, max, Bool, true, false, cond, ltb, leb, List, [], ◌∷◌, length, set, Some}
use Rattle.std.proofs.Common.{None, Ok, Err, Result, sym, refl, ap, ◌∙◌, subst, ⊎_elim, arith, min, ◌&&◌, eqb, ◌++◌, Option}
use Rattle.std.proofs.lemmas.List.{get_or_past, get_or-set_same, get_or-set_other, length-set}
use Rattle.std.proofs.lemmas.Bool.{cond-true, le-ltb, cases_eq, cases_lt, cond-false, lt-ltb, le-leb, leb-true, eq-eqb, ne_eqb, or_from, or_right, and_right}
use Rattle.std.proofs.Math.Path.{fun_ext}
use Rattle.record.specs.declared.numbers.Rank.{Rank}
use Rattle.record.specs.declared.sector.Format.{Format}
use Rattle.disk.specs.Meaning.{Meaning}
use Rattle.kind.specs.Meaning.{Numbering}
use Rattle.ring.specs.Operations.{Went, performed, writes_in}
use Rattle.ring.specs.Ring.{known, Step, Agrees}
use Rattle.ring.specs.Search.{reservation, Ended, refusal}
use Rattle.ring.specs.declared.fault.RingFault.{RingFault}
use Rattle.ring.specs.declared.fault.RingFault.TheVariants.{Exhausted}
use Rattle.ring.specs.Token.{empty_block, block_in, with_block}
use Rattle.ring.specs.declared.known.Known.{Known}
use Rattle.ring.specs.declared.ring.Ring.{Ring}
use Rattle.ring.specs.declared.token.Block.{Block}
use Rattle.ring.specs.declared.token.Reserved.{Reserved}
use Rattle.ring.proofs.Leaves.{operations_counted, cut_within, reserved_whole, tops_counted}
use Rattle.ring.proofs.Plans.{some_steps as plan_some}
use Rattle.ring.proofs.Starts.{agrees_recovers}
use Rattle.server.proofs.Requests.{stopped_tells, outcome_is}
use Rattle.history.specs.History.{of_eight, lost, Event, asks, told, after_of, latest, end_in, next, wish, steps_of, wanted_by, asked, succeeded}
use Rattle.history.specs.History.{floor_by, floor_since, standing, top_record, numbers_suffice, loss, cuts_since, wanted, too_little, dark, writes}
use Rattle.history.specs.History.{left_standing, reserved_by}
use Rattle.server.specs.Rules.{format, Ask, Range, draws, decide, end_at, next_at, drawn, with_ring, stopped, Answered, Reserving, Wish}
use Rattle.server.specs.declared.fault.ServerFault.{ServerFault}
use Rattle.server.specs.declared.fault.ServerFault.TheVariants.{Ring as OfRing}
use Rattle.server.specs.declared.state.State.{State}
use Rattle.server.specs.declared.state.Up.{Up}
use Rattle.history.proofs.Invariant.{IsUp, Invariant, IsDown}
use Rattle.history.proofs.Quiet.{Quiet, touches_none, standing_none, series_quiet, asked_lit, up_quiet, dark_is, writes_is, standing_is}
use Rattle.history.proofs.Series.{InBlocks, in_blocks_before, Series, GivesNone, Counted, keeps, loss_more, series_kept}
use Rattle.ring.specs.Left.{Recovers, LawfulReservation}
use Rattle.history.proofs.Given.{counted_more}
use Rattle.history.proofs.Wakes.{standing_lit}

-- what is flushed stands; what is not stands as the next cut leaves it
module _ (k : Numbering) (start : Meaning) (t supply : ℕ) (x : Option Meaning) (s first n : ℕ) (claimed : Range) where
  flushed :
      (steps : List Step) → 1 ≤ length steps → 2 * length steps ≤ supply →
      reserved_by k start t supply x (draws s first n (Some claimed)) steps ≡ cond (eqb s t && true) (claimed ∷ []) []
  flushed [] some enough = absurd (omega arith)
  flushed (step ∷ steps) some enough = rw (le-ltb supply (2 * length (step ∷ steps)) enough) refl

  unflushed :
      (steps : List Step) → supply < 2 * length steps →
      reserved_by k start t supply x (draws s first n (Some claimed)) steps ≡ cond (eqb s t && left_standing k start t claimed.end x) (claimed ∷ []) []
  unflushed [] little = absurd (omega arith)
  unflushed (step ∷ steps) little = rw (lt-ltb supply (2 * length (step ∷ steps)) little) refl

-- a claim that a wish makes, by the series' end and its next rank and the floor of what is asked
pub record Claims (k : Numbering) (Even : Type 0) (lost end next floor first n : ℕ) (claimed : Range) : Type 0 where
  pub above : end < claimed.end
  pub covers : first + n ≤ claimed.end
  pub ends : claimed.end ≤ k.top.0 + 1
  pub near : claimed.end ≤ first + n + lost
  pub most : claimed.end ≤ max next floor + lost
  -- where reservations are blocks, it is the block after the end
  pub whole : Even → (claimed.first ≡ end) × (claimed.end ≡ min (end + k.block) (k.top.0 + 1))

-- what a reservation is refused for, where series and end are lawful
refusal_is :
    (f : Format) (t s : ℕ) (end : Rank) (b : Bool) → s < 8 → 0 < end.0 → end.0 ≤ f.top.0 + 1 → leb (t + 8) (2 ^ 62 - 1) ≡ b →
    refusal f t s end ≡ cond b None (Some Exhausted)
refusal_is f t s end b below some upper e =
    rw (lt-ltb 0 end.0 some, le-leb end.0 (f.top.0 + 1) upper, lt-ltb s 8 below, e) refl

-- no block
abbrev no_block : Block
no_block = empty_block (record { 0 = 0 })

-- the server decides as calls and disk tell
module _ {k : Numbering} {start : Meaning} {past : List Event} {u : Up} (inv : IsUp k start past u) where
  known_is : u.ring.known ≡ known (format k start) (latest start past).reading
  known_is = inv.agrees.knows ∙ ap (λ (x : Format). known x (latest start past).reading) inv.form

  top-known : u.ring.known.top.0 ≡ top_record k start past
  top-known = ap (λ (x : Known). x.top.0) known_is

  -- the ring refuses no lawful reservation but where numbers run short
  pub not_refused :
      (s : ℕ) (to : Rank) → s < 8 → 0 < to.0 → to.0 ≤ k.top.0 + 1 → (b : Bool) → numbers_suffice k start past ≡ b →
      refusal u.ring.format u.ring.known.top.0 s to ≡ cond b None (Some Exhausted)
  not_refused s to below some ends b numbers =
      refusal_is u.ring.format u.ring.known.top.0 s to b below some
      (let t : u.ring.format.top.0 ≡ k.top.0 = ap (λ (x : Format). x.top.0) inv.form in omega arith)
      (ap (λ (x : ℕ). leb (x + 8) (2 ^ 62 - 1)) top-known ∙ numbers)

  past_the_blocks : (s : ℕ) → 8 ≤ s → block_in u.blocks s ≡ no_block
  past_the_blocks s l = get_or_past u.blocks.0 s no_block (omega (arith, inv.eight))

  same_ends : (s : ℕ) → end_at u s ≡ of_eight (end_in k start (latest start past)) s
  same_ends s =
      ⊎_elim
      (λ l. inv.ends s l ∙ sym (cond-true (ltb s 8) (end_in k start (latest start past) s) 0 (lt-ltb s 8 l)))
      (λ l. ap (λ (b : Block). b.end.0) (past_the_blocks s l) ∙ sym (cond-false (ltb s 8) (end_in k start (latest start past) s) 0 (le-ltb s 8 l)))
      (cases_lt s 8)

  same_nexts : (s : ℕ) → next_at u s ≡ of_eight (λ t. next k start t past) s
  same_nexts s =
      ⊎_elim
      (λ l. inv.nexts s l ∙ sym (cond-true (ltb s 8) (next k start s past) 0 (lt-ltb s 8 l)))
      (λ l. ap (λ (b : Block). b.next.0) (past_the_blocks s l) ∙ sym (cond-false (ltb s 8) (next k start s past) 0 (le-ltb s 8 l)))
      (cases_lt s 8)

  pub decides : (ask : Ask) → decide k (end_at u) (next_at u) ask ≡ wish k start ask past
  decides ask =
      ap (λ (ends : ℕ → ℕ). decide k ends (next_at u) ask) (fun_ext same_ends)
      ∙ ap (λ (nexts : ℕ → ℕ). decide k (of_eight (end_in k start (latest start past))) nexts ask) (fun_ext same_nexts)

-- an event that gives so many ranks of a series from a first one on, if any
pub record Given (k : Numbering) (start : Meaning) (past : List Event) (event : Event) (s first n : ℕ) : Type 0 where
  pub others : (t : ℕ) → (s ≡ t → ⊥) → GivesNone t (told event)
  pub next_others : (t : ℕ) → (s ≡ t → ⊥) → next k start t (event ∷ past) ≡ next k start t past
  pub next_own : next k start s (event ∷ past) ≡ first + n
  pub own :
      (end end' : ℕ) → Series k start past s end → first + n ≤ k.top.0 + 1 → first + n ≤ end' → end ≤ end' →
      end' ≤ max end (first + n + lost k (event ∷ past)) →
      (InBlocks k (event ∷ past) → Counted k end' (standing k start s None (event ∷ past))) → Series k start (event ∷ past) s end'

module _ {A : Type 0} (k : Numbering) (start : Meaning) (past : List Event) (ask : Ask) where
  -- a call by its answer and the disk after it: it wants so many ranks
  pub record Draws (event : Result A ServerFault → Meaning → Event) (s first n floor : ℕ) (given : A) : Type 0 where
    pub below : s < 8
    pub lawful : first + n ≤ k.top.0 + 1
    pub asks_it : (r : Result A ServerFault) (m : Meaning) → asks (event r m) ≡ Some ask
    pub leaves : (r : Result A ServerFault) (m : Meaning) → after_of (event r m) ≡ m
    pub gives : (m : Meaning) → Given k start past (event (Ok given) m) s first n
    pub denied : (fault : ServerFault) (m : Meaning) (t : ℕ) → GivesNone t (told (event (Err fault) m))
    pub raises : (fault : ServerFault) (m : Meaning) → max (floor_since k s past) floor ≤ floor_by k s (told (event (Err fault) m)) (floor_since k s past)

module _ {A : Type 0} {k : Numbering} {start : Meaning} {past : List Event} {u : Up} {ask : Ask} where
  module _ {event : Result A ServerFault → Meaning → Event} {s first n floor : ℕ} {given : A} (inv : IsUp k start past u) where
    module _ (d : Draws k start past ask event s first n floor given) where
      abbrev m : Meaning
      m = latest start past

      abbrev end : ℕ
      end = end_in k start m s

      -- the block in hand after them, up to an end
      abbrev after_them : Rank → Block
      after_them to = record { next = record { 0 = first + n }; end = to }

      nexts_drawn :
          (m' : Meaning) (to : Rank) (t : ℕ) → t < 8 →
          (block_in (with_block u.blocks s (after_them to)) t).next.0 ≡ next k start t (event (Ok given) m' ∷ past)
      nexts_drawn m' to t l =
          ⊎_elim
          (λ own.
          subst (λ (x : ℕ). (block_in (with_block u.blocks s (after_them to)) x).next.0 ≡ next k start x (event (Ok given) m' ∷ past)) own
          (let here : s < length u.blocks.0 = omega (arith, inv.eight, d.below) in
          ap (λ (b : Block). b.next.0) (get_or-set_same u.blocks.0 s (after_them to) no_block here) ∙ sym (d.gives m').next_own))
          (λ other.
          ap (λ (b : Block). b.next.0) (get_or-set_other u.blocks.0 s t (after_them to) no_block (λ e. other (sym e)))
          ∙ inv.nexts t l
          ∙ sym ((d.gives m').next_others t other))
          (cases_eq s t)

      ends_drawn :
          (to : Rank) (ends : ℕ → ℕ) → to.0 ≡ ends s → ((t : ℕ) → t ≢ s → ends t ≡ end_in k start m t) →
          (t : ℕ) → t < 8 → (block_in (with_block u.blocks s (after_them to)) t).end.0 ≡ ends t
      ends_drawn to ends own others t l =
          ⊎_elim
          (λ same.
          subst (λ (x : ℕ). (block_in (with_block u.blocks s (after_them to)) x).end.0 ≡ ends x) same
          (let here : s < length u.blocks.0 = omega (arith, inv.eight, d.below) in
          ap (λ (b : Block). b.end.0) (get_or-set_same u.blocks.0 s (after_them to) no_block here) ∙ own))
          (λ other.
          ap (λ (b : Block). b.end.0) (get_or-set_other u.blocks.0 s t (after_them to) no_block (λ e. other (sym e)))
          ∙ inv.ends t l
          ∙ sym (others t (λ e. other (sym e))))
          (cases_eq s t)

      eight_drawn : (to : Rank) → length (set u.blocks.0 s (after_them to)) ≡ 8
      eight_drawn to = length-set u.blocks.0 s (after_them to) ∙ inv.eight

      -- with what else holds of the call by its answer, as it is shown where the ranks are given, where numbers run short and where the
      -- disk goes dark
      module _ (Also : Result A ServerFault → Meaning → Type 0) where
        -- where the ranks are given
        abbrev AlsoGiven : Type 0
        AlsoGiven =
            (m' : Meaning) (to : ℕ) → Went m (succeeded k start ask past) m' → Series k start (event (Ok given) m' ∷ past) s to →
            first + n ≤ to → 2 * length (asked k start ask past) ≤ m.supply →
            (end < first + n → top_record k start past + 8 ≤ 2 ^ 62 - 1) → Also (Ok given) m'

        -- where the disk goes dark
        abbrev AlsoDark : Type 0
        AlsoDark =
            (fault : RingFault) (m' : Meaning) → Went m (succeeded k start ask past) m' →
            m.supply < 2 * length (asked k start ask past) → Also (Err (OfRing fault)) m'

        -- what is claimed, whatever the call answers
        abbrev AllClaim : Range → Type 0
        AllClaim claimed =
            (r : Result A ServerFault) (left : Meaning) →
            Claims k (InBlocks k (event r left ∷ past)) (lost k (event r left ∷ past)) end (next k start s past) floor first n claimed

        module _ (also_given : AlsoGiven) where
          -- out of the block in hand
          pub draws_in_hand :
              wish k start ask past ≡ draws s first n None → first + n ≤ end → (r : Result A ServerFault) (after : State) (m' : Meaning) →
              (r ≡ Ok given) × (after ≡ drawn u s (block_in u.blocks s).end first n) × (m' ≡ m) → Invariant k start (event r m' ∷ past) after × Also r m'
          draws_in_hand wants inside r after m' did =
              let x : Event = event (Ok given) m in
              let q : Quiet k start past x ask =
              record { is = d.asks_it (Ok given) m; here = d.leaves (Ok given) m; nothing = asked_lit inv ask ∙ ap (wanted_by k start past) wants } in
              let none = ap length q.nothing in
              let own : Series k start (x ∷ past) s end =
              (d.gives m).own end end (inv.series s d.below) d.lawful inside (omega arith) (omega arith)
              (λ even. rw (standing_none q s None) ((inv.series s d.below).counted (in_blocks_before k x past even))) in
              rw (did.0, did.1, did.2) (
                up_quiet q inv (with_block u.blocks s (after_them (block_in u.blocks s).end)) (eight_drawn (block_in u.blocks s).end)
                    (nexts_drawn m (block_in u.blocks s).end)
                    (ends_drawn (block_in u.blocks s).end (end_in k start m) (inv.ends s d.below) (λ t other. refl))
                    (λ t l.
                    ⊎_elim
                    (λ same. subst (λ (y : ℕ). Series k start (x ∷ past) y (end_in k start m y)) same own)
                    (λ other. series_quiet q (inv.series t l) ((d.gives m).others t other))
                    (cases_eq s t)),
                also_given m end (touches_none q) own inside (omega arith) (λ l. absurd (omega arith)),
              )

          -- after a reservation
          module _ (claimed : Range) (wants : wish k start ask past ≡ draws s first n (Some claimed)) where
            module _ (claims : AllClaim claimed) where
              module _ (also_short : numbers_suffice k start past ≡ false → Also (Err (OfRing Exhausted)) m) where
                module _ (also_dark : AlsoDark) where
                  abbrev to : Rank
                  to = record { 0 = claimed.end }

                  abbrev steps : List Step
                  steps = steps_of k start past s claimed

                  abbrev value : Reserved
                  value = reservation (format k start) m.reading s to

                  abbrev f : Format
                  f = format k start

                  mine : Series k start past s end
                  mine = inv.series s d.below

                  -- where numbers suffice
                  module _ (numbers : numbers_suffice k start past ≡ true) where
                    wanted_is : wanted k start ask past ≡ steps
                    wanted_is = ap (wanted_by k start past) wants ∙ cond-true (numbers_suffice k start past) steps [] numbers

                    asked_is : asked k start ask past ≡ steps
                    asked_is = asked_lit inv ask ∙ wanted_is

                    may : LawfulReservation f s claimed.end m
                    may =
                        let some = claims (Ok given) m in
                        record {
                          recovers = subst (λ (x : Format). Recovers x m.reading) inv.form (agrees_recovers u.ring m inv.agrees);
                          kept = inv.kept;
                          series = d.below;
                          some = omega (arith, some.above);
                          ends = some.ends;
                          numbers = omega (arith, leb-true (top_record k start past + 8) (2 ^ 62 - 1) numbers);
                        }

                    some_steps : 1 ≤ length steps
                    some_steps = plan_some f 7 s claimed.end m.reading

                    -- the disk goes by the plan
                    module _ (m' : Meaning) (goes : Went m (performed f steps m.supply) m') where
                      touches : Went m (succeeded k start ask past) m'
                      touches = subst (λ (x : List Step). Went m (performed f x m.supply) m') (sym asked_is) goes

                      module _ (r : Result A ServerFault) where
                        abbrev x : Event
                        x = event r m'

                        written_is : writes k start (x ∷ past) ≡ writes k start past + writes_in (performed f steps m.supply)
                        written_is =
                            writes_is k start past x ask (d.asks_it r m')
                            ∙ ap (λ (xs : List Step). writes k start past + writes_in (performed f xs m.supply)) asked_is

                        made_is :
                            (t : ℕ) (y : Option Meaning) →
                            standing k start t y (x ∷ past)
                            ≡ reserved_by k start t m.supply y (draws s first n (Some claimed)) steps ++ standing k start t y past
                        made_is t y =
                            standing_is k start past x ask (d.asks_it r m') t y
                            ∙ ap (λ (w : Wish). reserved_by k start t m.supply y w (asked k start ask past) ++ standing k start t y past) wants
                            ∙ ap
                            (λ (xs : List Step). reserved_by k start t m.supply y (draws s first n (Some claimed)) xs ++ standing k start t y past) asked_is

                        counted_after : InBlocks k (x ∷ past) → Counted k claimed.end (claimed ∷ standing k start s None past)
                        counted_after even =
                            let whole = (claims r m').whole even in
                            counted_more k end (standing k start s None past) claimed (mine.counted (in_blocks_before k x past even))
                            (claims r m').above whole.0 whole.1

                      -- with supply enough
                      module _ (enough : 2 * length steps ≤ m.supply) where
                        stands :
                            (t : ℕ) →
                            standing k start t None (event (Ok given) m' ∷ past) ≡ cond (eqb s t && true) (claimed ∷ []) [] ++ standing k start t None past
                        stands t =
                            made_is (Ok given) t None
                            ∙ ap (λ (rs : List Range). rs ++ standing k start t None past)
                            (flushed k start t m.supply None s first n claimed steps some_steps enough)

                        own_reserved : Series k start (event (Ok given) m' ∷ past) s claimed.end
                        own_reserved =
                            let c = claims (Ok given) m' in
                            (d.gives m').own end claimed.end mine d.lawful c.covers (omega (arith, c.above)) (omega (arith, c.near))
                            (λ even. rw (stands s, eq-eqb s s refl) (counted_after (Ok given) even))

                        up_reserved :
                            (ring : Ring) → Agrees ring m' → ring.format ≡ f →
                            IsUp k start (event (Ok given) m' ∷ past) (record { ring = ring; blocks = with_block u.blocks s (after_them to) })
                        up_reserved ring agrees form =
                            let done = reserved_whole f s claimed.end m m' may enough goes in
                            let here = d.leaves (Ok given) m' in
                            record {
                              lit =
                                  dark_is k start past (event (Ok given) m') ask (d.asks_it (Ok given) m')
                                  ∙ or_from (dark k start past) (too_little m.supply (wanted k start ask past)) inv.lit
                                  (ap (too_little m.supply) wanted_is ∙ le-ltb m.supply (2 * length steps) enough);
                              agrees = rw here agrees;
                              form = form;
                              kept = rw here done.1;
                              eight = eight_drawn to;
                              nexts = nexts_drawn m' to;
                              ends = rw here (ends_drawn to (end_in k start m') (sym done.0.own) done.0.others);
                              series = λ t l.
                                  rw here
                                  (⊎_elim
                                  (λ same.
                                  subst (λ (y : ℕ). Series k start (event (Ok given) m' ∷ past) y (end_in k start m' y)) same
                                  (rw done.0.own own_reserved))
                                  (λ other.
                                  rw (done.0.others t (λ e. other (sym e)))
                                  (series_kept (inv.series t l) (event (Ok given) m') ((d.gives m').others t other) (rw (stands t, ne_eqb s t other) refl)))
                                  (cases_eq s t));
                              tops = rw here (omega (arith, inv.tops, written_is (Ok given), (tops_counted f s claimed.end m m' may goes).0));
                            }

                      -- the disk goes dark
                      module _ (little : m.supply < 2 * length steps) (fault : ServerFault) where
                        abbrev y : Event
                        y = event (Err fault) m'

                        stands_as :
                            (t : ℕ) (z : Option Meaning) →
                            standing k start t z (y ∷ past)
                            ≡ cond (eqb s t && left_standing k start t claimed.end z) (claimed ∷ []) [] ++ standing k start t z past
                        stands_as t z =
                            made_is (Err fault) t z
                            ∙ ap (λ (rs : List Range). rs ++ standing k start t z past)
                            (unflushed k start t m.supply z s first n claimed steps little)

                        none_stands : (t : ℕ) → standing k start t None (y ∷ past) ≡ standing k start t None past
                        none_stands t =
                            stands_as t None
                            ∙ ap (λ (b : Bool). cond b (claimed ∷ []) [] ++ standing k start t None past) (and_right (eqb s t) false refl)

                        stands_as_left :
                            (t : ℕ) (left : Meaning) →
                            standing k start t (Some left) (y ∷ past)
                            ≡ cond (eqb s t && eqb (end_in k start left t) claimed.end) (claimed ∷ standing k start t None (y ∷ past))
                            (standing k start t None (y ∷ past))
                        stands_as_left t left =
                            stands_as t (Some left)
                            ∙ by_test (eqb s t && eqb (end_in k start left t) claimed.end) (standing k start t (Some left) past)
                            ∙ ap (λ (rs : List Range). cond (eqb s t && eqb (end_in k start left t) claimed.end) (claimed ∷ rs) rs)
                            (standing_lit k start t (Some left) None past inv.lit ∙ sym (none_stands t))
                          where
                            by_test : (b : Bool) (rs : List Range) → cond b (claimed ∷ []) [] ++ rs ≡ cond b (claimed ∷ rs) rs
                            by_test true rs = refl
                            by_test false rs = refl

                        down_stopped : IsDown k start (y ∷ past)
                        down_stopped =
                            let here = d.leaves (Err fault) m' in
                            let own = keeps k start past (told y) s (d.denied fault m' s) in
                            let same_cuts = ap (loss k (y ∷ past)) own.cuts_stay in
                            let more = loss_more k y past (cuts_since s past) in
                            record {
                              unlit =
                                  dark_is k start past y ask (d.asks_it (Err fault) m')
                                  ∙ or_right (dark k start past) (too_little m.supply (wanted k start ask past))
                                  (ap (too_little m.supply) wanted_is ∙ lt-ltb m.supply (2 * length steps) little);
                              base = m;
                              pending = s;
                              claimed = claimed;
                              one_of_eight = d.below;
                              leaves = rw here (λ left supply cut. cut_within f s claimed.end m m' left supply may goes cut);
                              tops =
                                  rw here
                                  (λ left supply cut.
                                  omega (arith, inv.tops, written_is (Err fault), (tops_counted f s claimed.end m m' may goes).1 left supply cut));
                              read_tops = rw here (omega (arith, inv.tops, written_is (Err fault), (tops_counted f s claimed.end m m' may goes).0));
                              series = λ t l. series_kept (inv.series t l) y (d.denied fault m' t) (none_stands t);
                              above = (claims (Err fault) m').above;
                              most = omega (arith, (claims (Err fault) m').most, d.raises fault m', mine.bound, own.after_stays);
                              stands = stands_as_left;
                              counted = λ even. rw (none_stands s) (counted_after (Err fault) even);
                            }

                    reserving :
                        (r : Result A ServerFault) (after : State) (m' : Meaning) (ring : Ring) (x : Result Reserved RingFault) →
                        Ended (format k start) s to m x ring m' → Answered u s first n given ring x r after →
                        Invariant k start (event r m' ∷ past) after × Also r m'
                    reserving r after m' ring (Ok reserved) ended answered =
                        let enough : 2 * length steps ≤ m.supply =
                        ⊎_elim
                        (λ l.
                        let f = (operations_counted (format k start) value steps m.supply).2 l in
                        absurd (let z : ◌≡◌ {A = Result Reserved RingFault} (Err f.0) (Ok reserved) = sym f.1 ∙ ended.answers in cc))
                        (λ l. l)
                        (cases_lt m.supply (2 * length steps)) in
                        let many = ap length asked_is in
                        let same : reserved ≡ value = outcome_is value reserved steps m.supply ended.answers in
                        rw (answered.0, answered.1 ∙ ap (λ (x : Reserved). drawn (with_ring u ring) s x.end first n) same) (
                          up_reserved m' ended.goes enough ring ended.agrees ended.format,
                          also_given m' claimed.end (touches m' ended.goes) (own_reserved m' ended.goes enough) (claims (Ok given) m').covers (omega arith)
                              (λ l. leb-true (top_record k start past + 8) (2 ^ 62 - 1) numbers),
                        )
                    reserving r after m' ring (Err fault) ended answered =
                        let little : m.supply < 2 * length steps =
                        ⊎_elim
                        (λ l. l)
                        (λ l.
                        let whole = (operations_counted (format k start) value steps m.supply).1 l in
                        absurd (let z : ◌≡◌ {A = Result Reserved RingFault} (Ok value) (Err fault) = sym whole ∙ ended.answers in cc))
                        (cases_lt m.supply (2 * length steps)) in
                        let tells = stopped_tells value steps m.supply fault ended.answers in
                        let many = ap length asked_is in
                        rw (answered.0, answered.1 ∙ ap (stopped u) tells.1) (
                          down_stopped m' ended.goes little (OfRing fault),
                          also_dark fault m' (touches m' ended.goes) (omega arith),
                        )

                  unrefused : (b : Bool) → numbers_suffice k start past ≡ b → refusal u.ring.format u.ring.known.top.0 s to ≡ cond b None (Some Exhausted)
                  unrefused b numbers =
                      let c = claims (Err (OfRing Exhausted)) m in
                      not_refused inv s to d.below (omega (arith, c.above)) c.ends b numbers

                  -- by the sequence numbers
                  by_numbers :
                      (b : Bool) → numbers_suffice k start past ≡ b → (r : Result A ServerFault) (after : State) (m' : Meaning) →
                      Reserving u m s first n claimed given r after m' → Invariant k start (event r m' ∷ past) after × Also r m'
                  by_numbers true numbers r after m' did =
                      reserving numbers r after m' did.ring did.answer
                      (subst (λ (x : Format). Ended x s to m did.answer did.ring m') inv.form (did.reserves.reserves (unrefused true numbers)))
                      did.answered
                  by_numbers false numbers r after m' did =
                      let tells = did.reserves.refused Exhausted (unrefused false numbers) in
                      let said = subst (λ (x : Result Reserved RingFault). Answered u s first n given did.ring x r after) tells.0 did.answered in
                      let x : Event = event (Err (OfRing Exhausted)) m in
                      let q : Quiet k start past x ask =
                      record {
                        is = d.asks_it (Err (OfRing Exhausted)) m;
                        here = d.leaves (Err (OfRing Exhausted)) m;
                        nothing = asked_lit inv ask ∙ ap (wanted_by k start past) wants ∙ cond-false (numbers_suffice k start past) steps [] numbers;
                      } in
                      rw (said.0, said.1, tells.2) (
                        up_quiet q inv u.blocks inv.eight (λ t l. inv.nexts t l ∙ sym (next_denied t)) inv.ends
                            (λ t l. series_quiet q (inv.series t l) (d.denied (OfRing Exhausted) m t)),
                        also_short numbers,
                      )
                    where
                      next_denied : (t : ℕ) → next k start t (event (Err (OfRing Exhausted)) m ∷ past) ≡ next k start t past
                      next_denied t = (keeps k start past (told (event (Err (OfRing Exhausted)) m)) t (d.denied (OfRing Exhausted) m t)).next_stays

                  pub draws_reserved :
                      (r : Result A ServerFault) (after : State) (m' : Meaning) →
                      Reserving u m s first n claimed given r after m' → Invariant k start (event r m' ∷ past) after × Also r m'
                  draws_reserved = by_numbers (numbers_suffice k start past) refl
