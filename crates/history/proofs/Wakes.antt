-- Waking on sectors that recover.
use Rattle.std.proofs.Common.{◌≡◌, ℕ, ◌<◌, ◌≤◌, true, false, ◌&&◌, eqb, List, [], ◌∷◌, ◌++◌, map, length, Some, None, Ok, Option, Result, sym, refl}
use Rattle.std.proofs.Common.{ap, ◌∙◌, subst, ⊎_elim, zero-mul, arith}
use Rattle.std.specs.List.{range_with_len}
use Rattle.std.proofs.lemmas.List.{get_or-map, length-map}
use Rattle.std.proofs.lemmas.List.FromFn.{get_or-map-range_with_len, length-map-range_with_len}
use Rattle.std.proofs.lemmas.Bool.{cases_eq, eq-eqb, ne_eqb, or_parts, cond-false, cond-true}
use Rattle.record.specs.declared.numbers.Rank.{Rank}
use Rattle.record.specs.declared.numbers.Sequence.{Sequence}
use Rattle.record.specs.declared.sector.Format.{Format}
use Rattle.disk.specs.Meaning.{Meaning}
use Rattle.kind.specs.Meaning.{Numbering, LawfulKind}
use Rattle.disk.specs.Blank.{WithoutRecords}
use Rattle.ring.specs.Left.{Recovers, end_of}
use Rattle.ring.specs.Ring.{top, known, known_end, recover, Step}
use Rattle.ring.specs.declared.ring.Ring.{Ring}
use Rattle.ring.proofs.Cuts.{cut_at_rest}
use Rattle.ring.proofs.Starts.{blank_recovers, blank_top, blank_end, recovers_answer, recovers_agrees, agrees_recovers, known_end_is}
use Rattle.ring.specs.Token.{empty_block, empty_blocks, block_in}
use Rattle.ring.specs.declared.token.Block.{Block}
use Rattle.history.specs.History.{lost, Event, cut, after_of, asks, latest, end_in, wish, wanted, too_little, dark_by, dark, asked, writes}
use Rattle.history.specs.History.{reserved_by, made, cut_from, standing}
use Rattle.history.specs.Promise.{CutLaws}
use Rattle.server.specs.Rules.{format, Ask, Range, Wish, draws, woken, awake, top_told, end_at, next_at, WasCut}
use Rattle.server.specs.declared.fault.ServerFault.{ServerFault}
use Rattle.server.specs.declared.state.State.{State}
use Rattle.server.specs.declared.state.State.TheVariants.{Up as Awake}
use Rattle.server.specs.declared.state.Up.{Up}
use Rattle.history.proofs.Invariant.{IsUp, IsDown, Invariant}
use Rattle.history.proofs.Series.{Series, series_cut}

-- the ring that recovery answers, and the server that wakes with it
abbrev ring_of : Numbering → Meaning → Meaning → Ring
ring_of k start m = record { format = format k start; known = known (format k start) m.reading }

abbrev pub up_of : Numbering → Meaning → Meaning → Up
up_of k start m =
    record { ring = ring_of k start m; blocks = empty_blocks (map (known_end (known (format k start) m.reading)) (range_with_len 0 8)) }

module _ (k : Numbering) (start : Meaning) (m : Meaning) (recovers : Recovers (format k start) m.reading) where
  same_format : format k m ≡ format k start
  same_format = ap (λ (n : ℕ). sized n) (sym recovers.sized.count)
    where
      sized : ℕ → Format
      sized n = record { tag = k.tag; top = k.top; sectors = n }

  answers : recover (format k m) m.reading ≡ Ok (ring_of k start m)
  answers =
      ap (λ (f : Format). recover f m.reading) same_format ∙ recovers_answer (format k start) m.reading recovers

  pub wakes : woken k m ≡ Awake (up_of k start m)
  wakes = ap awake answers

  pub tells : top_told (recover (format k m) m.reading) ≡ Ok (record { 0 = top (format k start) m.reading })
  tells = ap top_told answers

  end-woken : (s : ℕ) → s < 8 → block_in (up_of k start m).blocks s ≡ empty_block (record { 0 = end_in k start m s })
  end-woken s l =
      let all : s < length (map (known_end (known (format k start) m.reading)) (range_with_len 0 8)) =
      rw (length-map-range_with_len (known_end (known (format k start) m.reading)) 0 8) l in
      get_or-map empty_block (map (known_end (known (format k start) m.reading)) (range_with_len 0 8)) s (record { 0 = 0 }) (empty_block (record { 0 = 0 })) all
      ∙ ap empty_block
      (get_or-map-range_with_len (known_end (known (format k start) m.reading)) 0 8 s s (record { 0 = 0 }) l (omega arith)
      ∙ ap (λ (n : ℕ). rank n) (known_end_is (format k start) m.reading s l))
    where
      rank : ℕ → Rank
      rank n = record { 0 = n }

  pub next-woken : (s : ℕ) → s < 8 → next_at (up_of k start m) s ≡ end_in k start m s
  next-woken s l = ap (λ (b : Block). b.next.0) (end-woken s l)

  pub last-woken : (s : ℕ) → s < 8 → end_at (up_of k start m) s ≡ end_in k start m s
  last-woken s l = ap (λ (b : Block). b.end.0) (end-woken s l)

-- put together on a disk without records
module _ (k : Numbering) (start : Meaning) (lawful : LawfulKind k) (without : WithoutRecords start) where
  start_recovers : Recovers (format k start) start.reading
  start_recovers = blank_recovers (format k start) start refl (omega (arith, lawful.tags)) lawful.tops without

  start_series : (s : ℕ) → Series k start [] s (end_in k start start s)
  start_series s =
      let z = blank_end (format k start) start s without in
      let none = zero-mul (lost k []) in
      let no_block = zero-mul k.block in
      record {
        low = omega arith;
        inside = omega arith;
        near = omega arith;
        bound = omega arith;
        labelled = tt;
        counted = λ zeros. record { hi = 0; are = refl; reach = omega arith };
      }

  pub invariant_begun : Invariant k start [] (woken k start)
  invariant_begun =
      subst (Invariant k start []) (sym (wakes k start start start_recovers))
      (record {
        lit = refl;
        agrees = recovers_agrees (format k start) start start_recovers;
        form = refl;
        kept = without.kept;
        eight =
            length-map (map (known_end (known (format k start) start.reading)) (range_with_len 0 8)) empty_block
            ∙ length-map-range_with_len (known_end (known (format k start) start.reading)) 0 8;
        nexts = next-woken k start start start_recovers;
        ends = last-woken k start start start_recovers;
        series = λ s l. start_series s;
        tops = omega (arith, blank_top (format k start) start without);
      })

-- reservations that were flushed stand, whatever the next cut leaves
flushed_stands :
    (k : Numbering) (start : Meaning) (s supply : ℕ) (x y : Option Meaning) (want : Wish) (steps : List Step) → too_little supply steps ≡ false →
    reserved_by k start s supply x want steps ≡ reserved_by k start s supply y want steps
flushed_stands k start s supply x y (draws t first n (Some claimed)) (step ∷ steps) enough = rw enough refl
flushed_stands k start s supply x y want steps enough = refl

pub standing_lit :
    (k : Numbering) (start : Meaning) (s : ℕ) (x y : Option Meaning) (past : List Event) → dark k start past ≡ false →
    standing k start s x past ≡ standing k start s y past
standing_lit k start s x y [] lit = refl
standing_lit k start s x y (event ∷ past) lit = by_asks (asks event) lit (standing_lit k start s x y past)
  where
    by_asks :
        (o : Option Ask) → dark_by k start past (dark k start past) o ≡ false →
        (dark k start past ≡ false → standing k start s x past ≡ standing k start s y past) →
        made k start s x past o ++ standing k start s (cut_from o (after_of event) x) past
        ≡ made k start s y past o ++ standing k start s (cut_from o (after_of event) y) past
    by_asks None lit older = refl
    by_asks (Some ask) lit older =
        let m = latest start past in
        let parts = or_parts (dark k start past) (too_little m.supply (wanted k start ask past)) lit in
        let is : asked k start ask past ≡ wanted k start ask past = cond-false (dark k start past) [] (wanted k start ask past) parts.0 in
        let same = flushed_stands k start s m.supply x y (wish k start ask past) (asked k start ask past) (ap (too_little m.supply) is ∙ parts.1) in
        ap (λ (rs : List Range). rs ++ standing k start s x past) same
        ∙ ap (λ (rs : List Range). made k start s y past (Some ask) ++ rs) (older parts.0)

-- a cut
module _ (k : Numbering) (start : Meaning) (past : List Event) (tear supply : ℕ) (answer : Result Sequence ServerFault) where
  module _ (after : State) (m : Meaning) (was : WasCut k (latest start past) supply answer after m) where
    -- what the server is and tells after it, where the sectors recover
    woken_again :
        Recovers (format k start) m.reading → ((s : ℕ) → s < 8 → Series k start (cut tear supply answer m ∷ past) s (end_in k start m s)) →
        top (format k start) m.reading ≤ writes k start past →
        Invariant k start (cut tear supply answer m ∷ past) after × CutLaws k start supply past answer m
    woken_again recovers series tops = (
      subst (Invariant k start (cut tear supply answer m ∷ past)) (sym (was.state ∙ wakes k start m recovers))
          (record {
            lit = refl;
            agrees = recovers_agrees (format k start) m recovers;
            form = refl;
            kept = was.left.keeps;
            eight =
                length-map (map (known_end (known (format k start) m.reading)) (range_with_len 0 8)) empty_block
                ∙ length-map-range_with_len (known_end (known (format k start) m.reading)) 0 8;
            nexts = next-woken k start m recovers;
            ends = last-woken k start m recovers;
            series = series;
            tops = tops;
          }),
      record { leaves = was.left; tells = was.told ∙ tells k start m recovers },
    )

    pub cut_while_up : (u : Up) → IsUp k start past u → Invariant k start (cut tear supply answer m ∷ past) after × CutLaws k start supply past answer m
    cut_while_up u inv =
        let f = format k start in
        let same : m.reading ≡ (latest start past).reading = cut_at_rest (latest start past) m supply inv.kept was.left in
        let before : Recovers f (latest start past).reading =
        subst (λ (x : Format). Recovers x (latest start past).reading) inv.form (agrees_recovers u.ring (latest start past) inv.agrees) in
        woken_again (subst (Recovers f) (sym same) before)
        (λ s l.
        let i = inv.series s l in
        let e : end_in k start m s ≡ end_in k start (latest start past) s = ap (λ (xs : List (List ℕ)). end_of f xs s) same in
        series_cut i tear supply answer m
        (omega (arith, i.inside))
        (omega (arith, i.near, i.bound))
        (λ zeros. rw (e, standing_lit k start s (Some m) None past inv.lit) (i.counted zeros)))
        (omega (arith, inv.tops, ap (top f) same))

    -- nothing of the pending reservation stands, as far as series s can tell
    series_fallen :
        (inv : IsDown k start past) (s : ℕ) → s < 8 → end_in k start m s ≡ end_in k start inv.base s →
        Series k start (cut tear supply answer m ∷ past) s (end_in k start m s)
    series_fallen inv s l e =
        let i = inv.series s l in
        let fallen : (eqb inv.pending s && eqb (end_in k start m s) inv.claimed.end) ≡ false =
        ⊎_elim
        (λ own.
        rw (ne_eqb (end_in k start m s) inv.claimed.end (λ h. omega (arith, inv.above, ap (end_in k start inv.base) own)), eq-eqb inv.pending s own) refl)
        (λ other. rw (ne_eqb inv.pending s other) refl)
        (cases_eq inv.pending s) in
        let st : standing k start s (Some m) past ≡ standing k start s None past =
        inv.stands s m
        ∙ cond-false (eqb inv.pending s && eqb (end_in k start m s) inv.claimed.end) (inv.claimed ∷ standing k start s None past)
        (standing k start s None past) fallen in
        series_cut i tear supply answer m
        (omega (arith, i.inside))
        (omega (arith, i.near, i.bound))
        (λ zeros. rw (e, st) (i.counted zeros))

    -- the pending reservation stands
    series_stood :
        (inv : IsDown k start past) → end_in k start m inv.pending ≡ inv.claimed.end →
        Series k start (cut tear supply answer m ∷ past) inv.pending (end_in k start m inv.pending)
    series_stood inv e =
        let s = inv.pending in
        let i = inv.series s inv.one_of_eight in
        let stood_up : (eqb s s && eqb (end_in k start m s) inv.claimed.end) ≡ true =
        rw (eq-eqb s s refl, eq-eqb (end_in k start m s) inv.claimed.end e) refl in
        let st : standing k start s (Some m) past ≡ inv.claimed ∷ standing k start s None past =
        inv.stands s m
        ∙ cond-true (eqb s s && eqb (end_in k start m s) inv.claimed.end) (inv.claimed ∷ standing k start s None past)
        (standing k start s None past) stood_up in
        series_cut i tear supply answer m
        (omega (arith, i.inside, inv.above))
        (omega (arith, inv.most))
        (λ zeros. rw (e, st) (inv.counted zeros))

    pub cut_while_down : IsDown k start past → Invariant k start (cut tear supply answer m ∷ past) after × CutLaws k start supply past answer m
    cut_while_down inv =
        let l = inv.leaves m supply was.left in
        woken_again l.recovers
        (λ s below.
        ⊎_elim (series_fallen inv s below)
        (λ own.
        subst (λ (t : ℕ). Series k start (cut tear supply answer m ∷ past) t (end_in k start m t)) (sym own.0)
        (series_stood inv (ap (end_in k start m) (sym own.0) ∙ own.1)))
        (l.ends s))
        (inv.tops m supply was.left)
