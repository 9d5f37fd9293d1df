-- What a cut leaves of a ring: nothing changes at rest, and of an unflushed write only the gap is open.
use Rattle.std.proofs.Common.{◌≡◌, ℕ, ◌+◌, ◌%◌, ◌<◌, false, ◌≢◌, ◌⊎◌, List, [], length, set, Some, None, sym, ap, ◌∙◌, subst, inl, inr, ⊎_elim, arith}
use Rattle.std.proofs.lemmas.Grind.{common_steps}
use Rattle.std.proofs.lemmas.List.{get_or_default, get_or-set_same, get_or-set_other, length-set, same_lists, set-get_or}
use Rattle.std.proofs.lemmas.Bool.{cases_eq}
use Rattle.record.specs.Sector.{content, sound}
use Rattle.record.specs.declared.sector.Content.TheVariants.{Blank}
use Rattle.record.specs.declared.sector.Format.{Format}
use Rattle.record.specs.declared.sector.Record.{Record}
use Rattle.disk.specs.Meaning.{Meaning, at, Wrote, Cut}
use Rattle.ring.specs.Left.{Recovers, CutAtRest}
use Rattle.ring.specs.Ring.{record_in, slot, top, live_of, live, gap, is_foreign}
use Rattle.ring.proofs.Slots.{placed, Among, top_above, top-held, top_is, live_above, live-held, live_is}
use Rattle.ring.proofs.Writes.{apart, gap_lies, slot_other, slot-set}

-- sectors that are the same one by one
same_sectors : (xs ys : List (List ℕ)) → length xs ≡ length ys → ((k : ℕ) → at xs k ≡ at ys k) → xs ≡ ys
same_sectors xs ys n e =
    same_lists xs ys n (λ k d h. get_or_default xs k d [] h ∙ e k ∙ get_or_default ys k [] d (omega arith))

pub cut_at_rest : CutAtRest
cut_at_rest m left supply kept cut =
    same_sectors left.reading m.reading cut.reads_count
    (λ k. cut.settled k (ap (λ (xs : List (List ℕ)). at xs k) kept))

-- a write that is not flushed when the current fails
module _ (m m' left : Meaning) (g supply : ℕ) (bytes : List ℕ) (kept : m.kept ≡ m.reading) where
  module _ (lies : g < length m.reading) (wrote : Wrote m g bytes m') (cut : Cut m' supply left) where
    was : (k : ℕ) → at m.kept k ≡ at m.reading k
    was k = ap (λ (xs : List (List ℕ)). at xs k) kept

    other_stays : (k : ℕ) → k ≢ g → at left.reading k ≡ at m.reading k
    other_stays k ne = grind (arith, common_steps)

    -- the gap holds its old content, the new one, or is blank
    gap-holds : (at left.reading g ≡ at m.reading g) ⊎ ((at left.reading g ≡ bytes) ⊎ (sound (at left.reading g) ≡ false))
    gap-holds = grind (arith, common_steps)

    only_gap : left.reading ≡ set m.reading g (at left.reading g)
    only_gap =
        let n = length-set m.reading g (at left.reading g) in
        let w = ap length wrote.reads ∙ length-set m.reading g bytes in
        same_sectors left.reading (set m.reading g (at left.reading g)) (cut.reads_count ∙ w ∙ sym n)
        (λ k.
        ⊎_elim
        (λ same.
        subst (λ (j : ℕ). at left.reading j ≡ at (set m.reading g (at left.reading g)) j) (sym same)
        (sym (get_or-set_same m.reading g (at left.reading g) [] lies)))
        (λ ne. other_stays k ne ∙ sym (get_or-set_other m.reading g k (at left.reading g) [] ne))
        (cases_eq k g))

    pub cut_unflushed :
        (left.reading ≡ m.reading) ⊎ ((left.reading ≡ set m.reading g bytes) ⊎ ((x : List ℕ) × (sound x ≡ false) × (left.reading ≡ set m.reading g x)))
    cut_unflushed =
        ⊎_elim
        (λ e. inl (only_gap ∙ ap (set m.reading g) e ∙ set-get_or m.reading g []))
        (⊎_elim (λ e. inr (inl (only_gap ∙ ap (set m.reading g) e))) (λ e. inr (inr (at left.reading g, e, only_gap))))
        gap-holds

-- a sector that is not sound is blank
pub blank_from : (f : Format) (k : ℕ) (x : List ℕ) → sound x ≡ false → content f k x ≡ Blank
unfolding content
blank_from f k x e = grind arith

-- a blanked gap changes nothing but its own sector
module _ (f : Format) (reading : List (List ℕ)) (recovers : Recovers f reading) (x : List ℕ) (blank : sound x ≡ false) where
  abbrev after : List (List ℕ)
  after = set reading (gap f reading) x

  empty : slot f after (gap f reading) ≡ None
  empty =
      slot-set f reading (gap f reading) x (gap_lies f reading recovers.sized)
      ∙ ap record_in (blank_from f (gap f reading) x blank)

  other : (k : ℕ) → k ≢ gap f reading → slot f after k ≡ slot f reading k
  other k ne = slot_other f reading (gap f reading) x k ne

  same_length : length after ≡ length reading
  same_length = length-set reading (gap f reading) x

  was_there : (k : ℕ) (r : Record) → k < length after → slot f after k ≡ Some r → (k ≢ gap f reading) × (k < length reading) × (slot f reading k ≡ Some r)
  was_there k r l e =
      ⊎_elim
      (λ same.
      let n : None ≡ Some r = sym empty ∙ ap (slot f after) (sym same) ∙ e in
      absurd cc)
      (λ ne. (ne, omega (arith, same_length), sym (other k ne) ∙ e))
      (cases_eq k (gap f reading))

  still : (r : Record) (a : Among f reading (length reading) r) → a.at_sector ≢ gap f reading → Among f after (length after) r
  still r a ne =
      record { at_sector = a.at_sector; within = omega (arith, a.within, same_length); holds = other a.at_sector ne ∙ a.holds }

  -- the top record is not in the gap
  top_elsewhere : (r : Record) (a : Among f reading (length reading) r) → r.sequence.0 ≡ top f reading → a.at_sector ≢ gap f reading
  top_elsewhere r a e here =
      let p = (placed f reading a.at_sector r a.holds).place in
      let same : top f reading % length reading ≡ (top f reading + 1) % length reading =
      ap (λ (n : ℕ). n % length reading) (sym e)
      ∙ ap (λ (n : ℕ). r.sequence.0 % n) (sym recovers.sized.count)
      ∙ p
      ∙ here in
      let far = apart (top f reading) (top f reading + 1) (length reading) same (omega arith) in
      omega (arith, recovers.sized.least)

  live_elsewhere : (t : ℕ) (r : Record) (a : Among f reading (length reading) r) → r.series ≡ t → live f reading t ≡ live_of r → a.at_sector ≢ gap f reading
  live_elsewhere t r a same is here = grind arith

  pub top_blanked : top f after ≡ top f reading
  top_blanked =
      top_is f after (top f reading)
      (λ k r l e. let w = was_there k r l e in top_above f reading k r w.1 w.2)
      (⊎_elim inl (λ h. inr (h.0, still h.0 h.1 (top_elsewhere h.0 h.1 h.2), h.2)) (top-held f reading))

  pub live_blanked : (t : ℕ) → live f after t ≡ live f reading t
  live_blanked t =
      live_is f after t (live f reading t)
      (λ k r l e same. let w = was_there k r l e in live_above f reading t k r w.1 w.2 same)
      (⊎_elim inl (λ h. inr (h.0, still h.0 h.1 (live_elsewhere t h.0 h.1 h.2 h.3), h.2, h.3)) (live-held f reading t))

  same_gap : gap f after ≡ gap f reading
  same_gap = ap (λ (n : ℕ). (n + 1) % length after) top_blanked ∙ ap (λ (n : ℕ). (top f reading + 1) % n) same_length

  pub recovers_blanked : Recovers f after
  recovers_blanked =
      record {
        sized =
            record {
              count = recovers.sized.count ∙ sym same_length;
              least = omega (arith, recovers.sized.least, same_length);
              most = omega (arith, recovers.sized.most, same_length);
              tags = recovers.sized.tags;
              tops = recovers.sized.tops;
            };
        free = λ r e.
            let n : None ≡ Some r = sym empty ∙ ap (slot f after) (sym same_gap) ∙ e in
            absurd cc;
        native = λ k l.
            ⊎_elim
            (λ same.
            let bytes : at after (gap f reading) ≡ x = get_or-set_same reading (gap f reading) x [] (gap_lies f reading recovers.sized) in
            subst (λ (j : ℕ). is_foreign (content f j (at after j)) ≡ false) (sym same)
            (ap is_foreign (ap (content f (gap f reading)) bytes ∙ blank_from f (gap f reading) x blank)))
            (λ ne.
            ap (λ (b : List ℕ). is_foreign (content f k b)) (get_or-set_other reading (gap f reading) k x [] ne)
            ∙ recovers.native k (omega (arith, same_length)))
            (cases_eq k (gap f reading));
      }
