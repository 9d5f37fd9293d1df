-- What a record written into the gap changes: one lemma for a reservation and for a carry.
use Rattle.std.proofs.Common.{◌≡◌, ℕ, ◌+◌, ◌%◌, ◌<◌, ◌≤◌, true, false, ◌&&◌, eqb, ◌≢◌, ◌⊎◌, List, [], length, set, Some, sym, refl, ap, ◌∙◌, inl, inr, ⊎_elim, arith}
use Rattle.std.proofs.lemmas.Grind.{common_steps}
use Rattle.std.proofs.lemmas.Nat.{mod_below}
use Rattle.std.proofs.lemmas.List.{get_or-set_same, get_or-set_other, length-set}
use Rattle.std.proofs.lemmas.Bool.{cases_eq, eq-eqb, ne_eqb}
use Rattle.record.specs.declared.sector.TheConstants.{LAST_SEQUENCE}
use Rattle.record.specs.Sector.{content, encoded, lawful}
use Rattle.record.specs.declared.sector.Content.TheVariants.{Record as Holds}
use Rattle.record.specs.declared.sector.Format.{Format}
use Rattle.record.specs.declared.sector.Record.{Record}
use Rattle.record.proofs.ReadBack.{Fit, read_back}
use Rattle.ring.specs.Ring.{record_in, slot, top, live_of, live, gap, beyond, is_live, next, with_record, Sized, Free}
use Rattle.ring.specs.declared.known.Live.{Live}
use Rattle.ring.proofs.Slots.{Placed, placed, lawful_from, Among, top_above, top_is, live_above, live-held, live_is}

-- numbers that name the same of n sectors are n apart
pub apart : (x y n : ℕ) → x % n ≡ y % n → x < y → x + n ≤ y
apart x y n e l = grind arith

-- the sector after the gap holds no live record of a series other than s
abbrev pub Clear : Format → List (List ℕ) → ℕ → Type 0
Clear f reading s =
    (q : Record) → slot f reading (beyond f reading) ≡ Some q → q.series ≢ s → is_live f reading q ≡ false

-- the numbers of a record that may be written next
pub record Writable (f : Format) (reading : List (List ℕ)) (s end : ℕ) : Type 0 where
  pub series : s < 8
  pub numbered : top f reading + 1 ≤ LAST_SEQUENCE
  pub some : 1 ≤ end
  pub ends : end ≤ f.top.0 + 1

-- one sector set
module _ (f : Format) (reading : List (List ℕ)) (g : ℕ) (bytes : List ℕ) where
  pub slot_other : (k : ℕ) → k ≢ g → slot f (set reading g bytes) k ≡ slot f reading k
  unfolding slot
  slot_other k ne = ap (λ (b : List ℕ). record_in (content f k b)) (get_or-set_other reading g k bytes [] ne)

  pub slot-set : g < length reading → slot f (set reading g bytes) g ≡ record_in (content f g bytes)
  unfolding slot
  slot-set l = ap (λ (b : List ℕ). record_in (content f g b)) (get_or-set_same reading g bytes [] l)

module _ (f : Format) (reading : List (List ℕ)) (sized : Sized f reading) where
  pub gap_lies : gap f reading < length reading
  gap_lies = mod_below (top f reading + 1) (length reading) (omega (arith, sized.least))

  pub beyond_lies : beyond f reading < length reading
  beyond_lies = mod_below (top f reading + 2) (length reading) (omega (arith, sized.least))

  pub beyond_apart : beyond f reading ≢ gap f reading
  beyond_apart e = grind arith

  -- a record in the sector after the gap is old
  pub old_beyond : (q : Record) → slot f reading (beyond f reading) ≡ Some q → q.sequence.0 + 8 ≤ top f reading
  old_beyond q e =
      let p = (placed f reading (beyond f reading) q e).place in
      let here : q.sequence.0 % length reading ≡ beyond f reading = ap (λ (n : ℕ). q.sequence.0 % n) (sym sized.count) ∙ p in
      let low = top_above f reading (beyond f reading) q beyond_lies e in
      let far = apart q.sequence.0 (top f reading + 2) (length reading) here (omega arith) in
      omega (arith, sized.least)

  module _ (s end : ℕ) (w : Writable f reading s end) where
    pub next_placed : Placed f (gap f reading) (next f reading s end)
    next_placed = grind arith

    next_fits : Fit f.tag (next f reading s end)
    next_fits = grind arith

    abbrev after : List (List ℕ)
    after = with_record f reading (next f reading s end)

    -- the record can be read back from the gap
    pub content-written : content f (gap f reading) (encoded f.tag (next f reading s end)) ≡ Holds (next f reading s end)
    content-written =
        let back = read_back f.tag (next f reading s end) next_fits f (gap f reading) in
        let test : (eqb f.tag f.tag && lawful f (gap f reading) (next f reading s end)) ≡ true =
        rw (eq-eqb f.tag f.tag refl) (lawful_from f (gap f reading) (next f reading s end) next_placed) in
        rw test at back

    pub written : slot f after (gap f reading) ≡ Some (next f reading s end)
    written =
        slot-set f reading (gap f reading) (encoded f.tag (next f reading s end)) gap_lies ∙ ap record_in content-written

    pub other : (k : ℕ) → k ≢ gap f reading → slot f after k ≡ slot f reading k
    other k ne = slot_other f reading (gap f reading) (encoded f.tag (next f reading s end)) k ne

    pub same_length : length after ≡ length reading
    same_length = length-set reading (gap f reading) (encoded f.tag (next f reading s end))

    -- a record is the one that was written, or was there before
    was_there :
        (k : ℕ) (r : Record) → k < length after → slot f after k ≡ Some r →
        ((k ≡ gap f reading) × (r ≡ next f reading s end)) ⊎ ((k ≢ gap f reading) × (k < length reading) × (slot f reading k ≡ Some r))
    was_there k r l e =
        ⊎_elim
        (λ here.
        let both : Some r ≡ Some (next f reading s end) = sym e ∙ ap (slot f after) here ∙ written in
        inl (here, cc))
        (λ ne. inr (ne, omega (arith, same_length), sym (other k ne) ∙ e))
        (cases_eq k (gap f reading))

    still : (r : Record) (a : Among f reading (length reading) r) → a.at_sector ≢ gap f reading → Among f after (length after) r
    still r a ne =
        record { at_sector = a.at_sector; within = omega (arith, a.within, same_length); holds = other a.at_sector ne ∙ a.holds }

    new : Among f after (length after) (next f reading s end)
    new = record { at_sector = gap f reading; within = omega (arith, gap_lies, same_length); holds = written }

    pub top-written : top f after ≡ top f reading + 1
    top-written =
        top_is f after (top f reading + 1)
        (λ k r l e.
        ⊎_elim
        (λ p. omega (arith, ap (λ (q : Record). q.sequence.0) p.1))
        (λ p. omega (arith, top_above f reading k r p.1 p.2))
        (was_there k r l e))
        (inr (next f reading s end, new, refl))

    -- of the series, the record is live now
    pub live_written : live f after s ≡ live_of (next f reading s end)
    live_written =
        live_is f after s (live_of (next f reading s end))
        (λ k r l e same.
        ⊎_elim
        (λ p. omega (arith, ap (λ (q : Record). q.sequence.0) p.1))
        (λ p. omega (arith, top_above f reading k r p.1 p.2))
        (was_there k r l e))
        (inr (next f reading s end, new, refl, refl))

    -- of the other series nothing changes, since the gap held none of their live records
    module _ (free : Free f reading) where
      held_elsewhere :
          (t : ℕ) (r : Record) (a : Among f reading (length reading) r) → r.series ≡ t → live f reading t ≡ live_of r →
          a.at_sector ≢ gap f reading
      held_elsewhere t r a same is here = grind arith

      pub live_other : (t : ℕ) → t ≢ s → live f after t ≡ live f reading t
      live_other t ne =
          live_is f after t (live f reading t)
          (λ k r l e same.
          ⊎_elim
          (λ p. absurd (ne (sym same ∙ ap (λ (q : Record). q.series) p.1)))
          (λ p. live_above f reading t k r p.1 p.2 same)
          (was_there k r l e))
          (⊎_elim inl
          (λ h. inr (h.0, still h.0 h.1 (held_elsewhere t h.0 h.1 h.2 h.3), h.2, h.3))
          (live-held f reading t))

      pub gap-written : gap f after ≡ beyond f reading
      gap-written =
          let t = top-written in
          let n = same_length in
          ap (λ (x : ℕ). (x + 1) % length after) t ∙ ap (λ (x : ℕ). (top f reading + 1 + 1) % x) n ∙ ap (λ (x : ℕ). x % length reading) (omega arith)

      -- the new gap holds no live record
      pub free_written : Clear f reading s → Free f after
      free_written clear q e =
          let there : slot f after (beyond f reading) ≡ Some q = ap (slot f after) (sym gap-written) ∙ e in
          let before : slot f reading (beyond f reading) ≡ Some q = sym (other (beyond f reading) beyond_apart) ∙ there in
          ⊎_elim
          (λ same.
          let number : (live f after q.series).number.0 ≡ top f reading + 1 =
          ap (λ (x : ℕ). (live f after x).number.0) same ∙ ap (λ (x : Live). x.number.0) live_written in
          ne_eqb q.sequence.0 (live f after q.series).number.0 (λ h. omega (arith, old_beyond q before)))
          (λ ne.
          let number : (live f after q.series).number.0 ≡ (live f reading q.series).number.0 =
          ap (λ (x : Live). x.number.0) (live_other q.series ne) in
          rw number (clear q before ne))
          (cases_eq q.series s)

    pub sized_written : Sized f after
    sized_written = grind (arith, common_steps)
