-- Where a ring starts: on a disk without records, and on sectors that recover.
use Rattle.std.proofs.Common.{◌≡◌, ℕ, zero, suc, ◌^◌, ◌<◌, true, false, leb, List, length, get_or, Some, None, Ok, Option, sym, refl, ap, ◌∙◌, inl, arith}
use Rattle.std.proofs.lemmas.Bool.{le-leb}
use Rattle.std.proofs.lemmas.List.FromFn.{get_or-map-range_with_len}
use Rattle.record.specs.Sector.{content}
use Rattle.record.specs.declared.numbers.Rank.{Rank}
use Rattle.record.specs.declared.sector.Format.{Format}
use Rattle.record.specs.declared.sector.Record.{Record}
use Rattle.disk.specs.Meaning.{Meaning, at}
use Rattle.disk.specs.Blank.{WithoutRecords}
use Rattle.ring.specs.Left.{Recovers, end_of, EndsAre}
use Rattle.ring.specs.Ring.{record_in, slot, top, none, gap, known, known_end, known_ends, is_foreign, Sized, Agrees, foreign_below, holds_live, recover}
use Rattle.ring.specs.declared.known.Known.{Known}
use Rattle.ring.specs.declared.known.Live.{Live}
use Rattle.ring.specs.declared.ring.Ring.{Ring}
use Rattle.ring.proofs.Cuts.{blank_from}
use Rattle.ring.proofs.Slots.{top_is, live_is}
use Rattle.ring.proofs.Writes.{gap_lies}

-- no sector of a disk without records holds one
no_record : (f : Format) (m : Meaning) (k : ℕ) (r : Record) → WithoutRecords m → k < length m.reading → slot f m.reading k ≡ Some r → ⊥
unfolding slot
no_record f m k r w l e =
    let n : None ≡ Some r = sym (ap record_in (blank_from f k (at m.reading k) (w.blank k l))) ∙ e in
    cc

-- such a disk's top record is 0, and so is every end
pub blank_top : (f : Format) (m : Meaning) → WithoutRecords m → top f m.reading ≡ 0
blank_top f m w = top_is f m.reading 0 (λ k r l e. absurd (no_record f m k r w l e)) (inl refl)

pub blank_end : (f : Format) (m : Meaning) (s : ℕ) → WithoutRecords m → end_of f m.reading s ≡ 0
blank_end f m s w =
    ap (λ (l : Live). l.end.0)
    (live_is f m.reading s none (λ k r l e same. absurd (no_record f m k r w l e)) (inl refl))

-- and it recovers
pub blank_recovers : (f : Format) (m : Meaning) → f.sectors ≡ length m.reading → f.tag < 256 → f.top.0 < 2 ^ 53 → WithoutRecords m → Recovers f m.reading
blank_recovers f m count tags tops w =
    let sized : Sized f m.reading = record { count = count; least = w.least; most = w.most; tags = tags; tops = tops } in
    record {
      sized = sized;
      free = λ r e. absurd (no_record f m (gap f m.reading) r w (gap_lies f m.reading sized) e);
      native = λ k l. ap is_foreign (blank_from f k (at m.reading k) (w.blank k l));
    }

-- none foreign below
none_foreign :
    (f : Format) (reading : List (List ℕ)) (n : ℕ) →
    ((k : ℕ) → k < n → is_foreign (content f k (at reading k)) ≡ false) → foreign_below f reading n ≡ None
unfolding foreign_below
none_foreign f reading zero native = refl
none_foreign f reading (suc n) native =
    rw (none_foreign f reading n (λ k l. native k (omega arith)), native n (omega arith)) refl

-- the gap by what it holds
none-live :
    (f : Format) (reading : List (List ℕ)) → Recovers f reading → (x : Option Record) →
    slot f reading (gap f reading) ≡ x → holds_live f reading x ≡ false
none-live f reading recovers x e = grind arith

-- sectors that recover: recovery answers the ring that knows them, and that ring agrees with the disk
pub recovers_answer : (f : Format) (reading : List (List ℕ)) → Recovers f reading → recover f reading ≡ Ok (record { format = f; known = known f reading })
recovers_answer f reading recovers =
    let z = recovers.sized in
    let least : leb 10 f.sectors ≡ true = le-leb 10 f.sectors (omega (arith, z.count, z.least)) in
    let most : leb f.sectors 2048 ≡ true = le-leb f.sectors 2048 (omega (arith, z.count, z.most)) in
    let native = none_foreign f reading (length reading) recovers.native in
    let free = none-live f reading recovers (slot f reading (gap f reading)) refl in
    rw (least, most, native, free) refl

pub recovers_agrees : (f : Format) (m : Meaning) → Recovers f m.reading → Agrees (record { format = f; known = known f m.reading }) m
recovers_agrees f m recovers = grind arith

-- a disk that a ring agrees with recovers
pub agrees_recovers : (r : Ring) (m : Meaning) → Agrees r m → Recovers r.format m.reading
agrees_recovers r m agrees = record { sized = agrees.sized; free = agrees.free; native = agrees.native }

-- the end that a ring knows is the one that its sectors read
pub known_end_is : (f : Format) (reading : List (List ℕ)) (s : ℕ) → s < 8 → (known_end (known f reading) s).0 ≡ end_of f reading s
known_end_is f reading s l = grind arith

-- and so are all the ends that it knows
pub known_ends_are : (r : Ring) (m : Meaning) → Agrees r m → EndsAre r.format m.reading (known_ends r.known)
known_ends_are r m agrees s l = ap (λ (k : Known). (get_or (known_ends k) s none.end).0) agrees.knows ∙ read
  where
    read : (get_or (known_ends (known r.format m.reading)) s none.end).0 ≡ end_of r.format m.reading s
    read =
        ap (λ (x : Rank). x.0) (get_or-map-range_with_len (known_end (known r.format m.reading)) 0 8 s s none.end l (omega arith))
        ∙ known_end_is r.format m.reading s l
