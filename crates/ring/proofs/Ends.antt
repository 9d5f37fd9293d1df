-- A reservation that is done changes the end of its own series alone, whatever was kept of the disk before it.
use Rattle.std.proofs.Common.{◌≡◌, ℕ, ◌*◌, ◌<◌, ◌≤◌, List, [], ◌∷◌, length, get_or, set, Ok, Err, Result, sym, refl, ap, ◌∙◌, subst, inl, ⊎_elim, arith}
use Rattle.std.proofs.lemmas.Bool.{cases_eq, cases_lt}
use Rattle.std.proofs.lemmas.List.{get_or-set_same, get_or-set_other, length-set}
use Rattle.std.proofs.lemmas.List.FromFn.{get_or-map-range_with_len, length-map-range_with_len, fill_by_all}
use Rattle.record.specs.declared.numbers.Rank.{Rank}
use Rattle.record.specs.declared.sector.Format.{Format}
use Rattle.disk.specs.Meaning.{Meaning, Wrote, Flushed}
use Rattle.ring.specs.Left.{end_of, LawfulReservation, ReservedUpTo}
use Rattle.ring.specs.Operations.{Op, put, settle, Went, performed}
use Rattle.ring.specs.Ring.{known, known_end, known_ends, plan}
use Rattle.ring.specs.Search.{reservation, Ended, MayReserve}
use Rattle.ring.specs.declared.fault.RingFault.{RingFault}
use Rattle.ring.specs.declared.known.Known.{Known}
use Rattle.ring.specs.declared.ring.Ring.{Ring}
use Rattle.ring.specs.declared.token.Reserved.{Reserved}
use Rattle.ring.proofs.Leaves.{operations_counted, reserved_whole}
use Rattle.ring.proofs.Starts.{agrees_recovers, known_end_is}

-- two meanings that differ in what is kept alone
record Alike (m n : Meaning) : Type 0 where
  reading : n.reading ≡ m.reading
  supply : n.supply ≡ m.supply
  beyond : n.beyond ≡ m.beyond

-- they go over by the same operations, and read the same after them
alike_after : (ops : List Op) (m n after : Meaning) → Alike m n → Went m ops after → (end : Meaning) × Went n ops end × (end.reading ≡ after.reading)
alike_after [] m n after alike same = (n, refl, alike.reading ∙ ap (λ (x : Meaning). x.reading) (sym same))
alike_after (put i bytes ∷ ops) m n after alike went =
    let first : Meaning = went.0 in
    let other : Meaning = record { reading = first.reading; kept = n.kept; supply = first.supply; beyond = first.beyond } in
    let rest = alike_after ops first other after (record { reading = refl; supply = refl; beyond = refl }) went.2 in
    let wrote : Wrote n i bytes other =
    record {
      reads = went.1.reads ∙ ap (λ (xs : List (List ℕ)). set xs i bytes) (sym alike.reading);
      keeps_count = refl;
      keeps = λ k. inl refl;
      spends = went.1.spends ∙ sym alike.supply;
      leaves = went.1.leaves ∙ sym alike.beyond;
    } in
    (rest.0, (other, wrote, rest.1), rest.2)
alike_after (settle i ∷ ops) m n after alike went =
    let first : Meaning = went.0 in
    let other : Meaning = record { reading = first.reading; kept = n.reading; supply = first.supply; beyond = first.beyond } in
    let rest = alike_after ops first other after (record { reading = refl; supply = refl; beyond = refl }) went.2 in
    let flushed : Flushed n other =
    record {
      reads = went.1.reads ∙ sym alike.reading;
      keeps = refl;
      spends = went.1.spends ∙ sym alike.supply;
      leaves = went.1.leaves ∙ sym alike.beyond;
    } in
    (rest.0, (other, flushed, rest.1), rest.2)

-- a reservation that was answered
module _ (r : Ring) (m : Meaning) (s : ℕ) (end : Rank) (may : MayReserve r m s end) (reserved : Reserved) where
  module _ (r' : Ring) (m' : Meaning) (ended : Ended r.format s end m (Ok reserved) r' m') where
    abbrev f : Format
    f = r.format

    abbrev rested : Meaning
    rested = record { reading = m.reading; kept = m.reading; supply = m.supply; beyond = m.beyond }

    lawful : LawfulReservation f s end.0 rested
    lawful =
        record {
          recovers = agrees_recovers r m may.agrees;
          kept = refl;
          series = may.series;
          some = may.some;
          ends = may.ends;
          numbers = may.numbers;
        }

    enough : 2 * length (plan f 7 s end.0 m.reading) ≤ m.supply
    enough =
        ⊎_elim
        (λ l.
        let stopped = (operations_counted f (reservation f m.reading s end) (plan f 7 s end.0 m.reading) m.supply).2 l in
        absurd (let z : ◌≡◌ {A = Result Reserved RingFault} (Ok reserved) (Err stopped.0) = sym ended.answers ∙ stopped.1 in
        let y : ◌≡◌ {A = ℕ} 0 1 = cc in omega arith))
        (λ l. l)
        (cases_lt m.supply (2 * length (plan f 7 s end.0 m.reading)))

    whole : ReservedUpTo f s end.0 m.reading m'.reading
    whole =
        let goes = alike_after (performed f (plan f 7 s end.0 m.reading) m.supply) m rested m'
        (record { reading = refl; supply = refl; beyond = refl }) ended.goes in
        subst (ReservedUpTo f s end.0 m.reading) goes.2 (reserved_whole f s end.0 rested goes.0 lawful enough goes.1).0

    knows_before : (t : ℕ) → t < 8 → (known_end r.known t).0 ≡ end_of f m.reading t
    knows_before t l = ap (λ (k : Known). (known_end k t).0) may.agrees.knows ∙ known_end_is f m.reading t l

    knows_after : (t : ℕ) → t < 8 → (known_end r'.known t).0 ≡ end_of f m'.reading t
    knows_after t l =
        ap (λ (k : Known). (known_end k t).0) ended.agrees.knows
        ∙ ap (λ (x : Format). (known_end (known x m'.reading) t).0) ended.format
        ∙ known_end_is f m'.reading t l

    abbrev none : Rank
    none = record { 0 = 0 }

    abbrev rank : ℕ → Rank
    rank n = record { 0 = n }

    end_at : (t : ℕ) → t < 8 → get_or (set (known_ends r.known) s end) t none ≡ known_end r'.known t
    end_at t l =
        let before = length-map-range_with_len (known_end r.known) 0 8 in
        ⊎_elim
        (λ same.
        subst (λ (x : ℕ). get_or (set (known_ends r.known) s end) x none ≡ known_end r'.known x) (sym same)
        (get_or-set_same (known_ends r.known) s end none (omega (arith, may.series))
        ∙ sym (ap rank (knows_after s may.series ∙ whole.own))))
        (λ ne.
        get_or-set_other (known_ends r.known) s t end none ne
        ∙ get_or-map-range_with_len (known_end r.known) 0 8 t t none l (omega arith)
        ∙ ap rank (knows_before t l ∙ sym (whole.others t ne) ∙ sym (knows_after t l)))
        (cases_eq t s)

    pub own_end_alone : known_ends r'.known ≡ set (known_ends r.known) s end
    own_end_alone =
        sym
        (fill_by_all (known_end r'.known) (set (known_ends r.known) s end) 8 none
        (length-set (known_ends r.known) s end ∙ length-map-range_with_len (known_end r.known) 0 8)
        end_at)
