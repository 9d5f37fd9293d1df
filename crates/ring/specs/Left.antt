-- What a cut leaves of a ring, in terms of what its sectors read.
use Rattle.std.specs.Prelude.{◌≡◌, ℕ, ◌+◌, ◌*◌, ◌<◌, ◌≤◌, min, ◌≢◌, ◌⊎◌, List, [], ◌∷◌, length, Some, None, Ok, Err, slice_index_or}
use Rattle.record.specs.declared.numbers.Rank.{Rank}
use Rattle.record.specs.declared.sector.TheConstants.{LAST_SEQUENCE}
use Rattle.record.specs.declared.sector.Format.{Format}
use Rattle.record.specs.declared.sector.Record.{Record}
use Rattle.disk.specs.Meaning.{Meaning, Cut}
use Rattle.ring.specs.Operations.{Went, performed, outcome, writes_in}
use Rattle.ring.specs.Ring.{top, live, next_carry, with_record, carry_step, reservation_step, plan, Sized, Free, Native, Step}
use Rattle.ring.specs.declared.fault.RingFault.{RingFault}
use Rattle.ring.specs.declared.token.Reserved.{Reserved}

-- sectors that recover: none is foreign, and the gap holds no live record
pub record Recovers (f : Format) (reading : List (List ℕ)) : Type 0 where
  pub sized : Sized f reading
  pub free : Free f reading
  pub native : Native f reading

-- the end of a series, 0 without a record
abbrev pub end_of : Format → List (List ℕ) → ℕ → ℕ
end_of f reading s = (live f reading s).end.0

-- the rank at the place of each series is its end
abbrev pub EndsAre : Format → List (List ℕ) → List Rank → Type 0
EndsAre f reading ranks =
    (s : ℕ) → s < 8 → (slice_index_or ranks s (record { 0 = 0 })).0 ≡ end_of f reading s

-- what may be left of sectors in which series s was reserving up to an end: they recover, and every end is as before, or
-- of series s the new one; the top record does not fall, and rises by at most 8
pub record Left (f : Format) (s end : ℕ) (before after : List (List ℕ)) : Type 0 where
  pub recovers : Recovers f after
  pub ends : (t : ℕ) → (end_of f after t ≡ end_of f before t) ⊎ ((t ≡ s) × (end_of f after t ≡ end))
  pub tops : top f before ≤ top f after
  pub most : top f after ≤ top f before + 8

-- sectors in which series s has reserved up to an end: only its own end is new, and the top record has risen by 1 to 8
pub record ReservedUpTo (f : Format) (s end : ℕ) (before after : List (List ℕ)) : Type 0 where
  pub recovers : Recovers f after
  pub own : end_of f after s ≡ end
  pub others : (t : ℕ) → t ≢ s → end_of f after t ≡ end_of f before t
  pub tops : top f before < top f after
  pub most : top f after ≤ top f before + 8

-- sectors with room for a reservation: they recover, the series is one of eight, and there are eight more
-- sequence numbers
pub record HasRoom (f : Format) (s : ℕ) (reading : List (List ℕ)) : Type 0 where
  pub recovers : Recovers f reading
  pub series : s < 8
  pub numbers : top f reading + 8 ≤ LAST_SEQUENCE

-- a reservation that may be made on sectors that recover, all of them kept
pub record LawfulReservation (f : Format) (s end : ℕ) (m : Meaning) : Type 0 where
  pub recovers : Recovers f m.reading
  pub kept : m.kept ≡ m.reading
  pub series : s < 8
  pub some : 1 ≤ end
  pub ends : end ≤ f.top.0 + 1
  pub numbers : top f m.reading + 8 ≤ LAST_SEQUENCE

-- wherever the current fails in a reservation, and whatever the cut leaves, the ring recovers with the old ends or the
-- new one
abbrev pub CutWithin : Type 0
CutWithin =
    (f : Format) (s end : ℕ) (m after left : Meaning) (supply : ℕ) →
    LawfulReservation f s end m →
    Went m (performed f (plan f 7 s end m.reading) m.supply) after →
    Cut after supply left →
    Left f s end m.reading left.reading

-- a reservation with supply enough is kept, and changes no other series' end
abbrev pub ReservedWhole : Type 0
ReservedWhole =
    (f : Format) (s end : ℕ) (m after : Meaning) →
    LawfulReservation f s end m →
    2 * length (plan f 7 s end m.reading) ≤ m.supply →
    Went m (performed f (plan f 7 s end m.reading) m.supply) after →
    ReservedUpTo f s end m.reading after.reading × (after.kept ≡ after.reading)

-- a cut of sectors that are all kept changes none
abbrev pub CutAtRest : Type 0
CutAtRest =
    (m left : Meaning) (supply : ℕ) → m.kept ≡ m.reading → Cut m supply left →
    left.reading ≡ m.reading

-- the writes that the rule asks for: a carry while the sector after the gap holds another series' live record, then the
-- reservation
pub data Follows (f : Format) (s end : ℕ) : List (List ℕ) → List Step → Type 0 where
  stops :
      {reading : List (List ℕ)} → next_carry f reading s ≡ None →
      Follows f s end reading (reservation_step f reading s end ∷ [])
  carries :
      {reading : List (List ℕ)} {steps : List Step} (q : Record) → next_carry f reading s ≡ Some q →
      Follows f s end (with_record f reading (carry_step f reading q).entry) steps →
      Follows f s end reading (carry_step f reading q ∷ steps)

-- the plan is what the rule asks for, kept or not, and has at most seven carries
abbrev pub SevenCarries : Type 0
SevenCarries =
    (f : Format) (s end : ℕ) (reading : List (List ℕ)) → HasRoom f s reading →
    Follows f s end reading (plan f 7 s end reading) × (length (plan f 7 s end reading) ≤ 8)

-- no reservation has more writes and flushes than this
abbrev pub AtMostSoMany : ℕ → Type 0
AtMostSoMany most =
    (f : Format) (s end supply : ℕ) (reading : List (List ℕ)) → HasRoom f s reading →
    length (performed f (plan f 7 s end reading) supply) ≤ most

-- a reservation tries a write and a flush for each of its steps: with a supply for all it succeeds, and with less it is
-- stopped
abbrev pub OperationsCounted : Type 0
OperationsCounted =
    (f : Format) (value : Reserved) (steps : List Step) (supply : ℕ) →
    (length (performed f steps supply) ≡ min supply (2 * length steps))
    × (2 * length steps ≤ supply → outcome value steps supply ≡ Ok value)
    × (supply < 2 * length steps → (fault : RingFault) × (outcome value steps supply ≡ Err fault))

-- each write raises the top record by one at most, whatever a cut then leaves
abbrev pub TopsCounted : Type 0
TopsCounted =
    (f : Format) (s end : ℕ) (m after : Meaning) →
    LawfulReservation f s end m →
    let done = performed f (plan f 7 s end m.reading) m.supply in
    Went m done after →
    (top f after.reading ≤ top f m.reading + writes_in done)
    × ((left : Meaning) (supply : ℕ) →
    Cut after supply left → top f left.reading ≤ top f m.reading + writes_in done)

-- the laws of a reservation
pub record ReservationLaws : Type 0 where
  pub follows : SevenCarries
  pub counted : OperationsCounted
  pub whole : ReservedWhole
  pub cut_within : CutWithin
  pub at_rest : CutAtRest
