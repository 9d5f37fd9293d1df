-- The ring by what its sectors read: the top record, the live records, and what a reservation writes.
use Rattle.std.specs.Prelude.{◌≡◌, ℕ, zero, suc, ◌+◌, ◌-◌, ◌%◌, ◌^◌, ◌<◌, ◌≤◌, min, max, Bool, true, false, not, if◌then◌else◌, ◌&&◌, List, [], ◌∷◌, map, length, Some, None, Ok, Err, Option, Result, ◌==◌, nat_le, nat_lt, slice_index_or, slice_set}
use Rattle.std.specs.List.{range_with_len}
use Rattle.record.specs.Sector.{content, encoded}
use Rattle.record.specs.declared.numbers.Rank.{Rank}
use Rattle.record.specs.declared.sector.Content.{Content}
use Rattle.record.specs.declared.sector.Content.TheVariants.{Foreign, Record as Holds}
use Rattle.record.specs.declared.sector.Format.{Format}
use Rattle.record.specs.declared.sector.Record.{Record}
use Rattle.disk.specs.Meaning.{Meaning, at}
use Rattle.disk.specs.declared.size.TheConstants.{LEAST_SECTORS, MOST_SECTORS}
use Rattle.ring.specs.declared.fault.RingFault.{RingFault}
use Rattle.ring.specs.declared.fault.RingFault.TheVariants.{Size, Foreign as Foreign', LiveInGap}
use Rattle.ring.specs.declared.fault.Work.{Work}
use Rattle.ring.specs.declared.fault.Work.TheVariants.{Carry, Reservation}
use Rattle.ring.specs.declared.known.Known.{Known}
use Rattle.ring.specs.declared.known.Live.{Live}
use Rattle.ring.specs.declared.ring.Ring.{Ring}

-- the record of a sector, where it holds one
abbrev pub record_in : Content → Option Record
record_in (Holds r) = Some r
record_in other = None

-- the record in sector k of what is read
unfoldable pub slot : Format → List (List ℕ) → ℕ → Option Record
slot f reading k = record_in (content f k (at reading k))

-- a sector's sequence number, 0 where it holds no record
abbrev pub number_in : Option Record → ℕ
number_in None = 0
number_in (Some r) = r.sequence.0

-- the highest number in the first n sectors
unfoldable pub top_below : Format → List (List ℕ) → ℕ → ℕ
top_below f reading zero = 0
top_below f reading (suc n) = max (top_below f reading n) (number_in (slot f reading n))

-- the top record: the highest number in all sectors, 0 without a record
unfoldable pub top : Format → List (List ℕ) → ℕ
top f reading = top_below f reading (length reading)

-- no live record
abbrev pub none : Live
none = record { number = record { 0 = 0 }; end = record { 0 = 0 } }

-- a record as the live one of its series
abbrev pub live_of : Record → Live
live_of r = record { number = r.sequence; end = r.end }

-- what a sector tells of a series
abbrev pub live_in : ℕ → Option Record → Live
live_in s None = none
live_in s (Some r) = if r.series == s then live_of r else none

-- the one of the higher number
abbrev pub newer : Live → Live → Live
newer a b = if nat_lt a.number.0 b.number.0 then b else a

-- the live record of a series among the first n sectors
unfoldable pub live_below : Format → List (List ℕ) → ℕ → ℕ → Live
live_below f reading s zero = none
live_below f reading s (suc n) = newer (live_below f reading s n) (live_in s (slot f reading n))

-- the live record of a series: the one of its records with the highest number
unfoldable pub live : Format → List (List ℕ) → ℕ → Live
live f reading s = live_below f reading s (length reading)

-- what is known once a record is written that is newer than all others
abbrev pub note : Known → Record → Known
note k r = record { top = r.sequence; lives = slice_set k.lives r.series (live_of r) }

-- the sector that the next record goes to
abbrev pub gap : Format → List (List ℕ) → ℕ
gap f reading = (top f reading + 1) % length reading

-- the sector after the gap
abbrev pub beyond : Format → List (List ℕ) → ℕ
beyond f reading = (top f reading + 2) % length reading

-- the sector that a number names, of so many; the first where there is none
abbrev pub sector_of : ℕ → ℕ → ℕ
sector_of number sectors = if sectors == 0 then 0 else number % sectors

-- a record is live when its number is that of its series' live record
abbrev pub is_live : Format → List (List ℕ) → Record → Bool
is_live f reading r = r.sequence.0 == (live f reading r.series).number.0

-- the format fits the sectors: there are as many as it says, 10 to 2,048, and its tag and top are what a kind may have
pub record Sized (f : Format) (reading : List (List ℕ)) : Type 0 where
  pub count : f.sectors ≡ length reading
  pub least : LEAST_SECTORS ≤ length reading
  pub most : length reading ≤ MOST_SECTORS
  pub tags : f.tag < 256
  pub tops : f.top.0 < 2 ^ 53

-- the gap holds no live record
abbrev pub Free : Format → List (List ℕ) → Type 0
Free f reading =
    (r : Record) → slot f reading (gap f reading) ≡ Some r → is_live f reading r ≡ false

-- the record of a slot, if it is the live record of another series
abbrev pub to_carry : Format → List (List ℕ) → ℕ → Option Record → Option Record
to_carry f reading s None = None
to_carry f reading s (Some r) =
    if not (r.series == s) && is_live f reading r then Some r else None

-- the record after the gap that has to be carried before series s reserves
abbrev pub next_carry : Format → List (List ℕ) → ℕ → Option Record
next_carry f reading s = to_carry f reading s (slot f reading (beyond f reading))

-- the next record
abbrev pub next : Format → List (List ℕ) → ℕ → ℕ → Record
next f reading s end =
    record { series = s; sequence = record { 0 = top f reading + 1 }; end = record { 0 = end } }

-- the sectors with a record written into the gap
abbrev pub with_record : Format → List (List ℕ) → Record → List (List ℕ)
with_record f reading r = slice_set reading (gap f reading) (encoded f.tag r)

-- one write and its flush
pub record Step : Type 0 where
  pub work : Work
  pub sector : ℕ
  pub entry : Record

-- the write of the reservation itself
abbrev pub reservation_step : Format → List (List ℕ) → ℕ → ℕ → Step
reservation_step f reading s end =
    record { work = Reservation s; sector = gap f reading; entry = next f reading s end }

-- the write of a carry: the record once more, with the next number and its own end
abbrev pub carry_step : Format → List (List ℕ) → Record → Step
carry_step f reading r =
    record {
      work = Carry r.series;
      sector = gap f reading;
      entry = next f reading r.series r.end.0;
    }

-- a carry and what follows it, or the reservation
abbrev pub first_then :
    Format → List (List ℕ) → ℕ → ℕ → (Record → List Step) → Option Record → List Step
first_then f reading s end rest None = reservation_step f reading s end ∷ []
first_then f reading s end rest (Some r) =
    carry_step f reading r ∷ rest (carry_step f reading r).entry

-- the writes of a reservation with at most n carries, in their order
unfoldable pub plan : Format → ℕ → ℕ → ℕ → List (List ℕ) → List Step
plan f zero s end reading = reservation_step f reading s end ∷ []
plan f (suc n) s end reading =
    first_then f reading s end
    (λ r. plan f n s end (with_record f reading r)) (next_carry f reading s)

-- what there is to know of the sectors
abbrev pub known : Format → List (List ℕ) → Known
known f reading =
    record { top = record { 0 = top f reading }; lives = map (live f reading) (range_with_len 0 8) }

-- what is known once one record more is met
abbrev pub meet : Known → Record → Known
meet k r =
    record {
      top = record { 0 = max k.top.0 r.sequence.0 };
      lives = slice_set k.lives r.series (newer (slice_index_or k.lives r.series none) (live_of r));
    }

-- the next record by what is known: its number is one more than the top, or the greatest that fits
abbrev pub next_known : Known → ℕ → Rank → Record
next_known k s end =
    record { series = s; sequence = record { 0 = min (k.top.0 + 1) (2 ^ 64 - 1) }; end = end }

-- the live record of a series among eight
abbrev pub live_among : List Live → ℕ → Live
live_among lives s = slice_index_or lives s none

-- whether a record is the live one of its series, by what is known
abbrev pub is_live_by : Known → Record → Bool
is_live_by k r = nat_lt r.series 8 && r.sequence.0 == (live_among k.lives r.series).number.0

-- what is to be carried, by what is known: another series' live record, no newer than where the search began
abbrev pub carry_of : Known → ℕ → ℕ → Content → Option Record
carry_of k s start (Holds r) =
    if not (r.series == s) && (is_live_by k r && nat_le r.sequence.0 start) then Some r else None
carry_of k s start other = None

-- the end of a series by what is known; 0 for a series above 7
abbrev pub known_end : Known → ℕ → Rank
known_end k s = if nat_lt s 8 then (live_among k.lives s).end else record { 0 = 0 }

-- the ends of all eight series by what is known
abbrev pub known_ends : Known → List Rank
known_ends k = map (known_end k) (range_with_len 0 8)

-- whether a sector holds a live record, by what is known
abbrev pub holds_live_by : Known → Content → Bool
holds_live_by k (Holds r) = is_live_by k r
holds_live_by k other = false

-- whether a sector is foreign
abbrev pub is_foreign : Content → Bool
is_foreign Foreign = true
is_foreign other = false

-- no sector is foreign
abbrev pub Native : Format → List (List ℕ) → Type 0
Native f reading = (k : ℕ) → k < length reading → is_foreign (content f k (at reading k)) ≡ false

-- what the ring knows is what its disk reads, and the disk recovers
pub record Agrees (r : Ring) (m : Meaning) : Type 0 where
  pub sized : Sized r.format m.reading
  pub knows : r.known ≡ known r.format m.reading
  pub free : Free r.format m.reading
  pub native : Native r.format m.reading

-- the gap as the ring knows it
abbrev pub known_gap : Ring → ℕ
known_gap r = sector_of (min (r.known.top.0 + 1) (2 ^ 64 - 1)) r.format.sectors

-- the next record as the ring knows it
abbrev pub next_of : Ring → ℕ → Rank → Record
next_of r s end = next_known r.known s end

-- the ring once a record is written that is newer than all others
abbrev pub with_noted : Ring → Record → Ring
with_noted r entry = record { format = r.format; known = note r.known entry }

-- the first of two, if there is one
abbrev pub first_of : {A : Type 0} → Option A → Option A → Option A
first_of (Some x) y = Some x
first_of None y = y

-- the lowest foreign sector among the first n
unfoldable pub foreign_below : Format → List (List ℕ) → ℕ → Option ℕ
foreign_below f reading zero = None
foreign_below f reading (suc n) =
    first_of (foreign_below f reading n)
    (if is_foreign (content f n (at reading n)) then Some n else None)

-- whether a slot holds a live record
abbrev pub holds_live : Format → List (List ℕ) → Option Record → Bool
holds_live f reading None = false
holds_live f reading (Some r) = is_live f reading r

-- what a pass over all sectors tells: the lowest foreign one, or what there is to know
abbrev pub scan : Format → List (List ℕ) → Option ℕ → Result Known RingFault
scan f reading (Some sector) = Err (Foreign' sector)
scan f reading None = Ok (known f reading)

-- a ring that is known, unless its gap holds a live record
abbrev pub ring_of_scan : Format → List (List ℕ) → Result Known RingFault → Result Ring RingFault
ring_of_scan f reading (Err fault) = Err fault
ring_of_scan f reading (Ok k) =
    if holds_live f reading (slot f reading (gap f reading))
    then Err (LiveInGap (gap f reading))
    else Ok (record { format = f; known = k })

-- what recovery answers
abbrev pub recover : Format → List (List ℕ) → Result Ring RingFault
recover f reading =
    if nat_le LEAST_SECTORS f.sectors && nat_le f.sectors MOST_SECTORS
    then ring_of_scan f reading (scan f reading (foreign_below f reading (length reading)))
    else Err (Size f.sectors)
