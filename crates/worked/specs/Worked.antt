-- A history, call by call: a request, a request that a power cut stops in its reservation, the cut, and a request.
use Rattle.std.specs.Prelude.{◌≡◌, ℕ, false, List, [], ◌∷◌, replicate, Some, None, Ok, Err, Option, slice_set}
use Rattle.std.proofs.Common.{lit≤}
use Rattle.record.specs.Sector.{sound, encoded}
use Rattle.record.specs.declared.sector.Record.{Record}
use Rattle.disk.specs.Devices.{Stands, after_write, after_flush, after_cut as stands_after_cut, before, mixture, left_sectors, latest_write}
use Rattle.disk.specs.Meaning.{Meaning, at, denied}
use Rattle.disk.specs.Moves.{Moves}
use Rattle.disk.specs.declared.fault.Cause.TheVariants.{Dark}
use Rattle.disk.specs.declared.fault.Operation.TheVariants.{Flush}
use Rattle.disk.specs.declared.torn.Held.{Held}
use Rattle.kind.specs.Meaning.{Numbering}
use Rattle.kind.specs.Serial.{serial_numbering}
use Rattle.ring.specs.declared.fault.RingFault.{RingFault}
use Rattle.ring.specs.declared.fault.RingFault.TheVariants.{Interrupted}
use Rattle.ring.specs.declared.fault.Work.TheVariants.{Reservation}
use Rattle.history.specs.History.{Event, request, cut}
use Rattle.history.specs.Promise.{Reached}
use Rattle.server.specs.declared.fault.ServerFault.TheVariants.{Ring}
use Rattle.server.specs.declared.state.State.{State}
use Rattle.disk.specs.Blank.{zeros, cleared}

-- the serial kind that reserves one rank at a time
abbrev pub one_by_one : Numbering
one_by_one = serial_numbering (record { size = 1; in_range = (lit≤ tt, lit≤ tt) })

-- a disk of ten cleared sectors with three writes and flushes to succeed
abbrev pub start : Meaning
start = cleared 10 3

-- record n of series 2, which reserves rank n - 1
abbrev pub entry : ℕ → Record
entry n = record { series = 2; sequence = record { 0 = n }; end = record { 0 = n } }

-- the bytes of that record
abbrev pub written : ℕ → List ℕ
written n = encoded 1 (entry n)

-- record 1 is in sector 1
abbrev pub with_one : List (List ℕ)
with_one = slice_set (zeros 10) 1 (written 1)

-- then record 2 is written into sector 2
abbrev pub with_two : List (List ℕ)
with_two = slice_set with_one 2 (written 2)

-- the cut leaves its first 20 bytes, and zeros after them
abbrev pub with_part : List (List ℕ)
with_part = slice_set with_one 2 (mixture 20 (replicate 32 0) (written 2))

-- record 1 is written and flushed
abbrev pub after_first : Meaning
after_first = record { reading = with_one; kept = with_one; supply = 1; beyond = [] }

-- record 2 is written and not flushed
abbrev pub after_second : Meaning
after_second = record { reading = with_two; kept = with_one; supply = 0; beyond = [] }

-- the current is back, with nine writes and flushes to succeed
abbrev pub after_cut : Meaning
after_cut = record { reading = with_part; kept = with_part; supply = 9; beyond = [] }

-- record 2 is written anew and flushed
abbrev pub after_third : Meaning
after_third = record { reading = with_two; kept = with_two; supply = 7; beyond = [] }

-- the flush of record 2 goes dark
abbrev pub stop : RingFault
stop = Interrupted (record { work = Reservation 2; fault = denied Dark Flush 2 })

-- identifier 1 is given
abbrev pub first : Event
first = request 2 (record { 0 = 0 }) (Ok (record { 0 = 1 })) after_first

-- the flush of its reservation goes dark
abbrev pub second : Event
second = request 2 (record { 0 = 0 }) (Err (Ring stop)) after_second

-- the power is cut: the top record is 1
abbrev pub power_cut : Event
power_cut = cut 20 9 (Ok (record { 0 = 1 })) after_cut

-- identifier 2 is given
abbrev pub third : Event
third = request 2 (record { 0 = 0 }) (Ok (record { 0 = 2 })) after_third

-- the history, the newest call first
abbrev pub worked : List Event
worked = third ∷ power_cut ∷ second ∷ first ∷ []

-- a torn disk by all that there is to it, without the memory that it lies in: what it means, and what each call makes of it
abbrev pub Torn : Type 0
Torn = Stands (Option Held)

abbrev pub torn_meaning : Torn → Meaning
torn_meaning x =
    record {
      reading = x.reading;
      kept = before x.held x.reading;
      supply = x.supply;
      beyond = x.beyond;
    }

abbrev pub torn_moves : Moves Torn
torn_moves =
    record {
      writes = λ x i bytes x'. x' ≡ after_write latest_write x i bytes;
      flushes = λ x i x'. x' ≡ after_flush latest_write x i;
      cuts = λ x tear supply x'. x' ≡ stands_after_cut latest_write x tear supply;
    }

-- the torn disk that it begins with
abbrev pub cleared_torn : Torn
cleared_torn = record { reading = zeros 10; beyond = []; held = None; supply = 3 }

-- the calls make it, on a torn disk, and the cut leaves of that disk what its tear leaves
abbrev pub WorkedHistory : Type 0
WorkedHistory =
    (state : State) × (disk : Torn)
    × Reached torn_moves torn_meaning one_by_one cleared_torn worked state disk

-- the cut is inside the reservation: it leaves what a torn disk leaves at tear 20 that holds back the write of record 2, and the
-- sector is blank
abbrev pub TornInside : Type 0
TornInside =
    (left_sectors 20 (Some (record { sector = 2; old = replicate 32 0 })) with_two ≡ with_part)
    × (sound (at with_part 2) ≡ false)
