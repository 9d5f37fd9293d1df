-- The disks that a request file may choose, by what a disk means.
use Rattle.std.specs.Prelude.{ℕ, ◌-◌, ◌*◌, Bool, if◌then◌else◌, ◌&&◌, List, [], ◌∷◌, Some, None, Option, ◌==◌, nat_le, nat_lt, refl, slice_set}
use Rattle.std.specs.List.{fold}
use Rattle.record.specs.declared.sector.TheConstants.{SECTOR_BYTES}
use Rattle.disk.specs.Devices.{faithful, torn_disk, torn, memory_moves, write_through, latest_write}
use Rattle.disk.specs.Meaning.{Meaning, Shaped, count}
use Rattle.disk.specs.Memory.{IsSize, sectors}
use Rattle.disk.specs.Moves.{Moves}
use Rattle.disk.specs.Shape.{all_shaped, all_sized}
use Rattle.disk.specs.declared.size.TheConstants.{LEAST_SECTORS, MOST_SECTORS}
use Rattle.disk.specs.Tearing.{before-count}
use Rattle.ring.specs.Operations.{Op, put, settle}
use Rattle.simulator.specs.declared.device.Device.{Device}
use Rattle.simulator.specs.declared.device.Device.TheVariants.{Faithful, Torn}
use Rattle.simulator.specs.declared.device.Make.{Make}
use Rattle.simulator.specs.declared.device.Make.TheVariants.{Faithful as AFaithful, Torn as ATorn}

-- a device means what its disk means
abbrev pub meaning_of : Device → Meaning
meaning_of (Faithful d) = faithful d
meaning_of (Torn d) = torn_disk d

-- each call makes of a device the same device, as that disk's own call does
abbrev pub device_writes : Device → ℕ → List ℕ → Device → Type 0
device_writes (Faithful d) i bytes (Faithful d') = (memory_moves write_through).writes d i bytes d'
device_writes (Torn d) i bytes (Torn d') = (memory_moves latest_write).writes d i bytes d'
device_writes (Faithful d) i bytes (Torn d') = ⊥
device_writes (Torn d) i bytes (Faithful d') = ⊥

abbrev pub device_flushes : Device → ℕ → Device → Type 0
device_flushes (Faithful d) i (Faithful d') = (memory_moves write_through).flushes d i d'
device_flushes (Torn d) i (Torn d') = (memory_moves latest_write).flushes d i d'
device_flushes (Faithful d) i (Torn d') = ⊥
device_flushes (Torn d) i (Faithful d') = ⊥

abbrev pub device_cuts : Device → ℕ → ℕ → Device → Type 0
device_cuts (Faithful d) tear supply (Faithful d') =
    (memory_moves write_through).cuts d tear supply d'
device_cuts (Torn d) tear supply (Torn d') =
    (memory_moves latest_write).cuts d tear supply d'
device_cuts (Faithful d) tear supply (Torn d') = ⊥
device_cuts (Torn d) tear supply (Faithful d') = ⊥

abbrev pub device_moves : Moves Device
device_moves = record { writes = device_writes; flushes = device_flushes; cuts = device_cuts }

-- sectors of 32 bytes, and as many kept as are read
pub shaped : (d : Device) → Shaped (meaning_of d)
shaped (Faithful d) = record { bytes = all_shaped d.sectors.memory.now; keeps = refl }
shaped (Torn d) =
    record {
      bytes = all_shaped d.sectors.memory.now;
      keeps = before-count d.held (sectors d.sectors.memory.now);
    }

-- 10 to 2,048 of them
pub sized : (d : Device) → IsSize (count (meaning_of d))
sized (Faithful d) = all_sized d.sectors.memory.now d.sectors.sized
sized (Torn d) = all_sized d.sectors.memory.now d.sectors.sized

-- which disk it is
abbrev pub make_of : Device → Make
make_of (Faithful d) = AFaithful
make_of (Torn d) = ATorn

-- device 0 is the faithful disk, device 1 the torn one
abbrev pub make_for : ℕ → Option Make
make_for number =
    if number == 0 then Some AFaithful
    else if number == 1 then Some ATorn
    else None

-- a disk has 10 to 2,048 sectors, and the memory has at least their bytes
abbrev pub room : ℕ → ℕ → Bool
room bytes sectors =
    nat_le LEAST_SECTORS sectors
    && (nat_le sectors MOST_SECTORS && nat_le (SECTOR_BYTES * sectors) bytes)

-- the two disks exactly. A write: the faithful disk keeps it at once; the torn disk keeps what it read before, and
-- holds the write back
abbrev pub kept_by_write : Make → Meaning → ℕ → List ℕ → List (List ℕ)
kept_by_write AFaithful m i bytes = slice_set m.reading i bytes
kept_by_write ATorn m i bytes = m.reading

-- a disk after a write of bytes into a sector
abbrev pub meaning_after_write : Make → Meaning → ℕ → List ℕ → Meaning
meaning_after_write make m i bytes =
    record {
      reading = slice_set m.reading i bytes;
      kept = kept_by_write make m i bytes;
      supply = m.supply - 1;
      beyond = m.beyond;
    }

-- a flush: what is read is kept
abbrev pub meaning_after_flush : Meaning → Meaning
meaning_after_flush m =
    record { reading = m.reading; kept = m.reading; supply = m.supply - 1; beyond = m.beyond }

-- each sector torn between what is kept of it and what it reads; where the two are the same it stays
abbrev pub torn_apart : ℕ → List (List ℕ) → List (List ℕ) → List (List ℕ)
torn_apart tear [] reading = reading
torn_apart tear (old ∷ kept) [] = []
torn_apart tear (old ∷ kept) (new ∷ reading) =
    torn tear old new ∷ torn_apart tear kept reading

-- a cut: the faithful disk reads as before, the torn disk as the tear leaves it
abbrev pub reading_after_cut : Make → ℕ → Meaning → List (List ℕ)
reading_after_cut AFaithful tear m = m.reading
reading_after_cut ATorn tear m = torn_apart tear m.kept m.reading

-- a disk after a cut with a tear and a new supply
abbrev pub meaning_after_cut : Make → ℕ → ℕ → Meaning → Meaning
meaning_after_cut make tear supply m =
    record {
      reading = reading_after_cut make tear m;
      kept = reading_after_cut make tear m;
      supply = supply;
      beyond = m.beyond;
    }

-- whether a write or a flush of a sector succeeds
abbrev pub is_carried_out : Meaning → ℕ → Bool
is_carried_out m i = nat_lt i (count m) && nat_lt 0 m.supply

-- a disk after an operation that is tried: one that is denied changes nothing
abbrev pub after_try : Make → Meaning → Op → Meaning
after_try make m (put i bytes) =
    if is_carried_out m i then meaning_after_write make m i bytes else m
after_try make m (settle i) = if is_carried_out m i then meaning_after_flush m else m

-- a disk after operations that are tried, one after the other
unfoldable pub after_tries : Make → Meaning → List Op → Meaning
after_tries make m ops = fold (after_try make) m ops
