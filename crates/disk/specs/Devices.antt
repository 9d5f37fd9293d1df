-- What the two devices mean, and what a cut leaves.
use Rattle.std.specs.Prelude.{◌≡◌, ℕ, ◌-◌, ◌%◌, Bool, if◌then◌else◌, not, ◌&&◌, List, ◌++◌, length, take, drop, Some, None, Option, nat_lt, slice_set}
use Rattle.std.specs.Str.{bytes_eq}
use Rattle.record.specs.Sector.{sound}
use Rattle.disk.specs.Holding.{Holding}
use Rattle.disk.specs.Meaning.{Meaning, at}
use Rattle.disk.specs.Memory.{sectors, spare, stored}
use Rattle.disk.specs.Moves.{Moves}
use Rattle.disk.specs.declared.faithful.WriteThrough.{WriteThrough}
use Rattle.disk.specs.declared.memory.MemoryDisk.{MemoryDisk}
use Rattle.disk.specs.declared.torn.Held.{Held}

-- a disk over memory keeps what it reads, but for the writes that it holds back
abbrev pub memory_disk : {H : Type 0} → (H → List (List ℕ) → List (List ℕ)) → MemoryDisk H → Meaning
memory_disk before d =
    record {
      reading = sectors d.sectors.memory.now;
      kept = before d.held (sectors d.sectors.memory.now);
      supply = d.supply;
      beyond = spare d.sectors.memory.now;
    }

-- a disk over this memory with this supply, and no write held back
abbrev pub MadeOver : {H : Type 0} → Holding H → List ℕ → ℕ → MemoryDisk H → Type 0
MadeOver w memory supply d =
    (d.sectors.memory.now ≡ memory) × (d.supply ≡ supply) × (d.held ≡ w.nothing)

-- all that there is to a disk over memory: its sectors and the bytes past them, what it holds back, and its supply
pub record Stands (H : Type 0) : Type 0 where
  pub reading : List (List ℕ)
  pub beyond : List ℕ
  pub held : H
  pub supply : ℕ

abbrev pub stands : {H : Type 0} → MemoryDisk H → Stands H
stands d =
    record {
      reading = sectors d.sectors.memory.now;
      beyond = spare d.sectors.memory.now;
      held = d.held;
      supply = d.supply;
    }

-- whether a write or a flush of a sector succeeds
abbrev pub succeeds : {H : Type 0} → Stands H → ℕ → Bool
succeeds x i = nat_lt i (length x.reading) && nat_lt 0 x.supply

-- as it stands after a write, a flush and a cut: a denied one changes nothing
abbrev pub after_write : {H : Type 0} → Holding H → Stands H → ℕ → List ℕ → Stands H
after_write w x i bytes =
    if succeeds x i then
    record {
      reading = slice_set x.reading i bytes;
      beyond = x.beyond;
      held = w.with_write x.held i (at x.reading i);
      supply = x.supply - 1;
    }
    else x

abbrev pub after_flush : {H : Type 0} → Holding H → Stands H → ℕ → Stands H
after_flush w x i =
    if succeeds x i then record x { held = w.nothing; supply = x.supply - 1 } else x

abbrev pub after_cut : {H : Type 0} → Holding H → Stands H → ℕ → ℕ → Stands H
after_cut w x tear supply =
    record x {
      reading = w.left_sectors tear x.held x.reading;
      held = w.nothing;
      supply = supply;
    }

-- so each call of it makes one disk into another, and leaves nothing open
abbrev pub memory_moves : {H : Type 0} → Holding H → Moves (MemoryDisk H)
memory_moves w =
    record {
      writes = λ d i bytes d'. stands d' ≡ after_write w (stands d) i bytes;
      flushes = λ d i d'. stands d' ≡ after_flush w (stands d) i;
      cuts = λ d tear supply d'. stands d' ≡ after_cut w (stands d) tear supply;
    }

-- no write is ever held back
abbrev pub write_through : Holding WriteThrough
write_through =
    record {
      nothing = record {};
      with_write = λ through _ _. through;
      before = λ _ sectors. sectors;
      left_sectors = λ _ _ sectors. sectors;
      left = λ _ _ memory. memory;
    }

-- a faithful disk keeps what it reads
abbrev pub faithful : MemoryDisk WriteThrough → Meaning
faithful d = memory_disk write_through.before d

-- the sectors as they were before the write that is held back
abbrev pub before : Option Held → List (List ℕ) → List (List ℕ)
before None sectors = sectors
before (Some h) sectors = slice_set sectors h.sector h.old

-- a torn disk keeps what it reads, but for the write that it holds back
abbrev pub torn_disk : MemoryDisk (Option Held) → Meaning
torn_disk d = memory_disk before d

-- the old content, with its first t bytes replaced by those of the new
abbrev pub mixture : ℕ → List ℕ → List ℕ → List ℕ
mixture t old new = take t new ++ drop t old

-- a mixture that is sound and neither content would be a made-up record: the old content stays in its place
abbrev pub mended : List ℕ → List ℕ → List ℕ → List ℕ
mended mixed old new =
    if sound mixed && (not (bytes_eq mixed old) && not (bytes_eq mixed new)) then old else mixed

-- what a cut leaves of a sector whose write is held back
abbrev pub torn : ℕ → List ℕ → List ℕ → List ℕ
torn tear old new = mended (mixture (tear % 33) old new) old new

-- what a cut leaves of a torn disk's memory
abbrev pub left : ℕ → Option Held → List ℕ → List ℕ
left tear None memory = memory
left tear (Some h) memory =
    if nat_lt h.sector (length (sectors memory)) then
    stored memory h.sector (torn tear h.old (at (sectors memory) h.sector))
    else memory

-- the same by sectors
abbrev pub left_sectors : ℕ → Option Held → List (List ℕ) → List (List ℕ)
left_sectors tear None sectors = sectors
left_sectors tear (Some h) sectors =
    slice_set sectors h.sector (torn tear h.old (at sectors h.sector))

-- the latest write is held back
abbrev pub latest_write : Holding (Option Held)
latest_write =
    record {
      nothing = None;
      with_write = λ _ sector old. Some (record { sector = sector; old = old });
      before = before;
      left_sectors = left_sectors;
      left = left;
    }
