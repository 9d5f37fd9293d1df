-- Disks without records, and disks that are cleared.
use Rattle.std.specs.Prelude.{◌≡◌, ℕ, ◌*◌, ◌<◌, ◌≤◌, false, List, [], length, replicate}
use Rattle.record.specs.Sector.{sound}
use Rattle.record.specs.declared.sector.TheConstants.{SECTOR_BYTES}
use Rattle.disk.specs.Meaning.{Meaning, at}
use Rattle.disk.specs.declared.size.TheConstants.{LEAST_SECTORS, MOST_SECTORS}

-- a disk without records keeps what it reads, and every sector is blank
pub record Unwritten (m : Meaning) : Type 0 where
  pub kept : m.kept ≡ m.reading
  pub blank : (k : ℕ) → k < length m.reading → sound (at m.reading k) ≡ false

-- the same, and it has 10 to 2,048 sectors
pub record WithoutRecords (m : Meaning) : Type 0 where
  pub least : LEAST_SECTORS ≤ length m.reading
  pub most : length m.reading ≤ MOST_SECTORS
  pub kept : m.kept ≡ m.reading
  pub blank : (k : ℕ) → k < length m.reading → sound (at m.reading k) ≡ false

-- so many sectors of 32 zero bytes
abbrev pub zeros : ℕ → List (List ℕ)
zeros sectors = replicate sectors (replicate SECTOR_BYTES 0)

-- a disk of them that keeps what it reads, with nothing past its last sector
abbrev pub cleared : ℕ → ℕ → Meaning
cleared sectors supply =
    record { reading = zeros sectors; kept = zeros sectors; supply = supply; beyond = [] }

-- a disk that is made without records: its memory is all zero bytes, and it means cleared sectors with the supply given
pub record BlankDisk (sectors supply : ℕ) (memory : List ℕ) (m : Meaning) : Type 0 where
  pub memory_zero : memory ≡ replicate (SECTOR_BYTES * sectors) 0
  pub means : m ≡ cleared sectors supply
  pub without : WithoutRecords m
