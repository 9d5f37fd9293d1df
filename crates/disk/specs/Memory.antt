-- A flat memory as a list of sectors of 32 bytes.
use Rattle.std.specs.Prelude.{ℕ, zero, suc, ◌+◌, ◌*◌, ◌/◌, ◌≤◌, Bool, ◌&&◌, List, [], ◌∷◌, ◌++◌, length, take, drop, ◌==◌, nat_le}
use Rattle.record.specs.declared.sector.TheConstants.{SECTOR_BYTES}
use Rattle.disk.specs.declared.size.TheConstants.{LEAST_SECTORS, MOST_SECTORS}

-- the first n sectors of a memory
unfoldable pub chunks : ℕ → List ℕ → List (List ℕ)
chunks zero memory = []
chunks (suc n) memory = take SECTOR_BYTES memory ∷ chunks n (drop SECTOR_BYTES memory)

-- all whole sectors
unfoldable pub sectors : List ℕ → List (List ℕ)
sectors memory = chunks (length memory / SECTOR_BYTES) memory

-- the bytes past the last whole sector
unfoldable pub spare : List ℕ → List ℕ
spare memory = drop (SECTOR_BYTES * (length memory / SECTOR_BYTES)) memory

-- bytes stored over sector i, and nothing beside them
unfoldable pub stored : List ℕ → ℕ → List ℕ → List ℕ
stored memory i bytes =
    take (SECTOR_BYTES * i) memory
    ++ (bytes ++ drop (SECTOR_BYTES * i + SECTOR_BYTES) memory)

-- a disk has 10 to 2,048 sectors
abbrev pub IsSize : ℕ → Type 0
IsSize count = (LEAST_SECTORS ≤ count) × (count ≤ MOST_SECTORS)

-- the test of that, and that the memory has their bytes and no others
abbrev pub right_size : ℕ → ℕ → Bool
right_size bytes count =
    nat_le LEAST_SECTORS count && (nat_le count MOST_SECTORS && bytes == SECTOR_BYTES * count)
