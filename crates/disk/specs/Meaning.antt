-- What a disk means, and what its calls do to the meaning.
use Rattle.std.specs.Prelude.{◌≡◌, ℕ, ◌+◌, false, if◌then◌else◌, ◌⊎◌, List, [], length, Ok, Err, Result, ◌==◌, nat_lt, slice_index_or, slice_set}
use Rattle.std.specs.List.{AllByRecursion}
use Rattle.record.specs.Sector.{sound}
use Rattle.record.specs.declared.sector.TheConstants.{SECTOR_BYTES}
use Rattle.disk.specs.declared.fault.Cause.{Cause}
use Rattle.disk.specs.declared.fault.Cause.TheVariants.{NoSector, Dark}
use Rattle.disk.specs.declared.fault.DiskFault.{DiskFault}
use Rattle.disk.specs.declared.fault.Operation.{Operation}
use Rattle.disk.specs.declared.fault.Operation.TheVariants.{Read}

-- what is read from each sector, what each is certain to survive with, how many writes and flushes still succeed,
-- and the bytes of the disk's memory that lie past its last sector
pub record Meaning : Type 0 where
  pub reading : List (List ℕ)
  pub kept : List (List ℕ)
  pub supply : ℕ
  pub beyond : List ℕ

-- sector k of a list of sectors
abbrev pub at : List (List ℕ) → ℕ → List ℕ
at sectors k = slice_index_or sectors k []

-- the number of sectors
abbrev pub count : Meaning → ℕ
count m = length m.reading

-- a disk has sectors of 32 bytes, and keeps as many as are read
pub record Shaped (m : Meaning) : Type 0 where
  pub bytes : AllByRecursion (λ sector. length sector ≡ SECTOR_BYTES) m.reading
  pub keeps : length m.kept ≡ length m.reading

-- a denied operation on sector i
abbrev pub denied : Cause → Operation → ℕ → DiskFault
denied cause operation i = record { cause = cause; operation = operation; sector = i }

-- what a read of sector i finds
abbrev pub found : List (List ℕ) → ℕ → Result (List ℕ) DiskFault
found sectors i =
    if nat_lt i (length sectors) then Ok (at sectors i) else Err (denied NoSector Read i)

-- what a write or a flush answers where it succeeds with a value: a bad sector number is told ahead of darkness
abbrev pub answered : {A : Type 0} → A → Operation → ℕ → ℕ → ℕ → Result A DiskFault
answered value operation sectors supply i =
    if nat_lt i sectors then
    (if supply == 0 then Err (denied Dark operation i) else Ok value)
    else Err (denied NoSector operation i)

-- the same, of a disk and with nothing to answer
abbrev pub answer_of : Operation → Meaning → ℕ → Result (Unit {0}) DiskFault
answer_of operation m i = answered tt operation (count m) m.supply i

-- some bytes are one of three contents
abbrev pub IsOneOf : List ℕ → List ℕ → List ℕ → List ℕ → Type 0
IsOneOf bytes a b c = (bytes ≡ a) ⊎ ((bytes ≡ b) ⊎ (bytes ≡ c))

-- what a cut may leave of a sector: what was kept of it, what was read from it, or bytes that are not sound
abbrev pub MayBeLeft : List ℕ → List ℕ → List ℕ → Type 0
MayBeLeft bytes kept read = (bytes ≡ kept) ⊎ ((bytes ≡ read) ⊎ (sound bytes ≡ false))

-- a write of bytes into sector i: it replaces that sector and no other; what is kept of a sector stays, or becomes what was
-- read there before the write or after it
pub record Wrote (m : Meaning) (i : ℕ) (bytes : List ℕ) (after : Meaning) : Type 0 where
  pub reads : after.reading ≡ slice_set m.reading i bytes
  pub keeps_count : length after.kept ≡ length m.kept
  pub keeps :
      (k : ℕ) →
      IsOneOf (at after.kept k) (at m.kept k) (at m.reading k) (at after.reading k)
  pub spends : after.supply + 1 ≡ m.supply
  pub leaves : after.beyond ≡ m.beyond

-- a flush: all that is read is kept
pub record Flushed (m after : Meaning) : Type 0 where
  pub reads : after.reading ≡ m.reading
  pub keeps : after.kept ≡ m.reading
  pub spends : after.supply + 1 ≡ m.supply
  pub leaves : after.beyond ≡ m.beyond

-- a cut: of each sector is left what may be; where what was kept of it was what was read from it, nothing else is left
pub record Cut (m : Meaning) (supply : ℕ) (after : Meaning) : Type 0 where
  pub reads_count : length after.reading ≡ length m.reading
  pub reads : (k : ℕ) → MayBeLeft (at after.reading k) (at m.kept k) (at m.reading k)
  pub settled : (k : ℕ) → at m.kept k ≡ at m.reading k → at after.reading k ≡ at m.reading k
  pub keeps : after.kept ≡ after.reading
  pub supplied : after.supply ≡ supply
  pub leaves : after.beyond ≡ m.beyond
