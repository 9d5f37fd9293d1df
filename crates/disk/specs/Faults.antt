-- What a disk's denials tell.
use Rattle.std.specs.Prelude.{ℕ, Bool, true, false, if◌then◌else◌, List, ◌++◌, codes, Some, None, Option}
use Rattle.std.specs.Fmt.{decimal}
use Rattle.disk.specs.declared.fault.Cause.{Cause}
use Rattle.disk.specs.declared.fault.Cause.TheVariants.{NoSector, Dark}
use Rattle.disk.specs.declared.fault.DiskFault.{DiskFault}
use Rattle.disk.specs.declared.fault.Operation.{Operation}
use Rattle.disk.specs.declared.fault.Operation.TheVariants.{Read, Write, Flush}

-- how a cause is told: the number of its denials, and whether they tell a sector
pub record CauseDetails : Type 0 where
  pub number : ℕ
  pub tells_sector : Bool

-- a sector that is not there, and darkness
abbrev pub cause_details : Cause → CauseDetails
cause_details NoSector = record { number = 3; tells_sector = false }
cause_details Dark = record { number = 12; tells_sector = true }

-- the sector, where a denial tells it
abbrev pub sector_told : DiskFault → Option ℕ
sector_told fault =
    if (cause_details fault.cause).tells_sector then Some fault.sector else None

-- the name of an operation
abbrev pub name_of : Operation → List ℕ
name_of Read = codes "read"
name_of Write = codes "write"
name_of Flush = codes "flush"

-- why a call was denied
abbrev pub cause_text : Cause → List ℕ
cause_text NoSector = codes "there is no such sector"
cause_text Dark = codes "the current has failed"

-- what was denied, of which sector, and why
abbrev pub disk_fault_text : DiskFault → List ℕ
disk_fault_text fault =
    name_of fault.operation
    ++ (codes " of sector "
    ++ (decimal fault.sector
    ++ (codes " denied: " ++ cause_text fault.cause)))

-- how many bytes were handed in for a disk, and what a disk has
abbrev pub bad_size_text : ℕ → List ℕ
bad_size_text bytes =
    codes "memory of "
    ++ (decimal bytes
    ++ codes " bytes is not 32 bytes for each sector asked for, or these are not 10 to 2048")
