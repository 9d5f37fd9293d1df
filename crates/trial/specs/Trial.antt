-- What a cut leaves of a sector in which a newer record is being written over an older one.
use Rattle.std.specs.Prelude.{◌≡◌, ℕ, Bool, true, false, ◌⊎◌, List, slice_set}
use Rattle.record.specs.Sector.{content, encoded}
use Rattle.record.specs.declared.sector.Content.{Content}
use Rattle.record.specs.declared.sector.Content.TheVariants.{Blank, Record as Holds}
use Rattle.record.specs.declared.sector.Format.{Format}
use Rattle.record.specs.declared.sector.Record.{Record}
use Rattle.disk.specs.Blank.{zeros}
use Rattle.disk.specs.Devices.{torn}
use Rattle.disk.specs.Holding.{Holding}
use Rattle.disk.specs.Meaning.{at}
use Rattle.trial.specs.declared.cut.TheConstants.{SECTORS, TAG, SECTOR}

-- the disk of the trial has ten sectors and serial records
abbrev pub format : Format
format = record { tag = TAG; top = record { 0 = 999999998 }; sectors = SECTORS }

-- record 3 of series 2, with the ranks below 200 reserved
abbrev pub older : Record
older = record { series = 2; sequence = record { 0 = 3 }; end = record { 0 = 200 } }

-- record 13 of series 2, with the ranks below 300 reserved: it lies in the same sector
abbrev pub newer : Record
newer = record { series = 2; sequence = record { 0 = 13 }; end = record { 0 = 300 } }

-- a disk without records
abbrev pub blank_sectors : List (List ℕ)
blank_sectors = zeros SECTORS

-- the same once the newer record is written
abbrev pub sectors_rewritten : List (List ℕ)
sectors_rewritten = slice_set blank_sectors SECTOR (encoded TAG newer)

-- what a disk holds back of the trial: nothing once it was flushed, and else the write over the older record
abbrev pub write_held : {H : Type 0} → Holding H → Bool → H
write_held w true = w.nothing
write_held w false = w.with_write w.nothing SECTOR (encoded TAG older)

-- what a cut leaves of the sector, as it is read
abbrev pub left_on : {H : Type 0} → Holding H → Bool → ℕ → Content
left_on w flushed tear =
    content format SECTOR
    (at (w.left_sectors tear (write_held w flushed) sectors_rewritten) SECTOR)

-- what is kept of the sector before the cut is the newer record
abbrev pub KeepsNewer : {H : Type 0} → Holding H → Bool → Type 0
KeepsNewer w flushed =
    at (w.before (write_held w flushed) sectors_rewritten) SECTOR ≡ encoded TAG newer

-- a torn disk leaves the newer record where it was flushed, and else what the tear makes of the two
abbrev pub bytes_left : Bool → ℕ → List ℕ
bytes_left true tear = encoded TAG newer
bytes_left false tear = torn tear (encoded TAG older) (encoded TAG newer)

-- the same, as it is read
abbrev pub left_torn : Bool → ℕ → Content
left_torn flushed tear = content format SECTOR (bytes_left flushed tear)

-- a faithful disk leaves the newer record
abbrev pub left_faithful : Content
left_faithful = content format SECTOR (encoded TAG newer)

-- one of the two records stands whole, or the sector is blank: no third record is ever read
abbrev pub OneOfThree : Content → Type 0
OneOfThree left = (left ≡ Holds older) ⊎ ((left ≡ Holds newer) ⊎ (left ≡ Blank))
