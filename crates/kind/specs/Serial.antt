-- The serial kind.
use Rattle.std.specs.Prelude.{ℕ, ◌+◌, Some, Option, Result}
use Rattle.record.specs.declared.numbers.Rank.{Rank}
use Rattle.record.specs.declared.numbers.Reading.{Reading}
use Rattle.record.specs.declared.numbers.Identifier.{Identifier}
use Rattle.kind.specs.declared.fault.SettingFault.{SettingFault}
use Rattle.kind.specs.declared.fault.SettingFault.TheVariants.{BlockSize}
use Rattle.kind.specs.declared.serial.SerialKind.{SerialKind}
use Rattle.kind.specs.declared.serial.TheConstants.{LARGEST}
use Rattle.kind.specs.Meaning.{Numbering}
use Rattle.kind.specs.Range.{made_within}

-- a block size from 1 to 10,000 makes a kind, and any other is denied
abbrev pub serial_kind_of : ℕ → Result SerialKind SettingFault
serial_kind_of size =
    made_within 1 LARGEST size BlockSize (λ fits. record { size = size; in_range = fits })

-- a record of this kind begins with 1
abbrev pub serial_tag : SerialKind → ℕ
serial_tag _ = 1

-- the last label says 999,999,999
abbrev pub serial_top : SerialKind → Rank
serial_top _ = record { 0 = 999999998 }

-- a reservation takes as many ranks as the kind was made with
abbrev pub serial_block : SerialKind → ℕ
serial_block kind = kind.size

-- every reading allows every rank
abbrev pub serial_floor : SerialKind → Reading → Option Rank
serial_floor _ _ = Some (record { 0 = 0 })

-- in each series the first label says 1
abbrev pub serial_identifier : SerialKind → ℕ → Rank → Identifier
serial_identifier _ _ rank = record { 0 = rank.0 + 1 }

-- what a serial kind tells
abbrev pub serial_numbering : SerialKind → Numbering
serial_numbering kind =
    record {
      tag = serial_tag kind;
      top = serial_top kind;
      block = serial_block kind;
      floor = serial_floor kind;
      identifier = serial_identifier kind;
    }
