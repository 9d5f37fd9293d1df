-- The kinds of identifier that a request file may choose.
use Rattle.std.specs.Prelude.{ℕ, Option}
use Rattle.record.specs.declared.numbers.Identifier.{Identifier}
use Rattle.record.specs.declared.numbers.Rank.{Rank}
use Rattle.record.specs.declared.numbers.Reading.{Reading}
use Rattle.kind.specs.Meaning.{Numbering}
use Rattle.kind.specs.Serial.{serial_tag, serial_top, serial_block, serial_floor, serial_identifier}
use Rattle.kind.specs.Time.{time_tag, time_top, time_block, time_floor, time_identifier}
use Rattle.simulator.specs.declared.any_kind.AnyKind.{AnyKind}
use Rattle.simulator.specs.declared.any_kind.AnyKind.TheVariants.{Serial, Time}

-- the number by which a record names the kind
abbrev pub tag_of : AnyKind → ℕ
tag_of (Serial k) = serial_tag k
tag_of (Time k) = time_tag k

-- the highest rank that has an identifier
abbrev pub top_of : AnyKind → Rank
top_of (Serial k) = serial_top k
top_of (Time k) = time_top k

-- how many ranks a reservation takes
abbrev pub block_of : AnyKind → ℕ
block_of (Serial k) = serial_block k
block_of (Time k) = time_block k

-- the floor of a reading
abbrev pub floor_of : AnyKind → Reading → Option Rank
floor_of (Serial k) = serial_floor k
floor_of (Time k) = time_floor k

-- the identifier of a rank in a series
abbrev pub identifier_of : AnyKind → ℕ → Rank → Identifier
identifier_of (Serial k) = serial_identifier k
identifier_of (Time k) = time_identifier k

-- what a kind tells
abbrev pub numbering_of : AnyKind → Numbering
numbering_of kind =
    record {
      tag = tag_of kind;
      top = top_of kind;
      block = block_of kind;
      floor = floor_of kind;
      identifier = identifier_of kind;
    }
