-- The time kind.
use Rattle.std.specs.Prelude.{ℕ, ◌+◌, ◌-◌, ◌*◌, ◌/◌, ◌%◌, ◌^◌, if◌then◌else◌, ℤ, pos, negsuc, ◌+ℤ◌, ◌*ℤ◌, neg_ℤ, Some, None, Ok, Option, Result, nat_le, nat_lt}
use Rattle.std.specs.Option.{option_map}
use Rattle.record.specs.declared.numbers.Rank.{Rank}
use Rattle.record.specs.declared.numbers.Reading.{Reading}
use Rattle.record.specs.declared.numbers.Identifier.{Identifier}
use Rattle.kind.specs.declared.fault.SettingFault.{SettingFault}
use Rattle.kind.specs.declared.fault.SettingFault.TheVariants as fault
use Rattle.kind.specs.declared.time.Correction.{Correction}
use Rattle.kind.specs.declared.time.Lease.{Lease}
use Rattle.kind.specs.declared.time.TimeKind.{TimeKind}
use Rattle.kind.specs.declared.time.TheConstants.{STEPS, LONGEST, LAST_BOX}
use Rattle.kind.specs.Fault.{provided}
use Rattle.kind.specs.Meaning.{Numbering}
use Rattle.kind.specs.Range.{made_within}
use Rattle.kind.specs.Snowflake.{packed}

-- a lease is 1 to 60,000 milliseconds
abbrev pub lease_of : ℕ → Result Lease SettingFault
lease_of ms =
    made_within 1 LONGEST ms fault.Lease (λ fits. record { milliseconds = ms; in_range = fits })

-- a correction is a byte
abbrev pub correction_of : ℕ → Result Correction SettingFault
correction_of byte = provided (nat_le byte 255) fault.Correction (Ok (record { 0 = byte }))

-- a box has a number from 0 to 127
abbrev pub time_kind_of : Lease → ℕ → Correction → Result TimeKind SettingFault
time_kind_of lease box correction =
    made_within 0 LAST_BOX box fault.Box
    (λ fits. record { lease = lease; box_number = box; correction = correction; in_range = fits })

-- the byte as a two's complement number: 0 to 127 as they are, 128 to 255 less 256
abbrev pub seconds_of : Correction → ℤ
seconds_of c = if nat_lt c.0 128 then pos c.0 else neg_ℤ (pos (256 - c.0))

-- a lawful reading is from 0 to 2^41 - 1
abbrev pub lawful_reading : ℤ → Option Reading
lawful_reading (pos ms) = if nat_lt ms (2 ^ 41) then Some (record { 0 = ms }) else None
lawful_reading (negsuc _) = None

-- the reading set right by 1000 milliseconds a second; none where that is not lawful
abbrev pub corrected_by : Correction → Reading → Option Reading
corrected_by c raw = lawful_reading (pos raw.0 +ℤ pos 1000 *ℤ seconds_of c)

-- a record of this kind begins with 2
abbrev pub time_tag : TimeKind → ℕ
time_tag _ = 2

-- the last rank: a rank is milliseconds times the steps of one, and a step, of 41 and 12 bits
abbrev pub time_top : TimeKind → Rank
time_top _ = record { 0 = 2 ^ 53 - 1 }

-- a reservation takes the ranks of a lease
abbrev pub time_block : TimeKind → ℕ
time_block kind = STEPS * kind.lease.milliseconds

-- a lawful reading allows the first step of its millisecond
abbrev pub time_floor : TimeKind → Reading → Option Rank
time_floor kind raw =
    option_map (λ reading. record { 0 = STEPS * reading.0 }) (corrected_by kind.correction raw)

-- a box has eight workers, one for each series
abbrev pub worker_of : TimeKind → ℕ → ℕ
worker_of kind series = 8 * kind.box_number + series

-- the rank's millisecond and step, with the worker between them
abbrev pub time_identifier : TimeKind → ℕ → Rank → Identifier
time_identifier kind series rank =
    packed
    (record {
      milliseconds = rank.0 / STEPS;
      worker = worker_of kind series;
      step = rank.0 % STEPS;
    })

-- what a time kind tells
abbrev pub time_numbering : TimeKind → Numbering
time_numbering kind =
    record {
      tag = time_tag kind;
      top = time_top kind;
      block = time_block kind;
      floor = time_floor kind;
      identifier = time_identifier kind;
    }
