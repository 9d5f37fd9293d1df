-- A sector of 32 bytes, and the record that it holds.
use Rattle.std.specs.Prelude.{◌≡◌, ℕ, zero, suc, ◌+◌, ◌*◌, ◌/◌, ◌%◌, Bool, true, if◌then◌else◌, ◌&&◌, List, [], ◌∷◌, ◌++◌, Some, None, Option, take, drop, replicate, ◌==◌, nat_le, nat_lt, slice_index}
use Rattle.record.specs.Crc.{crc}
use Rattle.record.specs.declared.sector.TheConstants.{LAST_SEQUENCE}
use Rattle.record.specs.declared.sector.Content.{Content}
use Rattle.record.specs.declared.sector.Content.TheVariants.{Blank, Foreign, Record as Holds}
use Rattle.record.specs.declared.sector.Format.{Format}
use Rattle.record.specs.declared.sector.Record.{Record}

-- the number that bytes stand for, the lowest byte first
unfoldable pub little : List ℕ → ℕ
little [] = 0
little (b ∷ bs) = b + 256 * little bs

-- so many bytes of a number, the lowest first
unfoldable pub bytes_of : ℕ → ℕ → List ℕ
bytes_of zero n = []
bytes_of (suc k) n = n % 256 ∷ bytes_of k (n / 256)

-- no byte is other than 0
unfoldable pub all_zero : List ℕ → Bool
all_zero [] = true
all_zero (b ∷ bs) = b == 0 && all_zero bs

-- so many bytes from a place on
abbrev pub bytes_at : ℕ → ℕ → List ℕ → List ℕ
bytes_at at count s = take count (drop at s)

-- a sector is sound when its last four bytes are the checksum of the others
unfoldable pub sound : List ℕ → Bool
sound s = crc (take 28 s) == little (drop 28 s)

-- a sector taken apart: its tag, whether the bytes that a record leaves free are zero, and the record's fields
pub record Parts : Type 0 where
  pub tag : ℕ
  pub zeroed : Bool
  pub «record» : Record

-- tag and series stand in bytes 0 and 1, the sequence number in 4 to 11, the end in 12 to 19; bytes 2 and 3 and 20 to 27 have
-- to be zero
unfoldable pub parts : List ℕ → Parts
parts s =
    record {
      tag = slice_index s 0;
      zeroed = slice_index s 2 == 0 && (slice_index s 3 == 0 && all_zero (bytes_at 20 8 s));
      «record» =
          record {
            series = slice_index s 1;
            sequence = record { 0 = little (bytes_at 4 8 s) };
            end = record { 0 = little (bytes_at 12 8 s) };
          };
    }

-- the tag and the record, where those bytes are zero
abbrev pub told_by : Parts → Option (ℕ × Record)
told_by p = if p.zeroed then Some (p.tag, p.«record») else None

-- whether a number names sector i of n: number mod n is i; of 0 sectors it names none
abbrev pub names : ℕ → ℕ → ℕ → Bool
names n number i = nat_lt 0 n && number % n == i

-- a series below 8, a sequence number from 1 to the last that names the sector, an end from 1 to one above the kind's top
abbrev pub lawful : Format → ℕ → Record → Bool
lawful f i r =
    nat_lt r.series 8
    && (nat_lt 0 r.sequence.0 && nat_le r.sequence.0 LAST_SEQUENCE)
    && (nat_lt 0 r.end.0 && nat_le r.end.0 (f.top.0 + 1))
    && names f.sectors r.sequence.0 i

-- the parts are those of a record of this disk, in sector i
abbrev pub belongs : Format → ℕ → Parts → Bool
belongs f i p = p.tag == f.tag && (p.zeroed && lawful f i p.«record»)

-- what sector i of a disk holds: blank where it is not sound, foreign where it is sound and no record
unfoldable pub content : Format → ℕ → List ℕ → Content
content f i s =
    if sound s then (if belongs f i (parts s) then Holds (parts s).«record» else Foreign) else Blank

-- the 28 bytes under a record's checksum
unfoldable pub body : ℕ → Record → List ℕ
body tag r =
    tag ∷ r.series ∷ 0 ∷ 0 ∷ (bytes_of 8 r.sequence.0 ++ (bytes_of 8 r.end.0 ++ replicate 8 0))

-- the 32 bytes of a record
unfoldable pub encoded : ℕ → Record → List ℕ
encoded tag r = body tag r ++ bytes_of 4 (crc (body tag r))

-- bytes read back as this record on every disk of this tag where its numbers are lawful, and elsewhere as foreign
abbrev pub ReadsBack : ℕ → Record → List ℕ → Type 0
ReadsBack tag r s =
    (f : Format) (i : ℕ) →
    content f i s ≡ (if tag == f.tag && lawful f i r then Holds r else Foreign)

-- bytes that are blank on every disk
abbrev pub AlwaysBlank : List ℕ → Type 0
AlwaysBlank s = (f : Format) (i : ℕ) → content f i s ≡ Blank
