-- The trials of a disk, and how many of them left what.
use Rattle.std.specs.Prelude.{ℕ, ◌-◌, ◌^◌, Bool, true, false, if◌then◌else◌, List, ◌++◌, codes, length, filter, ◌==◌}
use Rattle.std.specs.Fmt.{decimal, format_spec, styled_decimal}
use Rattle.record.specs.declared.sector.Content.{Content}
use Rattle.record.specs.declared.sector.Content.TheVariants.{Blank, Foreign, Record as Holds}
use Rattle.trial.specs.Trial.{older, newer, left_torn, left_faithful}
use Rattle.trial.specs.declared.table.Device.{Device}
use Rattle.trial.specs.declared.table.Device.TheVariants.{Torn, Faithful}
use Rattle.trial.specs.declared.table.Outcome.{Outcome}
use Rattle.trial.specs.declared.table.Outcome.TheVariants as outcome
use Rattle.trial.specs.declared.table.Trial.{Trial}

-- what a device leaves
abbrev pub left_by : Device → Bool → ℕ → Content
left_by Torn flushed tear = left_torn flushed tear
left_by Faithful flushed tear = left_faithful

-- whether the newer record stands after the cut: on a torn disk where it was flushed, on a faithful disk in any case
abbrev pub newer_stands : Device → Bool → Bool
newer_stands Torn flushed = flushed
newer_stands Faithful flushed = true

-- one trial, told whole
abbrev pub trial_of : Device → Bool → ℕ → Trial
trial_of device flushed tear =
    record {
      device = device;
      flushed = flushed;
      tear = tear;
      left = left_by device flushed tear;
    }

-- a sector holds the record of this number
abbrev pub holds : ℕ → Content → Bool
holds number (Holds r) = r.sequence.0 == number
holds number _ = false

-- a sector holds nothing sound
abbrev pub is_blank : Content → Bool
is_blank Blank = true
is_blank _ = false

-- a sector was left with this outcome
abbrev pub leaves : Outcome → Content → Bool
leaves outcome.Older left = holds older.sequence.0 left
leaves outcome.Newer left = holds newer.sequence.0 left
leaves outcome.Blank left = is_blank left

-- so many trials had this outcome
abbrev pub how_many : Outcome → List Trial → ℕ
how_many wanted trials = length (filter (λ t. leaves wanted t.left) trials)

-- a number at the right end of two columns
abbrev pub in_two_columns : ℕ → List ℕ
in_two_columns n = styled_decimal (format_spec 32 3 0 2 (2 ^ 64 - 1)) n

-- the name of the record with this sequence number
abbrev pub record_name : ℕ → List ℕ
record_name number =
    if number == older.sequence.0 then codes "older"
    else if number == newer.sequence.0 then codes "newer"
    else codes "another"

-- what the sector reads as, in words
abbrev pub content_text : Content → List ℕ
content_text Blank = codes "blank"
content_text Foreign = codes "foreign"
content_text (Holds r) =
    record_name r.sequence.0
    ++ (codes " record, sequence number "
    ++ (decimal r.sequence.0
    ++ (codes ", end " ++ decimal r.end.0)))

-- the line of a trial: its tear, and what the sector reads as
abbrev pub line_of : Trial → List ℕ
line_of t = codes "tear " ++ (in_two_columns t.tear ++ (codes ": " ++ content_text t.left))
