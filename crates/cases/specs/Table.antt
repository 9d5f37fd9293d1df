-- Worked cases of the rules, as a table under one statement.
use Rattle.std.specs.Prelude.{◌≡◌, ℕ, ◌+◌, ◌*◌, min, List, [], ◌∷◌, ◌++◌, replicate, ℤ, pos, negsuc, Some, Ok, Err, Result, codes, slice_set}
use Rattle.std.specs.List.{flat_map, AllByRecursion}
use Rattle.std.proofs.Common.{lit≤, zero-le}
use Rattle.std.proofs.Math.Nat.{min-le_right}
use Rattle.record.specs.Crc.{crc}
use Rattle.record.specs.Sector.{encoded}
use Rattle.record.specs.declared.numbers.Identifier.{Identifier}
use Rattle.record.specs.declared.numbers.Reading.{Reading}
use Rattle.record.specs.declared.numbers.Sequence.{Sequence}
use Rattle.disk.specs.Meaning.{Meaning}
use Rattle.kind.specs.Time.{seconds_of, time_floor, time_identifier}
use Rattle.kind.specs.declared.time.TimeKind.{TimeKind}
use Rattle.server.specs.Faults.{particulars}
use Rattle.server.specs.Rules.{one, Wish, declines, draws, decide, end_at, next_at, woken}
use Rattle.server.specs.declared.fault.ServerFault.{ServerFault}
use Rattle.server.specs.declared.fault.ServerFault.TheVariants.{Series}
use Rattle.server.specs.declared.state.Up.{Up}
use Rattle.history.specs.declared.calls.Answer.TheVariants.{Give as OfGive, Cut as OfCut}
use Rattle.history.specs.declared.calls.Call.TheVariants.{Give, Cut}
use Rattle.history.specs.declared.calls.Turn.{Turn}
use Rattle.simulator.specs.Files.{print_of_lines, print_of_file, turns_of_file}
use Rattle.simulator.specs.Kinds.{numbering_of}
use Rattle.simulator.specs.Lines.{lines_of}
use Rattle.simulator.specs.Stages.{runs}
use Rattle.simulator.specs.Takes.{Run}
use Rattle.simulator.specs.declared.any_kind.AnyKind.{AnyKind}
use Rattle.simulator.specs.declared.any_kind.AnyKind.TheVariants.{Serial, Time}
use Rattle.simulator.specs.declared.device.Make.TheVariants.{Faithful}

-- lines of text, each with its line feed
abbrev pub text : List (List ℕ) → List ℕ
text lines = flat_map (λ line. line ++ (10 ∷ [])) lines

-- the time kind of a box, of box 127 where the number is greater, with a lease of one millisecond
abbrev pub box_with : ℕ → ℕ → TimeKind
box_with box byte =
    record {
      lease = record { milliseconds = 1; in_range = (lit≤ tt, lit≤ tt) };
      box_number = min box 127;
      correction = record { 0 = byte };
      in_range = (zero-le, min-le_right box 127);
    }

-- the number that a request is refused with; 0 where it is not
abbrev pub refusal_of : Wish → ℕ
refusal_of (declines fault) = (particulars fault).number
refusal_of (draws s first n claimed) = 0

-- what a request of series 0 at a reading wants of a server of the time kind
abbrev pub wish_at : TimeKind → Up → Reading → Wish
wish_at kind server reading =
    decide (numbering_of (Time kind)) (end_at server) (next_at server) (one 0 reading)

-- a request of a series at a reading, and what the server answered
abbrev pub request_turn : ℕ → ℕ → Result Identifier ServerFault → Turn
request_turn s reading answer =
    record { call = Give s (record { 0 = reading }); answer = Some (OfGive answer) }

-- a cut with its tear and its new supply, and what the server answered
abbrev pub cut_turn : ℕ → ℕ → Result Sequence ServerFault → Turn
cut_turn tear supply answer = record { call = Cut tear supply; answer = Some (OfCut answer) }

-- what a case says: a memory, the lines of a request file and the lines of its print; the same of a run that has
-- begun; a memory, the lines of a request file, and the calls that are made for them; bytes and their checksum; a
-- byte and its correction; a correction byte, a raw reading and its floor; the same, and the number that a request is
-- denied with; box, millisecond, series, step and their identifier
pub data Case : Type 0 where
  prints : List ℕ → List (List ℕ) → List (List ℕ) → Case
  goes_on : Run → List (List ℕ) → List (List ℕ) → Case
  calls : List ℕ → List (List ℕ) → List Turn → Case
  sums : List ℕ → ℕ → Case
  corrects : ℕ → ℤ → Case
  has_floor : ℕ → ℕ → ℕ → Case
  denies : ℕ → ℕ → ℕ → Case
  identifies : ℕ → ℕ → ℕ → ℕ → ℕ → Case

-- a case holds by the rules
abbrev pub CaseHolds : Case → Type 0
CaseHolds (prints memory requests lines) = print_of_file memory (text requests) ≡ text lines
CaseHolds (goes_on run requests lines) =
    print_of_lines (lines_of (text requests)) run ≡ text lines
CaseHolds (calls memory requests turns) = turns_of_file memory (text requests) ≡ turns
CaseHolds (sums bytes sum) = crc bytes ≡ sum
CaseHolds (corrects byte seconds) = seconds_of (record { 0 = byte }) ≡ seconds
CaseHolds (has_floor byte raw floor) =
    time_floor (box_with 0 byte) (record { 0 = raw }) ≡ Some (record { 0 = floor })
CaseHolds (denies byte raw number) =
    (server : Up) → refusal_of (wish_at (box_with 0 byte) server (record { 0 = raw })) ≡ number
CaseHolds (identifies box ms series step identifier) =
    time_identifier (box_with box 0) series (record { 0 = ms * 4096 + step })
    ≡ record { 0 = identifier }

-- a memory of more than ten sectors, not cleared
abbrev pub memory : List ℕ
memory = replicate 400 7

-- ten sectors with one serial record: series 2 has reserved all ranks but the last
abbrev pub one_record : List (List ℕ)
one_record =
    slice_set (replicate 10 (replicate 32 0)) 1
    (encoded 1
    (record { series = 2; sequence = record { 0 = 1 }; end = record { 0 = 999999998 } }))

-- a disk that keeps them
abbrev pub almost_full : Meaning
almost_full = record { reading = one_record; kept = one_record; supply = 100; beyond = [] }

-- serial identifiers in blocks of three
abbrev pub serial : AnyKind
serial = Serial (record { size = 3; in_range = (lit≤ tt, lit≤ tt) })

-- a server that wakes on the almost full disk
abbrev pub near_the_top : Run
near_the_top =
    record {
      view = runs Faithful serial (woken (numbering_of serial) almost_full) almost_full [];
      taken = 2;
    }

-- the cases
abbrev pub table : List Case
table =
    prints memory
    (codes "D    0            10"
    ∷ codes "S    3             0"
    ∷ codes "G    2             0"
    ∷ codes "C    0             1"
    ∷ codes "G    2             0"
    ∷ codes "C    0             9"
    ∷ codes "G    2             0"
    ∷ [])
    (codes "     1   0  0                   0"
    ∷ codes "     2   0  0                   0"
    ∷ codes "     3   2  0                   1"
    ∷ codes "     4   0  0                   1"
    ∷ codes "     5   2 12                   2"
    ∷ codes "     6   0  0                   2"
    ∷ codes "     7   2  0                   7"
    ∷ [])
    ∷ prints memory
    (codes "D    1            10"
    ∷ codes "S    3             0"
    ∷ codes "G    2             0"
    ∷ codes "C    0             1"
    ∷ codes "G    2             0"
    ∷ codes "C    0             9"
    ∷ codes "G    2             0"
    ∷ [])
    (codes "     1   0  0                   0"
    ∷ codes "     2   0  0                   0"
    ∷ codes "     3   2  0                   1"
    ∷ codes "     4   0  0                   1"
    ∷ codes "     5   2 12                   2"
    ∷ codes "     6   0  0                   1"
    ∷ codes "     7   2  0                   4"
    ∷ [])
    ∷ prints memory [] []
    ∷ calls memory
    (codes "D    1            10"
    ∷ codes "S    3             0"
    ∷ codes "G    2             0"
    ∷ codes "G  300             7"
    ∷ codes "C    5             9"
    ∷ codes "G    2             0"
    ∷ codes "G    8            +0"
    ∷ codes "G    2             0"
    ∷ [])
    (request_turn 2 0 (Ok (record { 0 = 1 }))
    ∷ request_turn 255 7 (Err (Series 255))
    ∷ cut_turn 5 9 (Ok (record { 0 = 1 }))
    ∷ request_turn 2 0 (Ok (record { 0 = 4 }))
    ∷ [])
    ∷ sums (codes "123456789") 0xCBF43926
    ∷ sums [] 0
    ∷ corrects 127 (pos 127)
    ∷ corrects 128 (negsuc 127)
    ∷ corrects 253 (negsuc 2)
    ∷ has_floor 253 3000 0
    ∷ denies 253 2999 9
    ∷ has_floor 0 2199023255551 9007199254736896
    ∷ denies 0 2199023255552 9
    ∷ identifies 1 1000 3 5 4194349061
    ∷ goes_on near_the_top
    (codes "G    2             0" ∷ codes "G    2             0" ∷ [])
    (codes "     3   2  0           999999999" ∷ codes "     4   2 10                   0" ∷ [])
    ∷ []

-- every case of the table holds
abbrev pub EveryCaseHolds : Type 0
EveryCaseHolds = AllByRecursion CaseHolds table
