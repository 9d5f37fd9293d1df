-- What a request line does: what it is answered, and the stage after it.
use Rattle.std.specs.Prelude.{ℕ, ◌*◌, min, if◌then◌else◌, List, length, drop, Some, None, Ok, Err, Option, Result}
use Rattle.record.specs.declared.sector.TheConstants.{SECTOR_BYTES}
use Rattle.disk.specs.Blank.{cleared}
use Rattle.disk.specs.Meaning.{Meaning}
use Rattle.kind.specs.Serial.{serial_kind_of}
use Rattle.kind.specs.Time.{lease_of, correction_of, time_kind_of}
use Rattle.kind.specs.declared.fault.SettingFault.{SettingFault}
use Rattle.kind.specs.declared.serial.SerialKind.{SerialKind}
use Rattle.kind.specs.declared.time.Correction.{Correction}
use Rattle.kind.specs.declared.time.Lease.{Lease}
use Rattle.kind.specs.declared.time.TimeKind.{TimeKind}
use Rattle.record.specs.declared.numbers.Identifier.{Identifier}
use Rattle.record.specs.declared.numbers.Sequence.{Sequence}
use Rattle.ring.specs.Ring.{recover}
use Rattle.server.specs.Rules.{format, woken, top_told}
use Rattle.server.specs.declared.fault.ServerFault.{ServerFault}
use Rattle.server.specs.declared.state.State.{State}
use Rattle.simulator.specs.Devices.{meaning_of, make_of, make_for, room, meaning_after_cut}
use Rattle.simulator.specs.Kinds.{numbering_of}
use Rattle.simulator.specs.Request.{command_in, fields_in}
use Rattle.simulator.specs.Requests.{LeftBy, given_by}
use Rattle.simulator.specs.Stages.{View, awaits_disk, awaits_kind, awaits_box, runs, has_ended, view_with_kind, view_with_lease}
use Rattle.simulator.specs.declared.answer.Answer.{Answer}
use Rattle.simulator.specs.declared.answer.Answer.TheVariants.{Set, Given, Woken}
use Rattle.simulator.specs.declared.answer.Denial.{Denial}
use Rattle.simulator.specs.declared.answer.Denial.TheVariants.{Malformed, Ended, Size, NoDevice, Setting, NotGiven, NotWoken}
use Rattle.simulator.specs.declared.any_kind.AnyKind.{AnyKind}
use Rattle.simulator.specs.declared.any_kind.AnyKind.TheVariants as kind
use Rattle.simulator.specs.declared.device.Device.{Device}
use Rattle.simulator.specs.declared.device.Make.{Make}
use Rattle.simulator.specs.declared.device.TheConstants.{FIRST_SUPPLY}
use Rattle.simulator.specs.declared.request.Command.{Command}
use Rattle.simulator.specs.declared.request.Command.TheVariants.{Disk, Serial, Time, Box, Give, Cut}
use Rattle.simulator.specs.declared.request.Fields.{Fields}
use Rattle.simulator.specs.declared.request.Item.{Item}
use Rattle.simulator.specs.declared.request.Item.TheVariants.{Letter}

-- an answer, and the stage after it
pub record Done : Type 0 where
  pub answer : Result Answer Denial
  pub after : View

-- the same of a stage with a server
abbrev pub done_on : Result Answer Denial → AnyKind → State → Device → List ℕ → Done
done_on answer kind state disk spare =
    record { answer = answer; after = runs (make_of disk) kind state (meaning_of disk) spare }

-- a line that is denied
abbrev pub denial_done : Denial → View → Done
denial_done denial v = record { answer = Err denial; after = v }

-- a line that sets something
abbrev pub set_up : View → Done
set_up v = record { answer = Ok Set; after = v }

-- the device: 32 bytes for each sector are cleared, the rest of the memory is spare, and the disk has its first supply
abbrev pub with_make : List ℕ → ℕ → Option Make → Done
with_make memory n None = denial_done NoDevice (awaits_disk memory)
with_make memory n (Some make) =
    set_up (awaits_kind make (cleared n FIRST_SUPPLY) (drop (SECTOR_BYTES * n) memory))

-- a sector count that is out of range, or a memory that is too short, is told ahead of a device that is not there
abbrev pub opened : List ℕ → Fields → Done
opened memory f =
    if room (length memory) f.b then with_make memory f.b (make_for f.a)
    else denial_done Size (awaits_disk memory)

-- the serial kind with a block size
abbrev pub with_serial : View → Result SerialKind SettingFault → Done
with_serial v (Err fault) = denial_done (Setting fault) v
with_serial v (Ok k) = set_up (view_with_kind (kind.Serial k) v)

-- the lease of the time kind
abbrev pub with_lease : View → Result Lease SettingFault → Done
with_lease v (Err fault) = denial_done (Setting fault) v
with_lease v (Ok lease) = set_up (view_with_lease lease v)

-- the time kind, or the fault of its box
abbrev pub with_time : View → Result TimeKind SettingFault → Done
with_time v (Err fault) = denial_done (Setting fault) v
with_time v (Ok k) = set_up (view_with_kind (kind.Time k) v)

-- the correction byte is tested first, then the box
abbrev pub with_correction : View → Lease → ℕ → Result Correction SettingFault → Done
with_correction v lease box (Err fault) = denial_done (Setting fault) v
with_correction v lease box (Ok correction) = with_time v (time_kind_of lease box correction)

-- what a request of a series is answered with
abbrev pub give_answer : ℕ → Result Identifier ServerFault → Result Answer Denial
give_answer series (Ok identifier) = Ok (Given series identifier)
give_answer series (Err fault) = Err (NotGiven series fault)

-- what a cut is answered with
abbrev pub woken_up : Result Sequence ServerFault → Result Answer Denial
woken_up (Ok top) = Ok (Woken top)
woken_up (Err fault) = Err (NotWoken fault)

-- a server wakes on a disk
abbrev pub woken_on : Make → AnyKind → List ℕ → Meaning → Done
woken_on make kind spare m =
    record {
      answer = woken_up (top_told (recover (format (numbering_of kind) m) m.reading));
      after = runs make kind (woken (numbering_of kind) m) m spare;
    }

-- a cut with a tear and a new supply: the server wakes on what the disk then is
abbrev pub cut_off : Make → AnyKind → Meaning → List ℕ → Fields → Done
cut_off make kind m spare f = woken_on make kind spare (meaning_after_cut make f.a f.b m)

-- a request's answer, with the stage after it
abbrev pub request_done : Make → AnyKind → List ℕ → ℕ → LeftBy Identifier → Done
request_done make kind spare series left =
    record {
      answer = give_answer series left.answer;
      after = runs make kind left.state left.disk spare;
    }

-- a request at a reading; a series above 255 is asked for as 255
abbrev pub requested : Make → AnyKind → State → Meaning → List ℕ → Fields → Done
requested make kind state m spare f =
    request_done make kind spare f.a
    (given_by make (numbering_of kind) state m (min f.a 255) (record { 0 = f.b }))

-- a letter that is not lawful at a stage
abbrev pub unlawful : View → Done
unlawful v = denial_done (Malformed Letter) v

-- a line whose fields are wrong is denied; else it does what they say
abbrev pub by_fields : View → (Fields → Done) → Result Fields Item → Done
by_fields v does (Err item) = denial_done (Malformed item) v
by_fields v does (Ok f) = does f

-- which letters are lawful at a stage, and what each does there, by the fields of the line
abbrev pub command_done : View → Option Command → (Command → Result Fields Item) → Done
command_done (awaits_disk memory) (Some Disk) fields =
    by_fields (awaits_disk memory) (opened memory) (fields Disk)
command_done (awaits_kind make m spare) (Some Serial) fields =
    by_fields (awaits_kind make m spare)
    (λ f. with_serial (awaits_kind make m spare) (serial_kind_of f.a))
    (fields Serial)
command_done (awaits_kind make m spare) (Some Time) fields =
    by_fields (awaits_kind make m spare)
    (λ f. with_lease (awaits_kind make m spare) (lease_of f.a))
    (fields Time)
command_done (awaits_box make lease m spare) (Some Box) fields =
    by_fields (awaits_box make lease m spare)
    (λ f. with_correction (awaits_box make lease m spare) lease f.a (correction_of f.b))
    (fields Box)
command_done (runs make kind state m spare) (Some Give) fields =
    by_fields (runs make kind state m spare) (requested make kind state m spare) (fields Give)
command_done (runs make kind state m spare) (Some Cut) fields =
    by_fields (runs make kind state m spare) (cut_off make kind m spare) (fields Cut)
command_done (has_ended kind memory) command fields = denial_done Ended (has_ended kind memory)
command_done v command fields = unlawful v

-- a line that is taken at a stage: what it is answered, and the stage after it
abbrev pub step_of : View → List ℕ → Done
step_of v line = command_done v (command_in line) (λ command. fields_in command line)
