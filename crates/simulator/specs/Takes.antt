-- The call of the simulator: what it answers, and what it leaves of the run, of the memory and of the print line.
use Rattle.std.specs.Prelude.{ℕ, ◌+◌, ◌-◌, ◌^◌, min, if◌then◌else◌, List, [], ◌++◌, length, drop, Ok, Err, Option, Result, nat_le}
use Rattle.history.specs.declared.calls.Call.{Call}
use Rattle.history.specs.declared.calls.Turn.{Turn}
use Rattle.simulator.specs.Answers.{ends, columns_of}
use Rattle.simulator.specs.Calls.{answer_in, call_in, turn_by}
use Rattle.simulator.specs.Print.{printed}
use Rattle.simulator.specs.Stages.{View, view, view_at_end}
use Rattle.simulator.specs.Steps.{Done, denial_done, step_of}
use Rattle.simulator.specs.declared.answer.Answer.{Answer}
use Rattle.simulator.specs.declared.answer.Denial.{Denial}
use Rattle.simulator.specs.declared.answer.Denial.TheVariants.{ShortPrint, TooMany}
use Rattle.simulator.specs.declared.device.Device.{Device}
use Rattle.simulator.specs.declared.device.Device.TheVariants.{Faithful, Torn}
use Rattle.simulator.specs.declared.print.TheConstants.{PRINT_BYTES}
use Rattle.simulator.specs.declared.simulator.Simulator.{Simulator}
use Rattle.simulator.specs.declared.simulator.TheConstants.{LAST_LINE}
use Rattle.simulator.specs.declared.stage.Left.{Left}
use Rattle.simulator.specs.declared.stage.Left.TheVariants as left
use Rattle.simulator.specs.declared.stage.Stage.{Stage}
use Rattle.simulator.specs.declared.stage.Stage.TheVariants as stage

-- one line more is taken; the count stays at the greatest number that fits
abbrev pub counted : ℕ → ℕ
counted taken = min (taken + 1) (2 ^ 64 - 1)

-- the line number as it is printed
abbrev pub shown_number : ℕ → ℕ
shown_number taken = min taken LAST_LINE

-- a denial of 2 to 6 ends the run
abbrev pub view_after : Result Answer Denial → View → View
view_after (Ok answer) v = v
view_after (Err denial) v = if ends denial then view_at_end v else v

-- a line by its number: past the last number it is denied, else it does what it says
abbrev pub by_number : ℕ → View → List ℕ → Done
by_number number v line =
    if nat_le number LAST_LINE then step_of v line else denial_done TooMany v

-- and the run ends where it has to
abbrev pub ended_by : Done → Done
ended_by done = record { answer = done.answer; after = view_after done.answer done.after }

-- where a run stands: its stage, and how many lines were taken
pub record Run : Type 0 where
  pub view : View
  pub taken : ℕ

abbrev pub run_of : Simulator → Run
run_of s = record { view = view s.stage; taken = s.taken }

-- a line that a run takes: its number, the call that it asks for, and what it does
pub record Row : Type 0 where
  pub number : ℕ
  pub call : Option Call
  pub done : Done

abbrev pub row_of : Run → List ℕ → Row
row_of run line =
    record {
      number = counted run.taken;
      call = call_in line;
      done = ended_by (by_number (counted run.taken) run.view line);
    }

-- the run after it
abbrev pub run_after : Row → Run
run_after row = record { view = row.done.after; taken = row.number }

-- its print line
abbrev pub print_of : Row → List ℕ
print_of row = printed (shown_number row.number) (columns_of row.done.answer)

-- the call that was made for it, with its answer
abbrev pub turn_of : Row → Option Turn
turn_of row = turn_by (answer_in row.done.answer) row.call

-- a call of the simulator: what it answers, and what it leaves of the run and of the print line
pub record Taken : Type 0 where
  pub answer : Result Answer Denial
  pub run : Run
  pub print : List ℕ

-- a line that is taken: it is printed into the first 34 bytes of the print line
abbrev pub as_row : List ℕ → Row → Taken
as_row print row =
    record {
      answer = row.done.answer;
      run = run_after row;
      print = print_of row ++ drop PRINT_BYTES print;
    }

-- a print line of fewer than 34 bytes is denied ahead of all else, and nothing changes
abbrev pub taken_by : Run → List ℕ → List ℕ → Taken
taken_by run line print =
    if nat_le PRINT_BYTES (length print) then as_row print (row_of run line)
    else record { answer = Err ShortPrint; run = run; print = print }

-- the very bytes of the memory of a disk
abbrev pub device_bytes : Device → List ℕ
device_bytes (Faithful d) = d.sectors.memory.now
device_bytes (Torn d) = d.sectors.memory.now

-- the bytes that are left of a run that has ended
abbrev pub left_bytes : Left → List ℕ
left_bytes left.Nothing = []
left_bytes (left.Memory memory) = memory.now
left_bytes (left.Disk disk spare) = device_bytes disk ++ spare.now
left_bytes (left.Server server spare) = device_bytes server.disk ++ spare.now

-- the bytes at a stage
abbrev pub stage_bytes : Stage → List ℕ
stage_bytes (stage.Device memory) = memory.now
stage_bytes (stage.Kind disk spare) = device_bytes disk ++ spare.now
stage_bytes (stage.Box disk spare lease) = device_bytes disk ++ spare.now
stage_bytes (stage.Running server spare) = device_bytes server.disk ++ spare.now
stage_bytes (stage.Ended left) = left_bytes left
