-- What is printed of each answer and of each denial.
use Rattle.std.specs.Prelude.{ℕ, Bool, if◌then◌else◌, ◌&&◌, List, ◌++◌, codes, Ok, Err, Result, nat_le, nat_lt, unwrap_or}
use Rattle.std.specs.Fmt.{decimal}
use Rattle.kind.specs.Fault.{number_of, setting_fault_text}
use Rattle.server.specs.Faults.{particulars, server_fault_text}
use Rattle.server.specs.declared.fault.ServerFault.{ServerFault}
use Rattle.simulator.specs.Request.{column_of, item_text}
use Rattle.simulator.specs.declared.answer.Answer.{Answer}
use Rattle.simulator.specs.declared.answer.Answer.TheVariants.{Set, Given, Woken}
use Rattle.simulator.specs.declared.answer.Columns.{Columns}
use Rattle.simulator.specs.declared.answer.Denial.{Denial}
use Rattle.simulator.specs.declared.answer.Denial.TheVariants.{ShortPrint, Malformed, Ended, TooMany, Size, NoDevice, Setting, NotGiven, NotWoken}

-- a series as it is printed
abbrev pub shown : ℕ → ℕ
shown series = if nat_lt series 8 then series else 0

-- a code, and 0 beside it
abbrev pub coded : ℕ → Columns
coded code = record { series = 0; code = code; last = 0 }

-- a denial of the server: its number, and its sector where it tells one
abbrev pub of_server : ServerFault → Columns
of_server fault =
    record (coded (particulars fault).number) { last = unwrap_or (particulars fault).sector 0 }

-- each denial: its number is the code; a malformed line has the column of the wrong item as the last number
abbrev pub denial_columns : Denial → Columns
denial_columns ShortPrint = coded 1
denial_columns (Malformed item) = record (coded 2) { last = column_of item }
denial_columns Ended = coded 2
denial_columns TooMany = coded 2
denial_columns Size = coded 3
denial_columns NoDevice = coded 4
denial_columns (Setting fault) = coded (number_of fault)
denial_columns (NotGiven series fault) = record (of_server fault) { series = shown series }
denial_columns (NotWoken fault) = of_server fault

-- what was denied, and why
abbrev pub denial_text : Denial → List ℕ
denial_text ShortPrint = codes "the print line has fewer than 34 bytes"
denial_text (Malformed item) = codes "the request line is wrong: " ++ item_text item
denial_text Ended = codes "the run has ended"
denial_text TooMany = codes "the line's number is above 999999"
denial_text Size = codes "a disk has 10 to 2048 sectors, and the memory must have room for them"
denial_text NoDevice = codes "there is no device but 0, the faithful disk, and 1, the torn one"
denial_text (Setting fault) = setting_fault_text fault
denial_text (NotGiven series fault) =
    codes "no identifier of series "
    ++ (decimal series
    ++ (codes ": " ++ server_fault_text fault))
denial_text (NotWoken fault) =
    codes "no server after the power cut: " ++ server_fault_text fault

-- the denials 2 to 6 end the run
abbrev pub ends : Denial → Bool
ends denial = nat_le 2 (denial_columns denial).code && nat_le (denial_columns denial).code 6

-- series, code and last number of an answer
abbrev pub columns_of : Result Answer Denial → Columns
columns_of (Ok Set) = coded 0
columns_of (Ok (Given series identifier)) =
    record (coded 0) { series = shown series; last = identifier.0 }
columns_of (Ok (Woken top)) = record (coded 0) { last = top.0 }
columns_of (Err denial) = denial_columns denial
