-- What is printed of a turn.
use Rattle.std.specs.Prelude.{ℕ, ◌-◌, ◌^◌, List, ◌++◌, codes, Some, None, Ok, Err, Option}
use Rattle.std.specs.Fmt.{decimal, format_spec, styled_decimal}
use Rattle.history.specs.declared.calls.Answer.{Answer}
use Rattle.history.specs.declared.calls.Answer.TheVariants.{Give as Gave, Cut as WasCut}
use Rattle.history.specs.declared.calls.Call.{Call}
use Rattle.history.specs.declared.calls.Call.TheVariants.{Give, Cut}
use Rattle.history.specs.declared.calls.Turn.{Turn}
use Rattle.server.specs.Faults.{server_fault_text}
use Rattle.server.specs.declared.fault.ServerFault.{ServerFault}

-- a number at the right end of two columns
abbrev pub in_two_columns : ℕ → List ℕ
in_two_columns n = styled_decimal (format_spec 32 3 0 2 (2 ^ 64 - 1)) n

-- a denial, by the server's own sentence
abbrev pub denied_text : ServerFault → List ℕ
denied_text fault = codes "denied: " ++ server_fault_text fault

-- what was asked
abbrev pub call_text : Call → List ℕ
call_text (Give series reading) = codes "request of series " ++ (decimal series ++ codes "     | ")
call_text (Cut tear supply) =
    codes "cut, tear "
    ++ (in_two_columns tear ++ (codes ", supply " ++ (in_two_columns supply ++ codes " | ")))

-- what it was answered
abbrev pub answer_text : Option Answer → List ℕ
answer_text None = codes "not made"
answer_text (Some (Gave (Ok identifier))) = codes "identifier " ++ decimal identifier.0
answer_text (Some (Gave (Err fault))) = denied_text fault
answer_text (Some (WasCut (Ok top))) = codes "top record " ++ decimal top.0
answer_text (Some (WasCut (Err fault))) = denied_text fault

-- the line of a turn
abbrev pub turn_text : Turn → List ℕ
turn_text turn = call_text turn.call ++ answer_text turn.answer
