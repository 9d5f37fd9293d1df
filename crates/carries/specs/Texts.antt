-- What is printed of a reservation's answer, and of what recovery finds.
use Rattle.std.specs.Prelude.{ℕ, ◌-◌, ◌^◌, List, ◌++◌, codes, flat_map, Ok, Err, Result}
use Rattle.std.specs.Fmt.{decimal, format_spec, styled_decimal}
use Rattle.record.specs.declared.numbers.Rank.{Rank}
use Rattle.ring.specs.Faults.{ring_fault_text}
use Rattle.ring.specs.Ring.{known_ends}
use Rattle.ring.specs.declared.fault.RingFault.{RingFault}
use Rattle.ring.specs.declared.ring.Ring.{Ring}

-- what a reservation answers
abbrev pub answer_text : Result ℕ RingFault → List ℕ
answer_text (Ok series) = codes "series " ++ (decimal series ++ codes " has reserved")
answer_text (Err fault) = ring_fault_text fault

-- a space and an end
abbrev pub end_text : Rank → List ℕ
end_text end = codes " " ++ decimal end.0

-- a number at the right end of two columns
abbrev pub in_two_columns : ℕ → List ℕ
in_two_columns number = styled_decimal (format_spec 32 3 0 2 (2 ^ 64 - 1)) number

-- what recovery finds: the top record and the ends of the eight series in their order, or the denial
abbrev pub recovered_text : Result Ring RingFault → List ℕ
recovered_text (Ok ring) =
    codes "top record "
    ++ (in_two_columns ring.known.top.0
    ++ (codes ", ends" ++ flat_map end_text (known_ends ring.known)))
recovered_text (Err fault) = ring_fault_text fault
