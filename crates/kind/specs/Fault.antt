-- What is outside its range, and how it is denied.
use Rattle.std.specs.Prelude.{ℕ, Bool, if◌then◌else◌, List, codes, Err, Result}
use Rattle.kind.specs.declared.fault.SettingFault.{SettingFault}
use Rattle.kind.specs.declared.fault.SettingFault.TheVariants.{BlockSize, Lease, Box, Correction, Milliseconds, Worker, Step, Identifier}

-- whatever is outside its range is denied with 4
abbrev pub number_of : SettingFault → ℕ
number_of _ = 4

-- the sentence of a fault
abbrev pub setting_fault_text : SettingFault → List ℕ
setting_fault_text BlockSize = codes "the block size is not from 1 to 10000"
setting_fault_text Lease = codes "the lease is not from 1 to 60000 milliseconds"
setting_fault_text Box = codes "the box number is not from 0 to 127"
setting_fault_text Correction = codes "the clock correction is not from 0 to 255"
setting_fault_text Milliseconds = codes "the milliseconds do not fit 41 bits"
setting_fault_text Worker = codes "the worker does not fit 10 bits"
setting_fault_text Step = codes "the step does not fit 12 bits"
setting_fault_text Identifier = codes "the identifier does not fit 63 bits"

-- the answer if the test holds, and the fault otherwise
abbrev pub provided :
    {X : Type 0} → Bool → SettingFault → Result X SettingFault → Result X SettingFault
provided test fault answer = if test then answer else Err fault
