-- The table is computed.
use Rattle.cases.proofs.Computed.{every_case_holds}
use Rattle.cases.proofs.worked_cases.Goals as goal

pub returns : goal.returns
returns _ = every_case_holds
