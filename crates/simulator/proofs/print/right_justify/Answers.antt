-- The last digit and the columns before it.
use Rattle.simulator.proofs.Justified.{last_one, none}
use Rattle.simulator.proofs.print.right_justify.Goals as goal

pub returns-in-Some : goal.returns-in-Some
returns-in-Some c = rw c.fill_before.ensures (last_one _ _ _ c.in-Some.ensures.cases.1)

pub returns-in_default : goal.returns-in_default
returns-in_default c = none _ _ c.in_default.ensures.cases
