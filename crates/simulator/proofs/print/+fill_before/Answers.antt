-- The last column and those before it.
use Rattle.simulator.proofs.Justified.{one_more, no_columns}
use Rattle.simulator.proofs.print.+fill_before.Goals as goal

pub returns-in-Some : goal.returns-in-Some
returns-in-Some t c = rw (c.fill_before.ensures, c.column.ensures) (one_more _ _ _ c.in-Some.ensures.cases.1)

pub returns-in_default : goal.returns-in_default
returns-in_default t c = no_columns _ _ c.in_default.ensures.cases
