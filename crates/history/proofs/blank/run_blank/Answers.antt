-- The disk that is made is without records, so what the calls on it promise holds outright.
use Rattle.history.proofs.Outright.{ran_blank}
use Rattle.history.proofs.blank.run_blank.Goals as goal

pub returns-in-Ok-clause-promise : goal.returns-in-Ok-clause-promise
returns-in-Ok-clause-promise g c =
    let made = c.in-Ok.ensures.cases.0 in
    ran_blank c.in-Ok.disk made.means c.in-Ok.ensures.cases.1 made.without c.run.ensures.promise
