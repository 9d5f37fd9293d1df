-- Every reading has the floor 0 in a serial kind.
use Rattle.std.proofs.Common.{refl}
use Rattle.std.proofs.lemmas.Result.{IfOk-weaker}
use Rattle.history.proofs.Outright.{ran_serially}
use Rattle.history.proofs.blank.run_serial.Goals as goal

pub returns-clause-promise : goal.returns-clause-promise
returns-clause-promise g c =
    IfOk-weaker c.run_blank.result _ _ (λ server ran. ran_serially (λ reading. refl) ran) c.run_blank.ensures.promise
