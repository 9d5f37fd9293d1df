-- The memory is blank, and what any disk over memory promises leaves one of the three.
use Rattle.std.proofs.Common.{◌≡◌, sym, ap, ◌∙◌, subst}
use Rattle.disk.specs.Memory.{sectors}
use Rattle.disk.proofs.Zeros.{sectors_zero}
use Rattle.trial.specs.Trial.{left_on, OneOfThree}
use Rattle.trial.proofs.Left.{one_of_three, settled, newer_stays}
use Rattle.trial.proofs.cut.left_by.Goals as goal

pub rewrite_and_cut-requires : goal.rewrite_and_cut-requires
rewrite_and_cut-requires g c = (ap sectors c.in-Ok.ensures.cases.0 ∙ sectors_zero 10, c.in-Ok.ensures.cases.1)

pub returns : goal.returns
returns g c =
    let laws = g.met.H.HoldBack.lawful in
    let value : c.unwrap.result ≡ left_on g.H.HoldBack.holding c.args.flushed c.args.tear = cc in
    record {
      value = value;
      one_of_three = subst OneOfThree (sym value) (one_of_three g.H.HoldBack.holding laws c.args.flushed c.args.tear);
      settled = λ t. value ∙ settled g.H.HoldBack.holding laws c.args.flushed c.args.tear t;
      stands = λ kept. value ∙ newer_stays g.H.HoldBack.holding laws c.args.flushed c.args.tear kept;
    }
