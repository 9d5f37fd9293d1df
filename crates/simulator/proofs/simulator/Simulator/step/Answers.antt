-- A request does what its line asks for, and so does a cut: each is one call more.
use Rattle.std.proofs.Common.{rules, ◌≡◌, ◌∙◌, subst}
use Rattle.simulator.specs.Calls.{call_in, call_for}
use Rattle.simulator.specs.Histories.{RunServed, RunReached}
use Rattle.simulator.specs.declared.request.Command.TheVariants.{Give, Cut}
use Rattle.simulator.specs.declared.stage.Stage.{Stage}
use Rattle.simulator.proofs.simulator.Simulator.step.Goals as goal

pub returns-in_ok-fields-in-Running-Ok-Give-clause-steps :
    goal.returns-in_ok-fields-in-Running-Ok-Give-clause-steps
returns-in_ok-fields-in-Running-Ok-Give-clause-steps c =
    c.ask.ensures.asks c.in-Running-Ok-Give.spare-0.now ∙ search rules

pub returns-in_ok-fields-in-Running-Ok-Cut-clause-steps :
    goal.returns-in_ok-fields-in-Running-Ok-Cut-clause-steps
returns-in_ok-fields-in-Running-Ok-Cut-clause-steps c =
    c.cut.ensures.cuts c.in-Running-Ok-Cut.spare-0.now ∙ search rules

pub returns-in_ok-fields-in-Running-Ok-Give-clause-serves :
    goal.returns-in_ok-fields-in-Running-Ok-Give-clause-serves
returns-in_ok-fields-in-Running-Ok-Give-clause-serves c turns before =
    let call : call_in c.args.line.now ≡ call_for Give c.in_ok-fields-in-Running-Ok-Give.fields = search rules in
    rw call
    (c.ask.ensures.serves turns
    (subst (λ (s : Stage). RunServed s turns) c.in-Running-Ok-Give.is-0 before))

pub returns-in_ok-fields-in-Running-Ok-Cut-clause-serves :
    goal.returns-in_ok-fields-in-Running-Ok-Cut-clause-serves
returns-in_ok-fields-in-Running-Ok-Cut-clause-serves c turns before =
    let call : call_in c.args.line.now ≡ call_for Cut c.in_ok-fields-in-Running-Ok-Cut.fields = search rules in
    rw call
    (c.cut.ensures.serves turns
    (subst (λ (s : Stage). RunServed s turns) c.in-Running-Ok-Cut.is-0 before))

pub returns-in_ok-fields-in-Running-Ok-Give-clause-extends :
    goal.returns-in_ok-fields-in-Running-Ok-Give-clause-extends
returns-in_ok-fields-in-Running-Ok-Give-clause-extends c first past before =
    let call : call_in c.args.line.now ≡ call_for Give c.in_ok-fields-in-Running-Ok-Give.fields = search rules in
    rw call
    (c.ask.ensures.extends first past
    (subst (λ (s : Stage). RunReached s first past) c.in-Running-Ok-Give.is-0 before))

pub returns-in_ok-fields-in-Running-Ok-Cut-clause-extends :
    goal.returns-in_ok-fields-in-Running-Ok-Cut-clause-extends
returns-in_ok-fields-in-Running-Ok-Cut-clause-extends c first past before =
    let call : call_in c.args.line.now ≡ call_for Cut c.in_ok-fields-in-Running-Ok-Cut.fields = search rules in
    rw call
    (c.cut.ensures.extends first past
    (subst (λ (s : Stage). RunReached s first past) c.in-Running-Ok-Cut.is-0 before))
