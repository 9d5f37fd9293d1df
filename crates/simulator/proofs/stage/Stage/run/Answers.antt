-- A server that is put together on a disk was reached from it by no call.
use Rattle.std.proofs.Common.{sym, subst}
use Rattle.simulator.specs.Histories.{RunServed, RunReached}
use Rattle.simulator.specs.declared.stage.Stage.{Stage}
use Rattle.simulator.proofs.Histories.{put_together, first_reached}
use Rattle.simulator.proofs.stage.Stage.run.Goals as goal
use Rattle.simulator.proofs.stage.Stage.run.Goals.{in-Kind, in-Kind-2}

pub returns-in-Kind-clause-extends : goal.returns-in-Kind-clause-extends
returns-in-Kind-clause-extends c first past h =
    let parts = c.new.ensures.parts in
    first_reached c.args.kind _ _ first _ _ past parts.1 parts.0 c.new.ensures.woken
    (elim c.in-Kind-1.branch [
      | in-Kind w ↦ rw w.disk-is (subst (λ (s : Stage). RunReached s first past) (sym w.in-Kind.ensures.value) h)
      | in-Kind-2 w ↦ rw w.disk-is (subst (λ (s : Stage). RunReached s first past) (sym w.in-Kind.ensures.value) h)
    ])

pub returns-in-Kind-clause-serves : goal.returns-in-Kind-clause-serves
returns-in-Kind-clause-serves c turns h =
    let parts = c.new.ensures.parts in
    put_together c.args.kind _ _ _ _ turns parts.1 parts.0 c.new.ensures.woken
    (elim c.in-Kind-1.branch [
      | in-Kind w ↦ rw w.disk-is (subst (λ (s : Stage). RunServed s turns) (sym w.in-Kind.ensures.value) h)
      | in-Kind-2 w ↦ rw w.disk-is (subst (λ (s : Stage). RunServed s turns) (sym w.in-Kind.ensures.value) h)
    ])
