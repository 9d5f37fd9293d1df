-- The end of a run changes no history.
use Rattle.std.proofs.Common.{rules}
use Rattle.simulator.specs.Calls.{turn_in}
use Rattle.simulator.specs.Histories.{RunReached, WithTurn}
use Rattle.simulator.proofs.Histories.{then_none}
use Rattle.simulator.proofs.simulator.Simulator.answer.Goals as goal

pub returns-clause-extends : goal.returns-clause-extends
returns-clause-extends c first past before =
    let answered = c.if-self-gt-LAST_LINE in
    let went : WithTurn (turn_in c.args.line.now answered.answer) (RunReached answered.self.stage first) past = search rules in
    then_none (turn_in c.args.line.now answered.answer) past went (c.finish.ensures.extends first)
