-- A request is a function of what was before, and one call more.
use Rattle.std.proofs.Common.{rules, ◌≡◌, ap}
use Rattle.simulator.specs.Devices.{meaning_of, make_of}
use Rattle.simulator.specs.Kinds.{numbering_of}
use Rattle.simulator.specs.Steps.{give_answer, request_done}
use Rattle.simulator.proofs.Exact.{given_is, tries_are}
use Rattle.simulator.proofs.Histories.{request_reached, one_more}
use Rattle.simulator.proofs.simulator.ask.Goals as goal

pub returns-clause-extends : goal.returns-clause-extends
returns-clause-extends c =
    let answers : c.map_err.result ≡ give_answer c.args.fields.a c.give.result = search rules in
    rw c.give.ensures.kind
    (request_reached c.args.server.now.kind _ _ _ _ c.args.fields _ c.give.result answers
    (rw (← c.asked_series.ensures) c.give.ensures.rules)
    (rw (← c.asked_series.ensures) c.give.ensures.moves))

pub returns-clause-serves : goal.returns-clause-serves
returns-clause-serves c = one_more _ _ _ _ _ _ _ (returns-clause-extends c)

pub returns-clause-asks : goal.returns-clause-asks
returns-clause-asks c spare =
    let d = c.args.server.now.disk in
    let kind = c.args.server.now.kind in
    let moves = c.give.ensures.moves in
    let went = tries_are d c.give.new.self.disk _ moves in
    let gave =
    given_is (make_of d) (numbering_of kind) (meaning_of d) _ _ _ _ c.args.server.now.state _ c.give.ensures.rules went.1 in
    let answers : c.map_err.result ≡ give_answer c.args.fields.a c.give.result = search rules in
    rw (answers, went.0, c.give.ensures.kind)
    (ap (request_done (make_of d) kind spare c.args.fields.a) (rw (← c.asked_series.ensures) gave))
