-- A cut is a function of what was before, and one call more.
use Rattle.std.proofs.Common.{rules, ◌≡◌, ap}
use Rattle.simulator.specs.Devices.{make_of}
use Rattle.simulator.specs.Steps.{woken_up, woken_on}
use Rattle.simulator.proofs.Histories.{cut_reached, one_more}
use Rattle.simulator.proofs.Tears.{cut_is}
use Rattle.simulator.proofs.simulator.cut.Goals as goal

pub returns-clause-extends : goal.returns-clause-extends
returns-clause-extends c =
    let answers : c.map_err.result ≡ woken_up c.cut.result = search rules in
    rw c.cut.ensures.kind
    (cut_reached c.args.server.now.kind c.args.server.now.state _ _ _ c.args.fields _ c.cut.result answers c.cut.ensures.rules
    c.cut.ensures.moves)

pub returns-clause-serves : goal.returns-clause-serves
returns-clause-serves c = one_more _ _ _ _ _ _ _ (returns-clause-extends c)

pub returns-clause-cuts : goal.returns-clause-cuts
returns-clause-cuts c spare =
    let d = c.args.server.now.disk in
    let moves = c.cut.ensures.moves in
    let did = c.cut.ensures.rules in
    let answers : c.map_err.result ≡ woken_up c.cut.result = search rules in
    let is = cut_is d c.cut.new.self.disk _ _ moves in
    rw (answers, did.told, did.state, is.0, c.cut.ensures.kind)
    (ap (woken_on (make_of d) c.args.server.now.kind spare) is.1)
