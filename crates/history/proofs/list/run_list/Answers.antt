-- A server that is put together has made no calls; the rest is what serving them promises.
use Rattle.std.proofs.Common.{vec_items, ap}
use Rattle.history.proofs.Serves.{begun-at}
use Rattle.history.proofs.Lists.{ran_by_cases}
use Rattle.history.proofs.list.run_list.Goals as goal

pub returns-clause-promise : goal.returns-clause-promise
returns-clause-promise g c =
    ran_by_cases c.serve_list-answers.result (λ answers. vec_items answers) c.args.calls.now _ _
    (ap g.K.Kind.numbering c.new-server.ensures.parts.1) c.serve_list-answers.ensures.promise
    (begun-at _ _ _ c.args.disk c.new-server.result.state c.new-server.result.disk c.new-server.ensures.woken c.new-server.ensures.parts.0)
