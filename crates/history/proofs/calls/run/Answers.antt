-- A server that is put together has made no calls; the rest is what serving them promises.
use Rattle.std.proofs.Common.{ap}
use Rattle.history.proofs.Serves.{begun-at, ran}
use Rattle.history.proofs.calls.run.Goals as goal

pub returns-clause-promise : goal.returns-clause-promise
returns-clause-promise g c =
    ran (g.met.D.SizedDisk.sized c.args.disk) (ap g.K.Kind.numbering c.new-server.ensures.parts.1) c.serve.ensures.promise
    (begun-at _ _ _ c.args.disk c.new-server.result.state c.new-server.result.disk c.new-server.ensures.woken c.new-server.ensures.parts.0)
