-- A cut extends a history as the server's own call promises.
use Rattle.history.proofs.Serves.{cut_made}
use Rattle.history.proofs.calls.make.Goals as goal

pub returns-in-Cut-clause-extends : goal.returns-in-Cut-clause-extends
returns-in-Cut-clause-extends g c first past reached =
    cut_made g.D.Disk.moves g.D.Disk.meaning _ first past _ _ _ _ reached _ _ _ _ c.in-Cut.is
    c.cut.ensures.rules c.cut.ensures.moves
