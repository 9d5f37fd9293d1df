-- The read that gives bytes takes them from what the input had.
use Rattle.simulate.proofs.Read.{keeps_all}
use Rattle.simulate.proofs.read_piece.Goals as goal

pub loop-init : goal.loop-init
loop-init g c = keeps_all _
