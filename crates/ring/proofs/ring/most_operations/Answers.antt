use Rattle.std.proofs.Common.{refl}
use Rattle.ring.proofs.Leaves.{at_most_sixteen}
use Rattle.ring.proofs.ring.most_operations.Goals as goal

pub returns : goal.returns
returns c = record { value = refl; most = at_most_sixteen }
