-- The bytes that are held tell as much as the line.
use Rattle.std.proofs.Common.{rules}
use Rattle.simulator.proofs.Enough.{tells_as_much}
use Rattle.simulator.proofs.partial.Partial.line.Goals as goal

pub returns : goal.returns
returns c = record { bytes = search rules; enough = tells_as_much }
