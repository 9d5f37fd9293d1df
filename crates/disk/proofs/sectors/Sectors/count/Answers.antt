use Rattle.std.proofs.Common.{arith}
use Rattle.disk.specs.Shape.{length-sectors}
use Rattle.disk.proofs.sectors.Sectors.count.Goals as goal

pub returns-clause-listed : goal.returns-clause-listed
returns-clause-listed c = omega (arith, length-sectors c.args.self.now.memory.now)
