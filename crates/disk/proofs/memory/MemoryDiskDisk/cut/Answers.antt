-- The sectors are left as the law of what is held back says, and nothing is held back any more.
use Rattle.std.proofs.Common.{rules}
use Rattle.disk.proofs.Meanings.{is_cut}
use Rattle.disk.proofs.memory.MemoryDiskDisk.cut.Goals as goal

pub returns-clause-meaning : goal.returns-clause-meaning
returns-clause-meaning g c = search (rules, is_cut g.H.HoldBack.holding g.met.H.HoldBack.lawful)
