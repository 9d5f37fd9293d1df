use Rattle.std.proofs.Common.{rules}
use Rattle.disk.proofs.Chunks.{right_count}
use Rattle.disk.proofs.sectors.Sectors.over.Goals as goal

pub returns-then-is_right_size : goal.returns-then-is_right_size
returns-then-is_right_size c = search (rules, right_count)
