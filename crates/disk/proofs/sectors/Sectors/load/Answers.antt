use Rattle.std.proofs.Common.{◌∙◌, arith}
use Rattle.disk.proofs.Chunks.{loaded}
use Rattle.disk.proofs.sectors.Sectors.load.Goals as goal

pub returns : goal.returns
returns c =
    c.copy_from_slice.ensures.after ∙ loaded c.args.self.now.memory.now c.args.sector _ (omega arith) c.requires
