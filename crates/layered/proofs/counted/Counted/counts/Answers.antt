use Rattle.std.proofs.Common.{refl}
use Rattle.layered.proofs.Rises.{counts_each}
use Rattle.layered.proofs.counted.Counted.counts.Goals as goal

pub returns : goal.returns
returns g c =
    record { value = refl; each = λ before ops chain. counts_each g.D.Disk.moves before c.args.self.now ops chain }
