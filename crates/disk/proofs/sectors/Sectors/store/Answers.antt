use Rattle.std.proofs.Common.{ℕ, List, ap, ◌∙◌}
use Rattle.disk.specs.Memory.{sectors, spare}
use Rattle.disk.proofs.Chunks.{put_is, sectors-stored, spare-stored}
use Rattle.disk.proofs.sectors.Sectors.store.Goals as goal

pub returns : goal.returns
returns c =
    let xs : List ℕ = c.args.self.now.memory.now in
    let bytes : List ℕ = c.args.bytes.now in
    let put = put_is xs bytes c.put.new.part c.args.sector c.requires c.put.ensures in
    record {
      sectors = ap sectors put ∙ sectors-stored xs bytes c.args.sector c.requires c.told-bytes;
      spare = ap spare put ∙ spare-stored xs bytes c.args.sector c.requires c.told-bytes;
      memory = put;
    }
