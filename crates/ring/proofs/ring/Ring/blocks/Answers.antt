-- Each block begins and ends at the end that the ring knows of its series.
use Rattle.std.proofs.Common.{sym, subst}
use Rattle.ring.specs.Left.{EndsAre}
use Rattle.ring.specs.Token.{block_nexts, block_ends}
use Rattle.ring.specs.declared.token.Blocks.{Blocks}
use Rattle.ring.proofs.Starts.{known_ends_are}
use Rattle.ring.proofs.ring.Ring.blocks.Goals as goal

pub returns : goal.returns
returns c =
    let r = c.args.self.now in
    let empty = c.empty.ensures in
    record {
      value = empty;
      reads = λ m agrees. (
        subst (λ (b : Blocks). EndsAre r.format m.reading (block_nexts b)) (sym empty) (known_ends_are r m agrees),
        subst (λ (b : Blocks). EndsAre r.format m.reading (block_ends b)) (sym empty) (known_ends_are r m agrees),
      );
    }
