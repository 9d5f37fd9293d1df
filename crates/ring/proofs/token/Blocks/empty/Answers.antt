-- Each block is empty at the end of the live record at its place.
use Rattle.std.proofs.Common.{List, ap, rules}
use Rattle.std.proofs.lemmas.Bool.{lt-ltb}
use Rattle.std.proofs.lemmas.List.FromFn.{fill_by_all}
use Rattle.ring.specs.Ring.{none, known_end}
use Rattle.ring.specs.Token.{empty_block}
use Rattle.ring.specs.declared.token.Block.{Block}
use Rattle.ring.specs.declared.token.Blocks.{Blocks}
use Rattle.ring.proofs.token.Blocks.empty.Goals as goal

pub returns : goal.returns
returns c =
    ap blocks_of
    (fill_by_all (λ k. empty_block (known_end c.args.known k)) _ 8 (empty_block none.end) c.map.ensures.items.long
    (λ k l.
    let call = c.map.ensures.items.at k none (empty_block none.end) l in
    rw (lt-ltb k 8 l) (search rules)))
  where
    blocks_of : List Block → Blocks
    blocks_of x = record { 0 = x }
