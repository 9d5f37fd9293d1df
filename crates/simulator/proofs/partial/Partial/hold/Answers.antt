-- What there is room for is held.
use Rattle.std.proofs.Common.{◌+◌, ◌-◌, ◌≤◌, List, ℕ, ◌++◌, length, take, ap, ◌∙◌, arith}
use borrow.Rule.Slice.PartMut.{post_of}
use Rattle.std.proofs.lemmas.List.{length-take-le}
use Rattle.simulator.proofs.Enough.{room_for}
use Rattle.simulator.proofs.partial.Partial.hold.Goals as goal

pub returns : goal.returns
returns c =
    let at = c.args.self.now.count in
    let more = c.min-more.result in
    let bytes = c.args.self.now.bytes in
    let rest = post_of at (at + more - at) bytes in
    let long : at ≤ length bytes = omega arith in
    ap (λ (zs : List ℕ). take (at + more) (take at bytes ++ (zs ++ rest))) c.copy_from_slice.ensures.after
    ∙ room_for (take at bytes) c.args.input.now rest at more (length-take-le at bytes long) (omega arith) c.min-more.ensures
