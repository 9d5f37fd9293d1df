-- One look into the table is the byte's eight steps, and the complement turns all bits over.
use Rattle.std.proofs.Common.{◌≡◌, ℕ, ◌/◌, List, [], ◌∷◌, ◌++◌, sym, refl, ap, ◌∙◌, map-id, arith, lit<}
use lib.Bits.{bit_xor, xor_lt}
use Rattle.std.proofs.lemmas.Iterator.{YieldsList-from_slice}
use Rattle.std.proofs.lemmas.Iterator.Consumers.{YieldsList-from_copied, YieldsList-end}
use Rattle.std.specs.Slice.Iter.{iter_rest}
use Rattle.std.specs.Iterator.Adapters.{copied_source}
use Rattle.record.specs.Crc.{register, crc, feed}
use Rattle.record.proofs.Register.{fed_by_table, complement}
use Rattle.record.proofs.crc.crc32.Goals as goal

-- a byte at the end is fed last
register_more : (r : ℕ) (bs : List ℕ) (b : ℕ) → register r (bs ++ b ∷ []) ≡ feed (register r bs) b
unfolding register
register_more r [] b = refl
register_more r (x ∷ bs) b = register_more (feed r x) bs b

pub loop-byte-init : goal.loop-byte-init
unfolding register
loop-byte-init c = (refl, lit< tt)

pub loop-byte-preserved : goal.loop-byte-preserved
loop-byte-preserved c =
    let r : ℕ = c.loop-byte.register in
    let b : ℕ = c.in-Some.byte in
    let fed : feed r b ≡ bit_xor (r / 256) c.entry.result = fed_by_table r b _ _ (omega arith) c.from.ensures c.entry.ensures in (
      sym fed ∙ ap (λ (x : ℕ). feed x b) c.loop-byte.invariant.0 ∙ sym (register_more 0xFFFFFFFF c.loop-byte.yielded b),
      xor_lt 32 (r / 256) c.entry.result (omega (arith, c.loop-byte.invariant.1)) (omega arith),
    )

pub returns : goal.returns
unfolding crc
returns c =
    let r : ℕ = c.loop-byte.register in
    let whole : iter_rest (copied_source c.into_iter-byte-iterator.result) ≡ c.args.bytes.now =
    ap (λ s. iter_rest (copied_source s)) c.into_iter-byte-iterator.ensures.into_iter_gives
    ∙ ap iter_rest c.copied-byte-items.ensures.source
    ∙ c.iter.ensures.rest in
    let road = YieldsList-from_copied {s = c.into_iter-byte-iterator.result} (YieldsList-from_slice c.args.bytes.now whole) in
    let end = YieldsList-end road c.loop-byte.yielded _ c.loop-byte.yielded_by c.next.result _ c.in-None.is c.next.ensures.steps in
    let all : c.loop-byte.yielded ≡ c.args.bytes.now = sym (map-id c.loop-byte.yielded) ∙ end.0 in
    sym (complement r c.loop-byte.invariant.1) ∙ ap (λ (x : ℕ). bit_xor x 0xFFFFFFFF) (c.loop-byte.invariant.0 ∙ ap (register 0xFFFFFFFF) all)
