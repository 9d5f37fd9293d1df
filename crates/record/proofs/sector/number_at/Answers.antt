-- The library sums the eight bytes from there on.
use Rattle.std.proofs.Common.{◌≡◌, length, take, ap, ◌∙◌, arith}
use Rattle.std.proofs.lemmas.List.{length-take, length-drop, take_rest}
use Rattle.record.specs.Sector.{little, bytes_at}
use Rattle.record.proofs.Little.{little_8}
use Rattle.record.proofs.sector.number_at.Goals as goal

pub returns : goal.returns
returns c =
    let part : c.in-Some.number.now ≡ bytes_at c.args.at 8 c.args.bytes.now =
    c.in-Some.ensures.cases.same ∙ ap (take 8) (take_rest c.args.bytes.now c.args.at) in
    let eight : length c.in-Some.number.now ≡ 8 = ap length part ∙ simp (length-take, length-drop) (omega arith) in
    let sum : c.from_le_bytes.result ≡ little c.in-Some.number.now = omega (arith, little_8 c.in-Some.number.now eight) in
    sum ∙ ap little part
