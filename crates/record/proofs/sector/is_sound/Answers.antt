-- The last four bytes as the library sums them, and the others.
use Rattle.std.proofs.Common.{◌≡◌, ℕ, ◌-◌, length, take, drop, ap, ◌∙◌, arith}
use Rattle.std.proofs.lemmas.List.{length-drop}
use Rattle.record.specs.Crc.{crc}
use Rattle.record.specs.Sector.{sound, little}
use Rattle.record.proofs.Little.{little_4}
use Rattle.record.proofs.sector.is_sound.Goals as goal

pub returns : goal.returns
unfolding sound
returns c =
    let s = c.args.sector.now in
    let parts = c.in-Some.ensures.cases in
    let split : length s - 4 ≡ 28 = omega arith in
    let last : c.in-Some.checksum.now ≡ drop 28 s = parts.1 ∙ ap (λ (n : ℕ). drop n s) split in
    let four : length c.in-Some.checksum.now ≡ 4 = ap length last ∙ simp length-drop (omega arith) in
    let tail : c.from_le_bytes.result ≡ little (drop 28 s) =
    omega (arith, little_4 c.in-Some.checksum.now four) ∙ ap little last in
    let body : c.crc32.result ≡ crc (take 28 s) =
    c.crc32.ensures ∙ ap crc (parts.0 ∙ ap (λ (n : ℕ). take n s) split) in
    cc
