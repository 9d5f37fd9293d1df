-- The parts are written over zeros, and the checksum over the first 28 bytes.
use Rattle.std.proofs.Common.{◌≡◌, ℕ, List, sym, ap, ◌∙◌, subst, rules}
use Rattle.record.specs.Crc.{crc}
use Rattle.record.specs.Sector.{encoded, body, bytes_of, ReadsBack}
use Rattle.record.proofs.ReadBack.{read_back}
use Rattle.record.proofs.Assembled.{bytes_4, bytes_8, front, whole}
use Rattle.record.proofs.sector.encode.Goals as goal

pub returns : goal.returns
unfolding encoded body
returns c =
    let tag : ℕ = c.args.tag in
    let series : ℕ = c.args.record.series in
    let x : ℕ = c.args.record.sequence.0 in
    let y : ℕ = c.args.record.end.0 in
    let a : List ℕ = c.copy_from_slice.new.self in
    let b : List ℕ = c.copy_from_slice-2.new.self in
    let p : a ≡ bytes_of 8 x = c.copy_from_slice.ensures.after ∙ c.to_le_bytes.ensures ∙ bytes_8 x in
    let q : b ≡ bytes_of 8 y = c.copy_from_slice-2.ensures.after ∙ c.to_le_bytes-2.ensures ∙ bytes_8 y in
    let sum : c.crc32-checksum.result ≡ crc (body tag c.args.record) =
    c.crc32-checksum.ensures ∙ ap crc (front tag series x y a b p q) in
    let bytes =
    whole tag series x y a b p q (crc (body tag c.args.record)) c.copy_from_slice-3.new.self
    (c.copy_from_slice-3.ensures.after ∙ c.to_le_bytes-3.ensures ∙ bytes_4 c.crc32-checksum.result ∙ ap (bytes_of 4) sum) in
    record { bytes = bytes; reads_back = subst (ReadsBack tag c.args.record) (sym bytes) (read_back tag c.args.record (search rules)) }
