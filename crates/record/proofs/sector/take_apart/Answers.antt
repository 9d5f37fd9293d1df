-- What is read from the rest lies four bytes further on in the sector.
use Rattle.std.proofs.Common.{◌≡◌, sym, refl, ap, ◌∙◌, rules}
use Rattle.record.specs.Sector.{parts, little, bytes_at}
use Rattle.record.proofs.Little.{part_of_rest, zero_by_number}
use Rattle.record.proofs.sector.take_apart.Goals as goal

pub returns-then-not-are_zero : goal.returns-then-not-are_zero
unfolding parts
returns-then-not-are_zero c =
    let s = c.as_slice.result.now in
    let spare : c.number_at.result ≡ little (bytes_at 20 8 s) = c.number_at.ensures ∙ ap little (part_of_rest s 8 16 20 refl) in
    let zeros = zero_by_number (bytes_at 20 8 s) in
    rw (sym c.as_slice.ensures) (search rules)

pub returns : goal.returns
unfolding parts
returns c =
    let s = c.as_slice.result.now in
    let spare : c.number_at.result ≡ little (bytes_at 20 8 s) = c.number_at.ensures ∙ ap little (part_of_rest s 8 16 20 refl) in
    let sequence : c.number_at-2.result ≡ little (bytes_at 4 8 s) = c.number_at-2.ensures ∙ ap little (part_of_rest s 8 0 4 refl) in
    let end : c.number_at-3.result ≡ little (bytes_at 12 8 s) = c.number_at-3.ensures ∙ ap little (part_of_rest s 8 8 12 refl) in
    let zeros = zero_by_number (bytes_at 20 8 s) in
    rw (sym c.as_slice.ensures) (search rules)
