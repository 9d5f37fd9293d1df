-- The register is linear: eight steps of it are one look into a table of 256 entries.
use Rattle.std.proofs.Common.{◌≡◌, ℕ, zero, suc, ◌-◌, ◌*◌, ◌/◌, ◌%◌, ◌^◌, ◌<◌, cond, eqb, ◌⊎◌, List, [], ◌∷◌, sym, refl, ap, ◌∙◌, inl, inr, ⊎_elim, arith}
use lib.Bits.{bit_xor, bit_and, xor_lt, and_mask, xor_add_and, xor_shr, xor_mod, xor_shifted, xor_zero_r, xor_comm, xor_assoc, shifted_half, shifted_even}
use Rattle.std.specs.List.{AllByRecursion}
use Rattle.std.proofs.lemmas.Nat.{shr_split}
use Rattle.record.specs.Crc.{shift, shifts, feed, register, crc}

-- what the low bit adds to the register
turned : ℕ → ℕ
turned b = cond (eqb b 1) 0xEDB88320 0

two : (b : ℕ) → b < 2 → (b ≡ 0) ⊎ (b ≡ 1)
two zero h = inl refl
two (suc zero) h = inr refl
two (suc (suc b)) h = absurd (omega arith)

bit : (r : ℕ) → (r % 2 ≡ 0) ⊎ (r % 2 ≡ 1)
bit r = two (r % 2) (omega arith)

shift_is : (r : ℕ) → shift r ≡ bit_xor (r / 2) (turned (r % 2))
unfolding shift turned
shift_is r = ⊎_elim (λ e. rw e (sym (xor_zero_r (r / 2)))) (λ e. rw e refl) (bit r)

turned_lt : (b : ℕ) → (b ≡ 0) ⊎ (b ≡ 1) → turned b < 2 ^ 32
unfolding turned
turned_lt b (inl e) = rw e (omega arith)
turned_lt b (inr e) = rw e (omega arith)

bits_apart : (a b : ℕ) → (a ≡ 0) ⊎ (a ≡ 1) → (b ≡ 0) ⊎ (b ≡ 1) → turned (bit_xor a b) ≡ bit_xor (turned a) (turned b)
unfolding turned
bits_apart a b (inl p) (inl q) = rw (p, q) refl
bits_apart a b (inl p) (inr q) = rw (p, q) refl
bits_apart a b (inr p) (inl q) = rw (p, q) refl
bits_apart a b (inr p) (inr q) = rw (p, q) refl

-- two pairs, one of each
cross : (a b c d : ℕ) → bit_xor (bit_xor a b) (bit_xor c d) ≡ bit_xor (bit_xor a c) (bit_xor b d)
cross a b c d =
    xor_assoc a b (bit_xor c d)
    ∙ ap (bit_xor a) (sym (xor_assoc b c d) ∙ ap (λ (x : ℕ). bit_xor x d) (xor_comm b c) ∙ xor_assoc c b d)
    ∙ sym (xor_assoc a c (bit_xor b d))

shift_linear : (a b : ℕ) → shift (bit_xor a b) ≡ bit_xor (shift a) (shift b)
shift_linear a b =
    let h : bit_xor a b / 2 ≡ bit_xor (a / 2) (b / 2) = xor_shr a b 1 in
    let m : bit_xor a b % 2 ≡ bit_xor (a % 2) (b % 2) = xor_mod a b 1 in
    let t = bits_apart (a % 2) (b % 2) (bit a) (bit b) in
    let c = cross (a / 2) (b / 2) (turned (a % 2)) (turned (b % 2)) in
    let x = shift_is (bit_xor a b) in
    let y = shift_is a in
    let z = shift_is b in
    cc

shifts_linear : (k a b : ℕ) → shifts k (bit_xor a b) ≡ bit_xor (shifts k a) (shifts k b)
unfolding shifts
shifts_linear zero a b = refl
shifts_linear (suc k) a b = ap (shifts k) (shift_linear a b) ∙ shifts_linear k (shift a) (shift b)

-- zero bits at the low end only move
shift_even : (h k : ℕ) → shift (h * 2 ^ suc k) ≡ h * 2 ^ k
unfolding shift
shift_even h k = rw (shifted_even h k) (shifted_half h k)

shifts-zeros : (k h : ℕ) → shifts k (h * 2 ^ k) ≡ h
unfolding shifts
shifts-zeros zero h = omega arith
shifts-zeros (suc k) h = ap (shifts k) (shift_even h k) ∙ shifts-zeros k h

split : (x : ℕ) → bit_xor (x / 256 * 256) (x % 256) ≡ x
split x = xor_shifted (x / 256) 8 (x % 256) (omega arith) ∙ shr_split x 8

-- a register that takes a byte: the rest of it moves down, and the table has what the low byte makes
feed_is : (r b : ℕ) → b < 256 → feed r b ≡ bit_xor (r / 256) (shifts 8 (bit_xor r b % 256))
unfolding feed
feed_is r b h =
    let x : ℕ = bit_xor r b in
    let low : b / 256 ≡ 0 = omega arith in
    let high : x / 256 ≡ r / 256 = xor_shr r b 8 ∙ ap (bit_xor (r / 256)) low ∙ xor_zero_r (r / 256) in
    ap (shifts 8) (sym (split x))
    ∙ shifts_linear 8 (x / 256 * 256) (x % 256)
    ∙ ap (λ (y : ℕ). bit_xor y (shifts 8 (x % 256))) (shifts-zeros 8 (x / 256) ∙ high)

-- one turn of the loop: the byte as a number of 32 bits, and the entry that it and the register name
pub fed_by_table :
    (r b x e : ℕ) → b < 256 → x ≡ b → e ≡ shifts 8 (bit_and (bit_xor r x) 255) → feed r b ≡ bit_xor (r / 256) e
fed_by_table r b x e h same is =
    feed_is r b h
    ∙ ap (bit_xor (r / 256)) (ap (shifts 8) (sym (and_mask (bit_xor r b) 8) ∙ ap (λ (y : ℕ). bit_and (bit_xor r y) 255) (sym same)) ∙ sym is)

-- the complement of 32 bits
pub complement : (r : ℕ) → r < 2 ^ 32 → bit_xor r 0xFFFFFFFF ≡ 0xFFFFFFFF - r
complement r h =
    let whole : bit_and r 0xFFFFFFFF ≡ r % 2 ^ 32 = and_mask r 32 in
    omega (arith, xor_add_and r 0xFFFFFFFF)

-- the register keeps to 32 bits
shift_lt : (r : ℕ) → r < 2 ^ 32 → shift r < 2 ^ 32
shift_lt r h =
    rw (shift_is r) (xor_lt 32 (r / 2) (turned (r % 2)) (omega arith) (turned_lt (r % 2) (bit r)))

shifts_lt : (k r : ℕ) → r < 2 ^ 32 → shifts k r < 2 ^ 32
unfolding shifts
shifts_lt zero r h = h
shifts_lt (suc k) r h = shifts_lt k (shift r) (shift_lt r h)

register_lt : (bs : List ℕ) (r : ℕ) → r < 2 ^ 32 → AllByRecursion (λ b. b < 256) bs → register r bs < 2 ^ 32
unfolding register feed
register_lt [] r h a = h
register_lt (b ∷ bs) r h a = register_lt bs (feed r b) (shifts_lt 8 (bit_xor r b) (xor_lt 32 r b h (omega (arith, a.0)))) a.1

-- the checksum of bytes fits its four bytes
pub crc_lt : (bs : List ℕ) → AllByRecursion (λ b. b < 256) bs → crc bs < 2 ^ 32
unfolding crc
crc_lt bs a = xor_lt 32 (register 0xFFFFFFFF bs) 0xFFFFFFFF (register_lt bs 0xFFFFFFFF (omega arith) a) (omega arith)
