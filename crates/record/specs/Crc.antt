-- The CRC-32 of IEEE 802.3, bit by bit.
use Rattle.std.specs.Prelude.{◌≡◌, ℕ, zero, suc, ◌/◌, ◌%◌, if◌then◌else◌, List, [], ◌∷◌, codes, ◌==◌, bit_xor}

-- one bit leaves the register at its low end; a 1 turns over the bits of the polynomial
unfoldable pub shift : ℕ → ℕ
shift r = if r % 2 == 1 then bit_xor (r / 2) 0xEDB88320 else r / 2

-- so many bits leave, one after the other
unfoldable pub shifts : ℕ → ℕ → ℕ
shifts zero r = r
shifts (suc k) r = shifts k (shift r)

-- a byte enters at the low end, and its eight bits leave, the low bit first
unfoldable pub feed : ℕ → ℕ → ℕ
feed r b = shifts 8 (bit_xor r b)

-- the register after all bytes, in their order
unfoldable pub register : ℕ → List ℕ → ℕ
register r [] = r
register r (b ∷ bs) = register (feed r b) bs

-- from a register of ones; at the end all 32 bits are turned over
unfoldable pub crc : List ℕ → ℕ
crc bs = bit_xor (register 0xFFFFFFFF bs) 0xFFFFFFFF

-- the text 123456789 has the published check value, and no bytes have 0
abbrev pub CheckValues : Type 0
CheckValues = (crc (codes "123456789") ≡ 0xCBF43926) × (crc [] ≡ 0)
