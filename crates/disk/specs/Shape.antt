-- The sectors of a memory have 32 bytes each, and there are 10 to 2,048 of them: the proofs of those laws. A law's proof has to
-- stand in specs; no contract cites it.
use Rattle.std.proofs.Common.{◌≡◌, ℕ, zero, suc, ◌*◌, ◌/◌, ◌≤◌, List, length, drop, sym, refl, ap, subst, arith}
use Rattle.std.specs.List.{AllByRecursion}
use Rattle.std.proofs.lemmas.List.{length-take, length-drop}
use Rattle.disk.specs.Memory.{IsSize, chunks, sectors}

-- the first n sectors, where the memory has so many bytes
chunks_shaped :
    (n : ℕ) (xs : List ℕ) → 32 * n ≤ length xs →
    AllByRecursion (λ sector. length sector ≡ 32) (chunks n xs)
unfolding chunks
chunks_shaped zero xs h = tt
chunks_shaped (suc n) xs h =
    (simp length-take (omega arith), chunks_shaped n (drop 32 xs) (simp length-drop (omega arith)))

-- all whole sectors
pub all_shaped : (xs : List ℕ) → AllByRecursion (λ sector. length sector ≡ 32) (sectors xs)
unfolding sectors
all_shaped xs = chunks_shaped (length xs / 32) xs (omega arith)

-- the first n sectors are n
pub length-chunks : (n : ℕ) (xs : List ℕ) → length (chunks n xs) ≡ n
unfolding chunks
length-chunks zero xs = refl
length-chunks (suc n) xs = ap suc (length-chunks n (drop 32 xs))

-- there are as many sectors as the memory has bytes for
pub length-sectors : (xs : List ℕ) → length (sectors xs) ≡ length xs / 32
unfolding sectors
length-sectors xs = length-chunks (length xs / 32) xs

-- so where the bytes make 10 to 2,048 sectors, there are that many
pub all_sized : (xs : List ℕ) → IsSize (length xs / 32) → IsSize (length (sectors xs))
all_sized xs s = subst IsSize (sym (length-sectors xs)) s
