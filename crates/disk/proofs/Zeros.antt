-- A memory of zero bytes, as sectors.
use Rattle.std.proofs.Common.{◌≡◌, ℕ, zero, suc, ◌-◌, ◌*◌, ◌/◌, List, [], ◌∷◌, length, take, drop, replicate, refl, ap, ◌∙◌, arith}
use Rattle.std.proofs.lemmas.List.{length-replicate, take-replicate, drop-replicate}
use Rattle.disk.specs.Memory.{chunks, sectors, spare}

-- so many zero bytes
abbrev pub bytes : ℕ → List ℕ
bytes n = replicate n 0

chunks_zero : (n : ℕ) → chunks n (bytes (32 * n)) ≡ replicate n (bytes 32)
unfolding chunks
chunks_zero zero = refl
chunks_zero (suc n) =
    let first : take 32 (bytes (32 * suc n)) ≡ bytes 32 = take-replicate 32 (32 * suc n) 0 (omega arith) in
    let less : 32 * suc n - 32 ≡ 32 * n = omega arith in
    let rest : drop 32 (bytes (32 * suc n)) ≡ bytes (32 * n) =
    drop-replicate 32 (32 * suc n) 0 ∙ ap bytes less in
    rw (first, rest) (ap (λ (xs : List (List ℕ)). bytes 32 ∷ xs) (chunks_zero n))

count_zero : (n : ℕ) → length (bytes (32 * n)) / 32 ≡ n
count_zero n = let size : length (bytes (32 * n)) ≡ 32 * n = length-replicate (32 * n) 0 in omega arith

pub sectors_zero : (n : ℕ) → sectors (bytes (32 * n)) ≡ replicate n (bytes 32)
unfolding sectors
sectors_zero n = ap (λ (k : ℕ). chunks k (bytes (32 * n))) (count_zero n) ∙ chunks_zero n

pub spare_zero : (n : ℕ) → spare (bytes (32 * n)) ≡ []
unfolding spare
spare_zero n =
    let past : 32 * n - 32 * (length (bytes (32 * n)) / 32) ≡ 0 = let size = count_zero n in omega arith in
    drop-replicate (32 * (length (bytes (32 * n)) / 32)) (32 * n) 0 ∙ ap bytes past
