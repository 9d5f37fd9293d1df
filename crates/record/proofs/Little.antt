-- Numbers of four and eight bytes, the lowest first.
use Rattle.std.proofs.Common.{◌≡◌, ℕ, zero, suc, ◌+◌, ◌-◌, ◌*◌, ◌/◌, ◌^◌, ◌<◌, ◌≤◌, eqb, List, [], ◌∷◌, length, get_or, take, drop}
use Rattle.std.proofs.Common.{refl, ap, ◌∙◌, pow-suc, arith}
use Rattle.std.proofs.lemmas.Nat.{div_below}
use Rattle.std.proofs.lemmas.List.{get_or-drop, drop-drop, drop_all, take_rest}
use Rattle.std.proofs.lemmas.Bool.Decides.{nat_tests}
use Rattle.record.specs.Sector.{little, bytes_of, all_zero}

-- a number is its lowest byte and 256 times the rest, past the end too
little-first : (xs : List ℕ) → little xs ≡ get_or xs 0 0 + 256 * little (drop 1 xs)
unfolding little
little-first [] = refl
little-first (x ∷ xs) = refl

pub little-at : (xs : List ℕ) (k : ℕ) → little (drop k xs) ≡ get_or xs k 0 + 256 * little (drop (k + 1) xs)
little-at xs k =
    let e = little-first (drop k xs) in
    let g : get_or (drop k xs) 0 0 ≡ get_or xs k 0 = rw (get_or-drop k xs 0 0) (ap (λ (i : ℕ). get_or xs i 0) (omega arith)) in
    let d : drop 1 (drop k xs) ≡ drop (k + 1) xs = drop-drop 1 k xs in
    cc

pub little_end : (xs : List ℕ) (k : ℕ) → length xs ≤ k → little (drop k xs) ≡ 0
unfolding little
little_end xs k h = ap little (drop_all k xs h)

-- the sums that the library's `from_le_bytes` has
pub little_4 :
    (xs : List ℕ) → length xs ≡ 4 → little xs ≡ get_or xs 0 0 + get_or xs 1 0 * 256 + get_or xs 2 0 * 65536 + get_or xs 3 0 * 16777216
little_4 xs h =
    omega (arith, little-at xs 0, little-at xs 1, little-at xs 2, little-at xs 3, little_end xs 4 (omega arith))

pub little_8 :
    (xs : List ℕ) → length xs ≡ 8 →
    little xs
    ≡ get_or xs 0 0
    + get_or xs 1 0 * 256
    + get_or xs 2 0 * 65536
    + get_or xs 3 0 * 16777216
    + get_or xs 4 0 * 4294967296
    + get_or xs 5 0 * 1099511627776
    + get_or xs 6 0 * 281474976710656
    + get_or xs 7 0 * 72057594037927936
little_8 xs h =
    omega (
      arith,
      little-at xs 0,
      little-at xs 1,
      little-at xs 2,
      little-at xs 3,
      little-at xs 4,
      little-at xs 5,
      little-at xs 6,
      little-at xs 7,
      little_end xs 8 (omega arith),
    )

-- what lies in the rest after the first four bytes lies four further on in the whole
pub part_of_rest :
    (xs : List ℕ) (n at from : ℕ) → 4 + at ≡ from → take n (drop at (take (length xs - 4) (drop 4 xs))) ≡ take n (drop from xs)
part_of_rest xs n at from e = ap (take n) (ap (drop at) (take_rest xs 4) ∙ drop-drop at 4 xs ∙ ap (λ (i : ℕ). drop i xs) e)

-- bytes are all zero just where their number is
pub zero_by_number : (xs : List ℕ) → all_zero xs ≡ eqb (little xs) 0
unfolding all_zero little
zero_by_number [] = refl
zero_by_number (x ∷ xs) = let h = zero_by_number xs in grind (arith, nat_tests)

-- a number is read back from its bytes
pub little_bytes : (k n : ℕ) → n < 256 ^ k → little (bytes_of k n) ≡ n
unfolding little bytes_of
little_bytes zero n h = omega arith
little_bytes (suc k) n h =
    let p : 256 ^ suc k ≡ 256 ^ k * 256 = pow-suc 256 k in
    let rest = little_bytes k (n / 256) (div_below n 256 (256 ^ k) (omega arith) (omega arith)) in
    omega arith
