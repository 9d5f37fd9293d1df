-- A field of so many bytes tells a number below that power of ten.
use Rattle.std.proofs.Common.{◌≡◌, ℕ, ◌+◌, ◌-◌, ◌*◌, ◌^◌, ◌<◌, ◌≤◌, Bool, true, false, cond, not, ◌&&◌, eqb, refl, pow-suc, add-one, arith}
use native.Mathlib.Nat.{pow-le-pow_right, one-le-pow}
use Rattle.std.proofs.lemmas.Bool.{and_parts}
use Rattle.std.proofs.lemmas.Bool.Decides.{nat_tests}
use Rattle.simulator.specs.Field.{is_digit, after_byte, Below}
use Rattle.simulator.specs.declared.field.Told.{Told}
use Rattle.simulator.specs.declared.field.Told.TheVariants.{Spaces, Number, Wrong}

digit_below : (b : ℕ) → is_digit b ≡ true → b - 48 < 10
digit_below b h = grind (arith, nat_tests)

chosen : (bound : ℕ) (test : Bool) (t u : Told) → (test ≡ true → Below bound t) → (test ≡ false → Below bound u) → Below bound (cond test t u)
chosen bound true t u yes' no' = yes' refl
chosen bound false t u yes' no' = no' refl

pub below_more : (i b : ℕ) (t : Told) → Below (10 ^ i) t → Below (10 ^ (i + 1)) (after_byte t b)
below_more i b Spaces h =
    let e : 10 ^ (i + 1) ≡ 10 ^ i * 10 = rw add-one (pow-suc 10 i) in
    let o = one-le-pow i 10 (omega arith) in
    let first : is_digit b ≡ true → b - 48 < 10 ^ (i + 1) = λ d. let k = digit_below b d in omega arith in
    chosen _ (eqb b 32) _ _ (λ _. tt) (λ _. chosen _ (is_digit b) _ _ first (λ _. tt))
below_more i b (Number n) h =
    let e : 10 ^ (i + 1) ≡ 10 ^ i * 10 = rw add-one (pow-suc 10 i) in
    let next : is_digit b && not (eqb n 0) ≡ true → 10 * n + (b - 48) < 10 ^ (i + 1) =
    λ d.
    let k = digit_below b (and_parts (is_digit b) _ d).0 in
    omega arith in
    chosen _ (is_digit b && not (eqb n 0)) _ _ next (λ _. tt)
below_more i b Wrong h = tt

pub below_all : (i j : ℕ) (t : Told) → i ≤ j → Below (10 ^ i) t → Below (10 ^ j) t
below_all i j Spaces le h = tt
below_all i j (Number n) le h =
    let p : 10 ^ i ≤ 10 ^ j = pow-le-pow_right (omega arith) le in
    omega arith
below_all i j Wrong le h = tt
