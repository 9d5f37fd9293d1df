-- Numbers in columns are spaces and then the number.
use Rattle.std.proofs.Common.{◌≡◌, ℕ, zero, suc, ◌+◌, ◌-◌, ◌*◌, ◌/◌, ◌%◌, ◌^◌, ◌<◌, ◌≤◌, Bool, true, false, cond, not, ◌&&◌, eqb}
use Rattle.std.proofs.Common.{◌⊎◌, List, [], ◌∷◌, ◌++◌, length, replicate, Some, decimal, sym, refl, ap, ◌∙◌, inl, inr, ⊎_elim, append_assoc, add-one, arith}
use Rattle.std.proofs.lemmas.Fmt.{decimal_digit, decimal_step, decimal_by_steps, decimal_nonempty}
use Rattle.std.proofs.lemmas.List.{append-nil, length-append, replicate_more}
use Rattle.std.proofs.lemmas.Bool.{cases_lt, ne_eqb, eqb-true, eqb-false}
use Rattle.std.proofs.lemmas.Bool.Decides.{nat_tests}
use Rattle.simulator.specs.Field.{is_digit, after_byte, number_after, field, told_number}
use Rattle.simulator.specs.Print.{columns_before, justified}
use Rattle.simulator.specs.declared.field.Told.{Told}
use Rattle.simulator.specs.declared.field.Told.TheVariants.{Spaces, Number, Wrong}
use Rattle.simulator.specs.Columns.{spaced, NumbersInColumns}

-- what all bytes make of what was told
unfoldable pub after_bytes : Told → List ℕ → Told
after_bytes t [] = t
after_bytes t (b ∷ bs) = after_bytes (after_byte t b) bs

pub told_is : (t : Told) (bs : List ℕ) → number_after t bs ≡ told_number (after_bytes t bs)
unfolding after_bytes
told_is t [] = refl
told_is t (b ∷ bs) = told_is (after_byte t b) bs

pub after_push : (t : Told) (bs : List ℕ) (b : ℕ) → after_bytes t (bs ++ (b ∷ [])) ≡ after_byte (after_bytes t bs) b
unfolding after_bytes
after_push t [] b = refl
after_push t (x ∷ bs) b = after_push (after_byte t x) bs b

-- a digit
digit : (d : ℕ) → d < 10 → is_digit (48 + d) ≡ true
digit d l = grind (arith, nat_tests)

first_digit : (n : ℕ) → n < 10 → after_byte Spaces (48 + n) ≡ Number n
first_digit n l =
    let s : eqb (48 + n) 32 ≡ false = ne_eqb (48 + n) 32 (λ e. omega arith) in
    let k : 48 + n - 48 ≡ n = omega arith in
    rw (s, digit n l, k)

next_digit : (v d : ℕ) → d < 10 → 1 ≤ v → after_byte (Number v) (48 + d) ≡ Number (10 * v + d)
next_digit v d l some =
    let z : eqb v 0 ≡ false = ne_eqb v 0 (λ e. omega arith) in
    let k : 48 + d - 48 ≡ d = omega arith in
    rw (digit d l, z, k)

spelled : (n : ℕ) → n < 2 ^ 64 → after_bytes Spaces (decimal n) ≡ Number n
unfolding after_bytes
spelled n l =
    decimal_by_steps (λ n ds. after_bytes Spaces ds ≡ Number n) one more n l
  where
    one : (n : ℕ) → n < 10 → after_bytes Spaces ((48 + n) ∷ []) ≡ Number n
    one n l = first_digit n l

    more : (n : ℕ) (ds : List ℕ) → 10 ≤ n → after_bytes Spaces ds ≡ Number (n / 10) → after_bytes Spaces (ds ++ ((48 + n % 10) ∷ [])) ≡ Number n
    more n ds l h =
        let v : 10 * (n / 10) + n % 10 ≡ n = omega arith in
        after_push Spaces ds (48 + n % 10)
        ∙ ap (λ (t : Told). after_byte t (48 + n % 10)) h
        ∙ next_digit (n / 10) (n % 10) (omega arith) (omega arith)
        ∙ ap Number v

told-spaced : (k n : ℕ) → n < 2 ^ 64 → field (spaced k n) ≡ Some n
told-spaced zero n l = told_is Spaces (decimal n) ∙ ap told_number (spelled n l)
told-spaced (suc k) n l = told-spaced k n l

-- nothing is told once a byte was wrong
no_number : (n : ℕ) (bs : List ℕ) → number_after Wrong bs ≡ Some n → ⊥
no_number n [] e = let z : ◌≡◌ {A = ℕ} 0 1 = cc in omega arith
no_number n (b ∷ bs) e = no_number n bs e

-- a digit that followed: what it was, and what is told with it
goes_on :
    (b v n : ℕ) (bs : List ℕ) (test zero' : Bool) → is_digit b ≡ test → eqb v 0 ≡ zero' →
    number_after (cond (test && not zero') (Number (10 * v + (b - 48))) Wrong) bs ≡ Some n →
    (is_digit b ≡ true) × (eqb v 0 ≡ false) × (number_after (Number (10 * v + (b - 48))) bs ≡ Some n)
goes_on b v n bs true false d z e = (d, z, e)
goes_on b v n bs true true d z e = absurd (no_number n bs e)
goes_on b v n bs false zero' d z e = absurd (no_number n bs e)

is_between : (b : ℕ) → is_digit b ≡ true → (48 ≤ b) × (b ≤ 57)
is_between b h = (grind (arith, nat_tests), grind (arith, nat_tests))

-- a number only grows as digits follow
grows : (v n : ℕ) (bs : List ℕ) → number_after (Number v) bs ≡ Some n → v ≤ n
grows v n [] e = let q : v ≡ n = cc in omega arith
grows v n (b ∷ bs) e =
    let g = goes_on b v n bs _ _ refl refl e in
    let l = grows (10 * v + (b - 48)) n bs g.2 in
    omega arith

-- the digits that are left complete the number
completes : (v n : ℕ) (bs : List ℕ) → n < 2 ^ 64 → number_after (Number v) bs ≡ Some n → decimal v ++ bs ≡ decimal n
completes v n [] l e = let q : v ≡ n = cc in append-nil (decimal v) ∙ ap decimal q
completes v n (b ∷ bs) l e =
    let g = goes_on b v n bs _ _ refl refl e in
    let range = is_between b g.0 in
    let some = eqb-false v 0 g.1 in
    let w : ℕ = 10 * v + (b - 48) in
    let most = grows w n bs g.2 in
    let large : 10 ≤ w = more_than v (b - 48) some in
    let front : w / 10 ≡ v = omega arith in
    let last : 48 + w % 10 ≡ b = omega arith in
    let step : decimal w ≡ decimal v ++ (b ∷ []) =
    decimal_step w large (omega arith)
    ∙ ap (λ (x : ℕ). decimal x ++ ((48 + w % 10) ∷ [])) front
    ∙ ap (λ (x : ℕ). decimal v ++ (x ∷ [])) last in
    sym (append_assoc (decimal v) (b ∷ []) bs) ∙ ap (λ (ds : List ℕ). ds ++ bs) (sym step) ∙ completes w n bs l g.2
  where
    more_than : (v d : ℕ) → (v ≡ 0 → ⊥) → 10 ≤ 10 * v + d
    more_than zero d some = absurd (some refl)
    more_than (suc v) d some = omega arith

-- the first byte: a space, or the first digit
begins :
    (b n : ℕ) (bs : List ℕ) (space test : Bool) → eqb b 32 ≡ space → is_digit b ≡ test →
    number_after (cond space Spaces (cond test (Number (b - 48)) Wrong)) bs ≡ Some n →
    ((b ≡ 32) × (number_after Spaces bs ≡ Some n)) ⊎ ((is_digit b ≡ true) × (number_after (Number (b - 48)) bs ≡ Some n))
begins b n bs true test s d e = inl (eqb-true b 32 s, e)
begins b n bs false true s d e = inr (d, e)
begins b n bs false false s d e = absurd (no_number n bs e)

only_spaced : (bs : List ℕ) (n : ℕ) → n < 2 ^ 64 → field bs ≡ Some n → (k : ℕ) × (bs ≡ spaced k n)
only_spaced [] n l e = absurd (let z : ◌≡◌ {A = ℕ} 0 1 = cc in omega arith)
only_spaced (b ∷ bs) n l e =
    ⊎_elim
    (λ space.
    let r = only_spaced bs n l space.1 in
    (suc r.0, ap (λ (x : ℕ). x ∷ bs) space.0 ∙ ap (λ (xs : List ℕ). 32 ∷ xs) r.1))
    (λ d.
    let range = is_between b d.0 in
    let one : decimal (b - 48) ≡ b ∷ [] = decimal_digit (b - 48) (omega arith) ∙ ap (λ (x : ℕ). x ∷ []) (omega arith) in
    (0, ap (λ (ds : List ℕ). ds ++ bs) (sym one) ∙ completes (b - 48) n bs l d.1))
    (begins b n bs _ _ refl refl e)

-- a number is printed as spaces and then the number
before-none : (w : ℕ) → columns_before w 0 ≡ replicate w 32
unfolding columns_before
before-none zero = refl
before-none (suc w) =
    ap (λ (xs : List ℕ). xs ++ (32 ∷ [])) (before-none w) ∙ replicate_more w 32 ∙ ap (λ (k : ℕ). replicate k 32) (add-one w)

before_some : (w n : ℕ) → 1 ≤ n → columns_before w n ≡ justified w n
unfolding columns_before justified
before_some zero n some = refl
before_some (suc w) n some =
    let z : eqb n 0 ≡ false = ne_eqb n 0 (λ e. omega arith) in
    rw z refl

printed-spaced : (w n : ℕ) → n < 2 ^ 64 → length (decimal n) ≤ w → justified w n ≡ spaced (w - length (decimal n)) n
unfolding justified
printed-spaced zero n l fits = absurd (omega (arith, decimal_nonempty n l))
printed-spaced (suc w) n l fits =
    ⊎_elim
    (λ (small : n < 10).
    let none : n / 10 ≡ 0 = omega arith in
    let same : n % 10 ≡ n = omega arith in
    let one : decimal n ≡ (48 + n) ∷ [] = decimal_digit n small in
    let room : suc w - length (decimal n) ≡ w = omega (arith, ap length one) in
    ap (λ (x : ℕ). columns_before w x ++ ((48 + n % 10) ∷ [])) none
    ∙ ap (λ (xs : List ℕ). xs ++ ((48 + n % 10) ∷ [])) (before-none w)
    ∙ ap (λ (x : ℕ). replicate w 32 ++ ((48 + x) ∷ [])) same
    ∙ ap (λ (xs : List ℕ). replicate w 32 ++ xs) (sym one)
    ∙ ap (λ (k : ℕ). replicate k 32 ++ decimal n) (sym room))
    (λ (large : 10 ≤ n).
    let step : decimal n ≡ decimal (n / 10) ++ ((48 + n % 10) ∷ []) = decimal_step n large l in
    let long : length (decimal n) ≡ length (decimal (n / 10)) + 1 = ap length step ∙ length-append (decimal (n / 10)) ((48 + n % 10) ∷ []) in
    let rest = printed-spaced w (n / 10) (omega arith) (omega arith) in
    let room : w - length (decimal (n / 10)) ≡ suc w - length (decimal n) = omega arith in
    ap (λ (xs : List ℕ). xs ++ ((48 + n % 10) ∷ [])) (before_some w (n / 10) (omega arith) ∙ rest)
    ∙ append_assoc (replicate (w - length (decimal (n / 10))) 32) (decimal (n / 10)) ((48 + n % 10) ∷ [])
    ∙ ap (λ (xs : List ℕ). replicate (w - length (decimal (n / 10))) 32 ++ xs) (sym step)
    ∙ ap (λ (k : ℕ). replicate k 32 ++ decimal n) room)
    (cases_lt n 10)

pub numbers_in_columns : NumbersInColumns
numbers_in_columns = record { told = told-spaced; only = only_spaced; printed = printed-spaced }
