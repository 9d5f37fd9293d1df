-- A field of a request line: a number at its right end, spaces to the left, and no needless zero.
use Rattle.std.specs.Prelude.{ℕ, ◌+◌, ◌-◌, ◌*◌, ◌<◌, Bool, if◌then◌else◌, not, ◌&&◌, List, [], ◌∷◌, Some, None, Option, ◌==◌, nat_le}
use Rattle.simulator.specs.declared.field.Told.{Told}
use Rattle.simulator.specs.declared.field.Told.TheVariants.{Spaces, Number, Wrong}

-- the digits 0 to 9
abbrev pub is_digit : ℕ → Bool
is_digit b = nat_le 48 b && nat_le b 57

-- what the bytes of a field tell after one more: spaces, then digits; a number that begins with 0 has no other digit
abbrev pub after_byte : Told → ℕ → Told
after_byte Spaces b =
    if b == 32 then Spaces
    else if is_digit b then Number (b - 48)
    else Wrong
after_byte (Number n) b =
    if is_digit b && not (n == 0) then Number (10 * n + (b - 48)) else Wrong
after_byte Wrong b = Wrong

-- the number that was told
abbrev pub told_number : Told → Option ℕ
told_number (Number n) = Some n
told_number so_far = None

-- what the bytes tell after others
abbrev pub number_after : Told → List ℕ → Option ℕ
number_after so_far [] = told_number so_far
number_after so_far (b ∷ bs) = number_after (after_byte so_far b) bs

-- the number in a field, if it is one
abbrev pub field : List ℕ → Option ℕ
field bytes = number_after Spaces bytes

-- a number that was told is below a bound
abbrev pub Below : ℕ → Told → Type 0
Below bound (Number n) = n < bound
Below bound so_far = Unit {0}
