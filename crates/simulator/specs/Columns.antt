-- Numbers in columns: what the fields of a request line and of a print line are, in words of their own.
use Rattle.std.specs.Prelude.{◌≡◌, ℕ, ◌-◌, ◌^◌, ◌<◌, ◌≤◌, List, ◌++◌, length, replicate, Some, decimal}
use Rattle.simulator.specs.Field.{field}
use Rattle.simulator.specs.Print.{justified}

-- spaces, and then a number as it is written in decimal digits
abbrev pub spaced : ℕ → ℕ → List ℕ
spaced spaces number = replicate spaces 32 ++ decimal number

-- a field tells a number just where it is spaces and then that number; and a number is printed as spaces and then the
-- number, as many as fill the columns
pub record NumbersInColumns : Type 0 where
  pub told :
      (spaces number : ℕ) → number < 2 ^ 64 → field (spaced spaces number) ≡ Some number
  pub only :
      (bytes : List ℕ) (number : ℕ) → number < 2 ^ 64 → field bytes ≡ Some number →
      (spaces : ℕ) × (bytes ≡ spaced spaces number)
  pub printed :
      (columns number : ℕ) → number < 2 ^ 64 → length (decimal number) ≤ columns →
      justified columns number ≡ spaced (columns - length (decimal number)) number
