-- Settings that have a range.
use Rattle.std.specs.Prelude.{ℕ, ◌≤◌, Bool, true, false, ◌&&◌, Ok, Err, Result, IsTrue, nat_le}
use Rattle.std.proofs.Common.{refl}
use Rattle.std.proofs.lemmas.Bool.{and_parts, leb-true}
use Rattle.kind.specs.declared.fault.SettingFault.{SettingFault}

-- a number is from low to high
abbrev pub IsWithin : ℕ → ℕ → ℕ → Type 0
IsWithin low high n = (low ≤ n) × (n ≤ high)

-- the test of that
abbrev pub is_within : ℕ → ℕ → ℕ → Bool
is_within low high n = nat_le low n && nat_le n high

-- where the test passes, the number is in the range
pub within_by_test : (low high n : ℕ) → IsTrue (is_within low high n) → IsWithin low high n
within_by_test low high n passed =
    let both = and_parts (nat_le low n) (nat_le n high) passed in
    (leb-true low n both.0, leb-true n high both.1)

-- what is made of a test that passed, and the fault where it did not
abbrev pub if_passed :
    {X : Type 0} → (test : Bool) → SettingFault → (IsTrue test → X) → Result X SettingFault
if_passed true fault make = Ok (make refl)
if_passed false fault make = Err fault

-- what is made of a number from low to high, and the fault for any other
abbrev pub made_within :
    {X : Type 0} → (low high n : ℕ) → SettingFault → (IsWithin low high n → X) →
    Result X SettingFault
made_within low high n fault make =
    if_passed (is_within low high n) fault (λ passed. make (within_by_test low high n passed))
