-- A setting in its range makes its value, whatever shows that it is.
use Rattle.std.proofs.Common.{◌≡◌, ℕ, Bool, true, false, Ok, IsTrue, nat_le, sym, refl, ap, ◌∙◌}
use Rattle.std.proofs.Math.Bool.{Bool-set}
use Rattle.std.proofs.Math.Bridge.{le_prop}
use Rattle.std.proofs.lemmas.Bool.{le-leb, and_from}
use Rattle.std.specs.Coded.{×_prop}
use Rattle.kind.specs.Range.{IsWithin, is_within, within_by_test, if_passed, made_within}
use Rattle.kind.specs.declared.fault.SettingFault.{SettingFault}

passed_made :
    {X : Type 0} (test : Bool) (fault : SettingFault) (make : IsTrue test → X) (passed : IsTrue test) →
    if_passed test fault make ≡ Ok (make passed)
passed_made true fault make passed = ap (λ proof. Ok (make proof)) (Bool-set true true refl passed)
passed_made false fault make passed = absurd (let same : ◌≡◌ false true = passed in cc)

pub within_made :
    {X : Type 0} (low high n : ℕ) (fault : SettingFault) (make : IsWithin low high n → X) (fits : IsWithin low high n) →
    Ok (make fits) ≡ made_within low high n fault make
within_made low high n fault make fits =
    let passed : IsTrue (is_within low high n) = and_from (nat_le low n) (nat_le n high) (le-leb low n fits.0) (le-leb n high fits.1) in
    ap (λ proof. Ok (make proof)) (×_prop le_prop le_prop fits (within_by_test low high n passed))
    ∙ sym (passed_made (is_within low high n) fault (λ proof. make (within_by_test low high n proof)) passed)
