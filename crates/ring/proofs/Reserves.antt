-- What a reservation is told, and how it tells it on.
use Rattle.std.proofs.Common.{◌≡◌, ℕ, None, Ok, Err, Option, Result, MatchResult, arith}
use Rattle.record.specs.declared.numbers.Rank.{Rank}
use Rattle.disk.specs.Meaning.{Meaning}
use Rattle.disk.specs.declared.fault.DiskFault.{DiskFault}
use Rattle.ring.specs.Ring.{Agrees}
use Rattle.ring.specs.Search.{MayReserve, refusal, admit}
use Rattle.ring.specs.Faults.{with_work}
use Rattle.ring.specs.declared.fault.Interrupted.{Interrupted as Stop}
use Rattle.ring.specs.declared.fault.RingFault.{RingFault}
use Rattle.ring.specs.declared.fault.Work.{Work}
use Rattle.ring.specs.declared.ring.Ring.{Ring}

-- a denial that came with its work
pub work_and_fault :
    (work : Work) (answer : Result (Unit {0}) DiskFault) (x : Stop) → Err x ≡ with_work work answer →
    (x ≡ record { work = work; fault = x.fault }) × (answer ≡ Err x.fault)
work_and_fault work answer x e = grind arith

-- what `map_err` passed on, or made its denial of
pub passed_on : {A E : Type 0} (D : Type 0) (x : Result A E) (a : A) → MatchResult x (λ y. ◌≡◌ {A = Result A D} (Ok a) (Ok y)) (λ _. ⊥) → x ≡ Ok a
passed_on D x a h = grind arith

pub made_of :
    {A E D : Type 0} (x : Result A E) (d : D) (Q : E → Type 0) →
    MatchResult x (λ y. ◌≡◌ {A = Result A D} (Err d) (Ok y)) Q → (e : E) × (x ≡ Err e) × Q e
made_of x d Q h = grind arith

-- what was admitted was not refused
pub is_admitted : {A : Type 0} (x : Option RingFault) (asked a : A) → Ok a ≡ admit asked x → (x ≡ None) × (a ≡ asked)
is_admitted x asked a e = grind arith

pub may_from : (r : Ring) (m : Meaning) (s : ℕ) (end : Rank) → Agrees r m → refusal r.format r.known.top.0 s end ≡ None → MayReserve r m s end
may_from r m s end agrees none = grind arith
