-- One reservation more of those that fill the ring.
use Rattle.std.proofs.Common.{◌≡◌, ℕ, zero, suc, ◌<◌, List, [], ◌∷◌, Some, None, Ok, Err, Option, Result, sym, refl, ap, ◌∙◌, subst, arith}
use Rattle.std.proofs.lemmas.Bool.{lt-ltb}
use Rattle.record.specs.declared.numbers.Rank.{Rank}
use Rattle.record.specs.declared.sector.Format.{Format}
use Rattle.disk.specs.Meaning.{Meaning}
use Rattle.ring.specs.Operations.{outcome}
use Rattle.ring.specs.Ring.{plan, Agrees, Step}
use Rattle.ring.specs.Search.{reservation, Ended, refusal}
use Rattle.ring.specs.declared.fault.RingFault.{RingFault}
use Rattle.ring.specs.declared.known.Claim.{Claim}
use Rattle.ring.specs.declared.ring.Ring.{Ring}
use Rattle.ring.specs.declared.token.Reserved.{Reserved}
use Rattle.carries.specs.Stops.{filling, Made, Filled}

-- an answer that is no denial is what was asked for
outcome_is : (value x : Reserved) (steps : List Step) (supply : ℕ) → outcome value steps supply ≡ Ok x → x ≡ value
unfolding outcome
outcome_is value x [] supply e = grind arith
outcome_is value x (step ∷ steps) zero e = grind arith
outcome_is value x (step ∷ steps) (suc zero) e = grind arith
outcome_is value x (step ∷ steps) (suc (suc supply)) e = outcome_is value x steps supply e

-- the ring after so many of the nine
pub record Filling (f : Format) (start : Meaning) (n : ℕ) (r : Ring) (m : Meaning) : Type 0 where
  pub agrees : Agrees r m
  pub format : r.format ≡ f
  pub made : Filled f start n m

pub begins : (r : Ring) (m : Meaning) → Agrees r m → Filling r.format m 0 r m
unfolding Filled
begins r m agrees = record { agrees = agrees; format = refl; made = refl }

-- a reservation that was made is not told as refused
abbrev Unanswered : Reserved → RingFault → Ring → Ring → Meaning → Meaning → Type 0
Unanswered reserved fault r r' m m' =
    (◌≡◌ {A = Result Reserved RingFault} (Ok reserved) (Err fault)) × (r' ≡ r) × (m' ≡ m)

module _ (f : Format) (start : Meaning) (n : ℕ) (r : Ring) (m : Meaning) (so_far : Filling f start n r m) where
  module _ (s : ℕ) (end : Rank) (is : filling n ≡ record { series = s; end = end }) (reserved : Reserved) where
    module _ (r' : Ring) (m' : Meaning) where
      module _ (refused : (fault : RingFault) → refusal r.format r.known.top.0 s end ≡ Some fault → Unanswered reserved fault r r' m m') where
        module _ (reserves : Agrees r m → refusal r.format r.known.top.0 s end ≡ None → Ended r.format s end m (Ok reserved) r' m') where
          -- what was answered was not refused
          not_refused : (x : Option RingFault) → refusal r.format r.known.top.0 s end ≡ x → refusal r.format r.known.top.0 s end ≡ None
          not_refused None e = e
          not_refused (Some fault) e =
              let n : ◌≡◌ {A = Result Reserved RingFault} (Ok reserved) (Err fault) = (refused fault e).0 in
              cc

          ended : Ended f s end m (Ok reserved) r' m'
          ended =
              subst (λ (x : Format). Ended x s end m (Ok reserved) r' m') so_far.format
              (reserves so_far.agrees (not_refused (refusal r.format r.known.top.0 s end) refl))

          asked : reserved ≡ reservation f m.reading s end
          asked = outcome_is (reservation f m.reading s end) reserved (plan f 7 s end.0 m.reading) m.supply ended.answers

          made : Made f (record { series = s; end = end }) m m'
          made = record { answers = ended.answers ∙ ap (λ (x : Reserved). Ok x) asked; goes = ended.goes }

          pub one_more : Filling f start (suc n) r' m'
          unfolding Filled
          one_more =
              record {
                agrees = ended.agrees;
                format = ended.format;
                made = (m, so_far.made, subst (λ (x : Claim). Made f x m m') (sym is) made);
              }

pub filling_each : (n : ℕ) → n < 8 → filling n ≡ record { series = n; end = record { 0 = 1 } }
filling_each n l = rw (lt-ltb n 8 l) refl
