-- A piece that is taken, by its bytes.
use Rattle.std.proofs.Common.{◌≡◌, ℕ, List, [], ◌∷◌, length, Ok, Err, Result, IfOk, refl, arith}
use Rattle.std.specs.ControlFlow.{MatchControlFlow}
use Rattle.std.specs.declared.ops.ControlFlow.TheVariants.{Continue, Break}
use Rattle.simulator.specs.Feeds.{PrintsPiece, PrintsToStop, PrintsToEnd}
use Rattle.simulator.specs.Files.{Flow}
use Rattle.simulator.specs.declared.feed.Feed.{Feed}
use Rattle.simulate.specs.Pieces.{TakesPiece}

-- none
pub taken_end :
    (f f' : Feed) (piece before print print' : List ℕ) → PrintsToEnd f before f' print → length piece ≡ 0 → before ≡ [] →
    print' ≡ print → TakesPiece f piece (Break tt) f' print'
taken_end f f' [] before print print' ends none fresh same = rw same (rw fresh at ends)
taken_end f f' (byte ∷ bytes) before print print' ends none fresh same = absurd (omega (arith, none))

-- or some
module _ (f f' : Feed) (print : List ℕ) where
  by_flow :
      (piece : List ℕ) (flow : Flow) → (length piece ≡ 0 → ⊥) →
      MatchControlFlow flow (λ _. PrintsPiece f piece [] f' print) (λ _. PrintsToStop f piece [] f' print) →
      TakesPiece f piece flow f' print
  by_flow [] flow some takes = absurd (some refl)
  by_flow (byte ∷ bytes) (Continue done) some takes = takes
  by_flow (byte ∷ bytes) (Break done) some takes = takes

  pub taken_piece :
      {E : Type 0} (piece fed before : List ℕ) (r : Result Flow E) →
      IfOk r (λ flow.
      MatchControlFlow flow (λ _. PrintsPiece f fed before f' print) (λ _. PrintsToStop f fed before f' print)) →
      (length piece ≡ 0 → ⊥) → before ≡ [] → fed ≡ piece → IfOk r (λ flow. TakesPiece f piece flow f' print)
  taken_piece piece fed before (Ok flow) takes some fresh same = by_flow piece flow some (rw (fresh, same) at takes)
  taken_piece piece fed before (Err fault) takes some fresh same = tt
