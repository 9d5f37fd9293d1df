-- A piece of the input: what a session reads of it and prints.
use Rattle.std.specs.Prelude.{ℕ, ◌≡◌, ◌<◌, List, [], ◌∷◌, length, take, Option}
use Rattle.std.specs.Io.KnownBytes.{Consumes, IsAtEnd}
use Rattle.std.specs.declared.ops.ControlFlow.TheVariants.{Continue, Break}
use Rattle.simulator.specs.Feeds.{PrintsPiece, PrintsToStop, PrintsToEnd}
use Rattle.simulator.specs.Files.{Flow}
use Rattle.simulator.specs.declared.feed.Feed.{Feed}

-- a piece is printed, and the run goes on or has stopped; an empty piece tells the end of the input, and
-- the line that is held is printed
abbrev pub TakesPiece : Feed → List ℕ → Flow → Feed → List ℕ → Type 0
TakesPiece f [] (Continue done) f' print = ⊥
TakesPiece f [] (Break done) f' print = PrintsToEnd f [] f' print
TakesPiece f (byte ∷ bytes) (Continue done) f' print = PrintsPiece f (byte ∷ bytes) [] f' print
TakesPiece f (byte ∷ bytes) (Break done) f' print = PrintsToStop f (byte ∷ bytes) [] f' print

-- so many bytes of a buffer were read from the input, and they are the piece that is printed; where they
-- are none, the input has ended
module _ (f : Feed) (buffer : List ℕ) (flow : Flow) (f' : Feed) (print : List ℕ) where
  pub record TakesInput (known known' : Option (List ℕ)) : Type 0 where
    pub count : ℕ
    pub consumes : Consumes known known' (take count buffer)
    pub at_end : count ≡ 0 → 0 < length buffer → IsAtEnd known'
    pub takes : TakesPiece f (take count buffer) flow f' print
