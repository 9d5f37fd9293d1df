-- A read that is tried again.
use Rattle.std.proofs.Common.{ℕ, List, Some, None, Ok, Err, Option, Result, refl, ◌∙◌, subst}
use Rattle.std.specs.Io.KnownBytes.{Keeps, ReadConsumes}

-- nothing is lost yet
pub keeps_all : (known : Option (List ℕ)) → Keeps known known
keeps_all None = tt
keeps_all (Some bytes) = refl

-- or by one more try
pub keeps_on : (known between known' : Option (List ℕ)) → Keeps known between → Keeps between known' → Keeps known known'
keeps_on None between known' first second = tt
keeps_on (Some bytes) (Some more) (Some most) first second = second ∙ first
keeps_on (Some bytes) (Some more) None first second = second
keeps_on (Some bytes) None known' first second = absurd first

-- what a read gives after tries that gave nothing
pub reads_after :
    {E : Type 0} (known between known' : Option (List ℕ)) (r : Result ℕ E) (buffer : List ℕ) → Keeps known between →
    ReadConsumes between known' r buffer → ReadConsumes known known' r buffer
reads_after None between known' (Ok count) buffer kept read = (tt, read.1)
reads_after None between known' (Err fault) buffer kept read = tt
reads_after (Some bytes) (Some more) known' r buffer kept read =
    subst (λ (xs : List ℕ). ReadConsumes (Some xs) known' r buffer) kept read
reads_after (Some bytes) None known' r buffer kept read = absurd kept
