-- What the calls of a kind of disk make of one of its values into another.
use Rattle.std.specs.Prelude.{ℕ, List}

-- a write of bytes into a sector, a flush of a sector, and a cut with a tear and a new supply; denied calls with them
pub record Moves (D : Type 0) : Type 1 where
  pub writes : D → ℕ → List ℕ → D → Type 0
  pub flushes : D → ℕ → D → Type 0
  pub cuts : D → ℕ → ℕ → D → Type 0

-- those of a disk of which no more is said than what its calls do to its meaning
abbrev pub anything : {D : Type 0} → Moves D
anything =
    record {
      writes = λ d i bytes d'. Unit {0};
      flushes = λ d i d'. Unit {0};
      cuts = λ d tear supply d'. Unit {0};
    }
