-- The writes that a disk over memory holds back, and what is asked of them.
use Rattle.std.specs.Prelude.{◌≡◌, ℕ, List, length, slice_set}
use Rattle.disk.specs.Meaning.{at, IsOneOf, Cut}

-- what a type of such writes tells
pub record Holding (H : Type 0) : Type 0 where
  -- no write is held back
  pub nothing : H
  -- what is held back once a sector is written over its old bytes
  pub with_write : H → ℕ → List ℕ → H
  -- the sectors without the writes that are held back, by the sectors as they read
  pub before : H → List (List ℕ) → List (List ℕ)
  -- what a cut with a tear leaves of the sectors, and of the memory that they lie in
  pub left_sectors : ℕ → H → List (List ℕ) → List (List ℕ)
  pub left : ℕ → H → List ℕ → List ℕ

-- a write of bytes into sector i leaves of each sector what was kept, or what read there before the write or after it
abbrev pub KeepsOneOf :
    {H : Type 0} → (H → List (List ℕ) → List (List ℕ)) → (H → ℕ → List ℕ → H) →
    H → List (List ℕ) → ℕ → List ℕ → Type 0
KeepsOneOf before with_write h xs i bytes =
    let written = slice_set xs i bytes in
    let kept = before (with_write h i (at xs i)) written in
    (k : ℕ) → IsOneOf (at kept k) (at (before h xs) k) (at xs k) (at written k)

-- the laws: where no write is held back the sectors are as they read; holding one back makes no sector more or less; one write
-- more keeps of each sector one of its contents; a cut leaves what a disk promises of it
pub record LawfulHolding {H : Type 0} (w : Holding H) : Type 0 where
  pub nothing_before : (xs : List (List ℕ)) → w.before w.nothing xs ≡ xs
  pub before_count : (h : H) (xs : List (List ℕ)) → length (w.before h xs) ≡ length xs
  pub before_write :
      (h : H) (xs : List (List ℕ)) (i : ℕ) (bytes : List ℕ) →
      KeepsOneOf w.before w.with_write h xs i bytes
  pub cuts :
      (h : H) (tear was supply : ℕ) (xs : List (List ℕ)) (beyond : List ℕ) →
      Cut (record { reading = xs; kept = w.before h xs; supply = was; beyond = beyond }) supply
      (let left = w.left_sectors tear h xs in
      record { reading = left; kept = left; supply = supply; beyond = beyond })
