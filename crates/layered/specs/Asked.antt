-- The counts of a counted disk, after any writes and flushes.
use Rattle.std.specs.Prelude.{◌≡◌, ℕ, suc, ◌+◌, ◌^◌, ◌<◌, List, [], ◌∷◌}
use Rattle.disk.specs.Moves.{Moves}
use Rattle.ring.specs.Operations.{Op, put, settle, Chain, writes_in}
use Rattle.layered.specs.Layers.{counted_moves}
use Rattle.layered.specs.declared.counted.Counted.{Counted}
use Rattle.layered.specs.declared.counted.Counts.{Counts}

-- how many of these operations are flushes
unfoldable pub flushes_in : List Op → ℕ
flushes_in [] = 0
flushes_in (put i bytes ∷ ops) = flushes_in ops
flushes_in (settle i ∷ ops) = suc (flushes_in ops)

-- each of these operations has raised its count by one, as far as 64 bits go
pub record CountsEach (before : Counts) (ops : List Op) (after : Counts) : Type 0 where
  pub writes : before.writes + writes_in ops < 2 ^ 64 → after.writes ≡ before.writes + writes_in ops
  pub flushes :
      before.flushes + flushes_in ops < 2 ^ 64 → after.flushes ≡ before.flushes + flushes_in ops
  pub cuts : after.cuts ≡ before.cuts

-- whatever operations made a counted disk of another one, its counts tell each of them
module _ {D : Type 0} (below : Moves D) (after : Counted D) where
  abbrev pub TellsEach : Type 0
  TellsEach =
      (before : Counted D) (ops : List Op) →
      Chain (counted_moves below) before ops after → CountsEach before.counts ops after.counts
