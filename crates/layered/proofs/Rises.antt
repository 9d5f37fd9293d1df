-- Each write and each flush raises its count by one.
use Rattle.std.proofs.Common.{ℕ, List, [], ◌∷◌, refl, arith}
use Rattle.disk.specs.Moves.{Moves}
use Rattle.ring.specs.Operations.{Op, put, settle, writes_in, Chain}
use Rattle.layered.specs.Asked.{flushes_in, CountsEach}
use Rattle.layered.specs.Layers.{counted_moves, with_write, with_flush}
use Rattle.layered.specs.declared.counted.Counted.{Counted}
use Rattle.layered.specs.declared.counted.Counts.{Counts}

-- no operation
none_more : (was : Counts) → CountsEach was [] was
unfolding writes_in flushes_in
none_more was = record { writes = λ _. omega arith; flushes = λ _. omega arith; cuts = refl }

module _ (was after : Counts) (i : ℕ) (ops : List Op) where
  -- a write, and what follows it
  write_more : (bytes : List ℕ) → CountsEach (with_write was) ops after → CountsEach was (put i bytes ∷ ops) after
  unfolding writes_in flushes_in
  write_more bytes rest =
      record { writes = λ fits. omega (arith, rest.writes); flushes = rest.flushes; cuts = rest.cuts }

  -- a flush, and what follows it
  flush_more : CountsEach (with_flush was) ops after → CountsEach was (settle i ∷ ops) after
  unfolding writes_in flushes_in
  flush_more rest =
      record { writes = rest.writes; flushes = λ fits. omega (arith, rest.flushes); cuts = rest.cuts }

-- any operations
pub counts_each :
    {D : Type 0} (below : Moves D) (d d' : Counted D) (ops : List Op) → Chain (counted_moves below) d ops d' →
    CountsEach d.counts ops d'.counts
counts_each below d d' [] same = rw same (none_more d.counts)
counts_each below d d' (put i bytes ∷ ops) chain =
    write_more d.counts d'.counts i ops bytes (rw (← chain.1.1) (counts_each below chain.0 d' ops chain.2))
counts_each below d d' (settle i ∷ ops) chain =
    flush_more d.counts d'.counts i ops (rw (← chain.1.1) (counts_each below chain.0 d' ops chain.2))
