-- Tries that a signal broke off took nothing from the input.
use Rattle.std.specs.Io.KnownBytes.{Keeps}
use Rattle.simulate.proofs.read_piece.Given as goal

abbrev pub invariant-loop : goal.invariant-loop
invariant-loop g l = Keeps (g.R.Read.remaining l.initial.input) (g.R.Read.remaining l.input)
