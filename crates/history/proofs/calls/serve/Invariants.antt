-- The calls so far are made, in their order, and the turns to come are as they were.
use Rattle.std.proofs.Common.{◌≡◌, List, map, take, drop}
use Rattle.history.specs.History.{Event}
use Rattle.history.specs.Promise.{Reached}
use Rattle.history.proofs.Serves.{Serving}
use Rattle.history.proofs.calls.serve.Given as goal

abbrev pub invariant-loop-turn : goal.invariant-loop-turn
invariant-loop-turn g l =
    record {
      kind : l.server.kind ≡ l.fn.server.kind;
      rest : drop l.turn-index l.turn-items ≡ drop l.turn-index l.fn.turns;
      calls : map (λ turn. turn.call) (take l.turn-index l.turn-items) ≡ map (λ turn. turn.call) (take l.turn-index l.fn.turns);
      serving :
          (first : g.row.D.Denot) (past : List Event) →
          Reached g.D.Disk.moves g.D.Disk.meaning (g.K.Kind.numbering l.fn.server.kind) first past l.fn.server.state l.fn.server.disk →
          Serving g.D.Disk.moves g.D.Disk.meaning (g.K.Kind.numbering l.fn.server.kind) first past
          (take l.turn-index l.turn-items) l.server.state l.server.disk;
    }
