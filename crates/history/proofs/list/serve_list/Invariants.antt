-- The calls so far are made, in their order, and have their answers.
use Rattle.std.proofs.Common.{◌≡◌, List, take, vec_items}
use Rattle.history.specs.History.{Event}
use Rattle.history.specs.Promise.{Reached}
use Rattle.history.proofs.Lists.{Listing}
use Rattle.history.proofs.list.serve_list.Given as goal

abbrev pub invariant-loop-call : goal.invariant-loop-call
invariant-loop-call g l =
    record {
      kind : l.server.kind ≡ l.fn.server.kind;
      listing :
          (first : g.row.D.Denot) (past : List Event) →
          Reached g.D.Disk.moves g.D.Disk.meaning (g.K.Kind.numbering l.fn.server.kind) first past l.fn.server.state l.fn.server.disk →
          Listing g.D.Disk.moves g.D.Disk.meaning (g.K.Kind.numbering l.fn.server.kind) first past
          (take l.call-index l.calls) (vec_items l.answers) l.server.state l.server.disk;
    }
