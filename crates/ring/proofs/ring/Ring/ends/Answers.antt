-- Each end is that of the live record at its place.
use Rattle.std.proofs.Common.{sym, subst, rules}
use Rattle.std.proofs.lemmas.Bool.{lt-ltb}
use Rattle.std.proofs.lemmas.List.FromFn.{fill_by_all}
use Rattle.ring.specs.Left.{EndsAre}
use Rattle.ring.specs.Ring.{none, known_end}
use Rattle.ring.proofs.Starts.{known_ends_are}
use Rattle.ring.proofs.ring.Ring.ends.Goals as goal

pub returns : goal.returns
returns c =
    let r = c.args.self.now in
    let ends =
    fill_by_all (known_end r.known) _ 8 none.end c.map.ensures.items.long
    (λ k l.
    let call = c.map.ensures.items.at k none none.end l in
    rw (lt-ltb k 8 l) (search rules)) in
    record {
      value = ends;
      reads = λ m agrees. subst (EndsAre r.format m.reading) (sym ends) (known_ends_are r m agrees);
    }
