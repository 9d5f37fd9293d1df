-- A block is ready, and the rank is drawn from it.
use Rattle.std.proofs.Common.{◌≡◌, true, false, Some, Ok, rules, ◌∙◌, arith}
use Rattle.server.specs.Rules.{is_fatal}
use Rattle.server.proofs.Requests.{Asks, ready_knows, drawn_knows, tries-ready, ready_gives, ready_stops, ready_none}
use Rattle.server.proofs.server.Server.give.Goals as goal

pub invariant_of-self-2 : goal.invariant_of-self-2
invariant_of-self-2 g c =
    let k = g.K.Kind.numbering c.args.self.now.kind in
    let knows = rw c.in-Up.is at c.args.self.now.knows in
    record {
      knows =
          rw c.draw.ensures.rest
          (drawn_knows k c.ready.new.self (g.D.Disk.meaning c.ready.new.disk) c.draw.result
          (ready_knows k c.in-Up.up (g.D.Disk.meaning c.args.self.now.disk) knows c.args.series _ _ c.ready.new.self
          (g.D.Disk.meaning c.ready.new.disk) c.in_default.ensures.ready c.in_default.ensures.ends));
    }

pub returns-clause-rules : goal.returns-clause-rules
returns-clause-rules g c =
    let k = g.K.Kind.numbering c.args.self.now.kind in
    let knows = rw c.in-Up.is at c.args.self.now.knows in
    let asks : Asks k c.in-Up.up c.args.series c.args.reading c.in_ok-floor.floor c.max-rank.result (record { 0 = c.min.result }) =
    record {
      below = omega arith;
      ends = knows.ends;
      floors = search rules;
      is = search rules;
      lawful = search rules;
      block = search rules;
      some = (g.met.K.Kind.lawful c.args.self.now.kind).least;
    } in
    let gives = ready_gives asks (g.D.Disk.meaning c.args.self.now.disk) c.ready.new.self (g.D.Disk.meaning c.ready.new.disk) c.in_default.ensures.ready in
    let was : c.draw.result ≡ Some (record { series = c.args.series; rank = c.max-rank.result }) = c.draw.ensures.drawn ∙ gives.0 in
    let rest = rw was at c.draw.ensures.rest in
    let same : c.in_ok-drawn.drawn ≡ record { series = c.args.series; rank = c.max-rank.result } = search (rules, was) in
    let told : c.ok_or-3.result ≡ Ok (k.identifier c.args.series c.max-rank.result) = search (rules, same) in
    rw (c.in-Up.is, told, rest) gives.1

pub returns-clause-moves : goal.returns-clause-moves
returns-clause-moves g c =
    let k = g.K.Kind.numbering c.args.self.now.kind in
    let knows = rw c.in-Up.is at c.args.self.now.knows in
    let asks : Asks k c.in-Up.up c.args.series c.args.reading c.in_ok-floor.floor c.max-rank.result (record { 0 = c.min.result }) =
    record {
      below = omega arith;
      ends = knows.ends;
      floors = search rules;
      is = search rules;
      lawful = search rules;
      block = search rules;
      some = (g.met.K.Kind.lawful c.args.self.now.kind).least;
    } in
    let tries = tries-ready asks (g.D.Disk.meaning c.args.self.now.disk) c.ready.new.self (g.D.Disk.meaning c.ready.new.disk) in
    rw (c.in-Up.is, tries) c.in_default.ensures.moves

-- what is ready is drawn
pub returns-in_err-drawn-clause-rules : goal.returns-in_err-drawn-clause-rules
returns-in_err-drawn-clause-rules g c =
    let k = g.K.Kind.numbering c.args.self.now.kind in
    let knows = rw c.in-Up.is at c.args.self.now.knows in
    let asks : Asks k c.in-Up.up c.args.series c.args.reading c.in_ok-floor.floor c.max-rank.result (record { 0 = c.min.result }) =
    record {
      below = omega arith;
      ends = knows.ends;
      floors = search rules;
      is = search rules;
      lawful = search rules;
      block = search rules;
      some = (g.met.K.Kind.lawful c.args.self.now.kind).least;
    } in
    let gives = ready_gives asks (g.D.Disk.meaning c.args.self.now.disk) c.ready.new.self (g.D.Disk.meaning c.ready.new.disk) c.in_default.ensures.ready in
    let was : c.draw.result ≡ Some (record { series = c.args.series; rank = c.max-rank.result }) = c.draw.ensures.drawn ∙ gives.0 in
    absurd (search (rules, was))

pub returns-then-brings_down-clause-rules : goal.returns-then-brings_down-clause-rules
returns-then-brings_down-clause-rules g c =
    let k = g.K.Kind.numbering c.args.self.now.kind in
    let knows = rw c.in-Up.is at c.args.self.now.knows in
    let asks : Asks k c.in-Up.up c.args.series c.args.reading c.in_ok-floor.floor c.max-rank.result (record { 0 = c.min.result }) =
    record {
      below = omega arith;
      ends = knows.ends;
      floors = search rules;
      is = search rules;
      lawful = search rules;
      block = search rules;
      some = (g.met.K.Kind.lawful c.args.self.now.kind).least;
    } in
    let fatal : is_fatal c.in-Err.fault ≡ true = search rules in
    rw c.in-Up.is
    (ready_stops asks (g.D.Disk.meaning c.args.self.now.disk) c.ready.new.self (g.D.Disk.meaning c.ready.new.disk) c.in-Err.fault c.in-Err.ensures.ready fatal)

pub returns-else-brings_down-clause-rules : goal.returns-else-brings_down-clause-rules
returns-else-brings_down-clause-rules g c =
    let k = g.K.Kind.numbering c.args.self.now.kind in
    let knows = rw c.in-Up.is at c.args.self.now.knows in
    let asks : Asks k c.in-Up.up c.args.series c.args.reading c.in_ok-floor.floor c.max-rank.result (record { 0 = c.min.result }) =
    record {
      below = omega arith;
      ends = knows.ends;
      floors = search rules;
      is = search rules;
      lawful = search rules;
      block = search rules;
      some = (g.met.K.Kind.lawful c.args.self.now.kind).least;
    } in
    let quiet : is_fatal c.in-Err.fault ≡ false = search rules in
    rw c.in-Up.is
    (ready_none asks (g.D.Disk.meaning c.args.self.now.disk) c.ready.new.self (g.D.Disk.meaning c.ready.new.disk) c.in-Err.fault c.in-Err.ensures.ready quiet)
