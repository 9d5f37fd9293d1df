-- A turn makes one call more, and the theorem says what all of them obey.
use Rattle.std.proofs.Common.{◌≡◌, ◌<◌, List, [], length, take, refl, ap, ◌∙◌, subst, None, Some, arith, get_or}
use Rattle.std.proofs.lemmas.List.{take_all}
use Rattle.history.specs.declared.calls.Call.TheVariants.{Give}
use Rattle.history.specs.declared.calls.Turn.{Turn}
use Rattle.history.proofs.Serves.{Serving, serving_step, served, more_taken, rest_dropped, calls_kept, all_calls}
use Rattle.history.proofs.calls.serve.Goals as goal

abbrev no_turn : Turn
no_turn = record { call = Give 0 (record { 0 = 0 }); answer = None }

pub loop-turn-init : goal.loop-turn-init
loop-turn-init g c =
    record {
      kind = refl;
      rest = refl;
      calls = refl;
      serving = λ first past reached. record { events = []; answered = refl; reached = reached };
    }

pub loop-turn-preserved : goal.loop-turn-preserved
loop-turn-preserved g c =
    let items = c.loop-turn.turn-items in
    let turns = c.args.turns.now in
    let i = c.loop-turn.turn-index in
    let taken : i < length items = omega arith in
    let turn : Turn = record { call = (get_or items i no_turn).call; answer = Some c.make.result } in
    let before = c.loop-turn.invariant in
    record {
      kind = c.make.ensures.kind ∙ before.kind;
      rest = rest_dropped items turns i no_turn turn taken before.rest refl;
      calls = calls_kept items turns i no_turn turn taken before.rest refl before.calls;
      serving =
          λ first past reached.
          serving_step (ap g.K.Kind.numbering before.kind) (more_taken items turns i no_turn turn taken before.rest refl)
          c.make.ensures.extends (before.serving first past reached);
    }

pub returns-clause-calls : goal.returns-clause-calls
returns-clause-calls g c =
    all_calls c.loop-turn.turn-items c.args.turns.now c.loop-turn.turn-index (omega arith) (omega arith) c.loop-turn.invariant.calls

pub returns-clause-promise : goal.returns-clause-promise
returns-clause-promise g c first past reached =
    let items = c.loop-turn.turn-items in
    let i = c.loop-turn.turn-index in
    let all : take i items ≡ items = take_all i items (omega arith) in
    let before = c.loop-turn.invariant in
    served (g.met.K.Kind.lawful c.args.server.now.kind) (returns-clause-calls g c)
    (subst
    (λ (xs : List Turn). Serving g.D.Disk.moves g.D.Disk.meaning (g.K.Kind.numbering c.args.server.now.kind) first past xs
    c.loop-turn.server.state c.loop-turn.server.disk)
    all (before.serving first past reached))
