-- A turn of the loop makes one call more, and the theorem says what all of them obey.
use Rattle.std.proofs.Common.{◌+◌, ◌<◌, [], ◌∷◌, ◌++◌, length, vec_items, refl, ap, ◌∙◌, arith}
use Rattle.std.proofs.lemmas.List.{take_more, take_all}
use Rattle.std.proofs.lemmas.Result.{MatchResult-from_err}
use Rattle.history.specs.declared.calls.Call.{Call}
use Rattle.history.specs.declared.calls.Call.TheVariants.{Give}
use Rattle.history.proofs.Lists.{listing_step, served_list}
use Rattle.history.proofs.list.serve_list.Goals as goal

abbrev no_call : Call
no_call = Give 0 (record { 0 = 0 })

pub loop-call-preserved : goal.loop-call-preserved
loop-call-preserved g c =
    let calls = c.args.calls.now in
    let i = c.loop-call.call-index in
    let taken : i < length calls = omega arith in
    let before = c.loop-call.invariant in
    record {
      kind = c.make.ensures.kind ∙ before.kind;
      listing =
          λ first past reached.
          listing_step (ap g.K.Kind.numbering before.kind) (take_more calls i no_call taken) c.in_ok-push.ensures.items
          c.make.ensures.extends (before.listing first past reached);
    }

pub returns-clause-promise : goal.returns-clause-promise
returns-clause-promise g c first past reached =
    let calls = c.args.calls.now in
    let i = c.loop-call.call-index in
    served_list (g.met.K.Kind.lawful c.args.server.now.kind) (take_all i calls (omega arith))
    (c.loop-call.invariant.listing first past reached)

pub returns-in_err-push-clause-promise : goal.returns-in_err-push-clause-promise
returns-in_err-push-clause-promise g c first past reached =
    let calls = c.args.calls.now in
    let i = c.loop-call.call-index in
    let taken : i < length calls = omega arith in
    let before = c.loop-call.invariant in
    MatchResult-from_err c.from_residual.result _ _ c.from_residual.ensures.0
    (λ y.
    record {
      count = i + 1;
      answers = vec_items c.loop-call.answers ++ (c.make.result ∷ []);
      served =
          served_list (g.met.K.Kind.lawful c.args.server.now.kind) refl
          (listing_step (ap g.K.Kind.numbering before.kind) (take_more calls i no_call taken) refl
          c.make.ensures.extends (before.listing first past reached));
    })
