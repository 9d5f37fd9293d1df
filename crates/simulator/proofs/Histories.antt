-- What a run's server has answered obeys the laws.
use Rattle.std.proofs.Common.{◌≡◌, ℕ, min, List, [], ◌∷◌, ◌++◌, None, Some, Option, Ok, Err, Result, refl, sym, ap, ◌∙◌, rules}
use Rattle.record.specs.declared.numbers.Identifier.{Identifier}
use Rattle.record.specs.declared.numbers.Sequence.{Sequence}
use Rattle.disk.specs.Blank.{WithoutRecords}
use Rattle.kind.specs.Meaning.{LawfulKind}
use Rattle.ring.specs.Operations.{Chain}
use Rattle.server.specs.Rules.{one, tries, woken, Gave, WasCut}
use Rattle.server.specs.declared.fault.ServerFault.{ServerFault}
use Rattle.server.specs.declared.state.State.{State}
use Rattle.history.proofs.Obeys.{every_history_obeys}
use Rattle.history.proofs.Serves.{begun-at}
use Rattle.history.specs.History.{Event, request, cut}
use Rattle.history.specs.Made.{turns_of}
use Rattle.history.specs.Promise.{Reached, gave, was_cut}
use Rattle.history.specs.declared.calls.Answer.TheVariants.{Give as OfGive, Cut as OfCut}
use Rattle.history.specs.declared.calls.Turn.{Turn}
use Rattle.simulator.specs.Calls.{answer_in, turn_for, Extends}
use Rattle.simulator.specs.Devices.{meaning_of, device_moves}
use Rattle.simulator.specs.Histories.{HasServed, IsReached, WithTurn, Lengthens}
use Rattle.simulator.specs.Kinds.{numbering_of}
use Rattle.simulator.specs.Steps.{give_answer, woken_up}
use Rattle.simulator.specs.declared.answer.Answer.{Answer}
use Rattle.simulator.specs.declared.answer.Denial.{Denial}
use Rattle.simulator.specs.declared.any_kind.AnyKind.{AnyKind}
use Rattle.simulator.specs.declared.any_kind.AnyKind.TheVariants.{Serial, Time}
use Rattle.simulator.specs.declared.device.Device.{Device}
use Rattle.simulator.specs.declared.request.Command.TheVariants.{Give, Cut}
use Rattle.simulator.specs.declared.request.Fields.{Fields}

lawful : (kind : AnyKind) → LawfulKind (numbering_of kind)
lawful (Serial kind) = search rules
lawful (Time kind) = search rules

-- a history that is reached from a disk without records
module _ (kind : AnyKind) (first : Device) (without : WithoutRecords (meaning_of first)) where
  pub served :
      (history : List Event) (turns : List Turn) (state : State) (disk : Device) → turns ≡ turns_of history →
      Reached device_moves meaning_of (numbering_of kind) first history state disk → HasServed kind state disk turns
  served history turns state disk answered reached =
      record {
        first = first;
        without = without;
        history = history;
        answered = answered;
        reached = reached;
        obeys = every_history_obeys device_moves meaning_of (numbering_of kind) first history state disk (lawful kind) without reached;
      }

-- a server that was just put together
pub first_reached :
    (kind kind' : AnyKind) (on first disk : Device) (state : State) (past : List Event) → kind' ≡ kind → disk ≡ on →
    state ≡ woken (numbering_of kind) (meaning_of on) → (on ≡ first) × (past ≡ []) → IsReached kind' state disk first past
first_reached kind kind' on first disk state past same_kind same is starts =
    rw (same_kind, starts.1)
    (begun-at device_moves meaning_of (numbering_of kind) first state disk
    (is ∙ ap (λ (d : Device). woken (numbering_of kind) (meaning_of d)) starts.0)
    (same ∙ starts.0))

pub put_together :
    (kind kind' : AnyKind) (first disk : Device) (state : State) (turns : List Turn) → kind' ≡ kind → disk ≡ first →
    state ≡ woken (numbering_of kind) (meaning_of first) → WithoutRecords (meaning_of first) × (turns ≡ []) →
    HasServed kind' state disk turns
put_together kind kind' first disk state turns same_kind same is before =
    served kind' first before.0 [] turns state disk before.1
    (first_reached kind kind' first first disk state [] same_kind same is (refl, refl))

-- what the answer to a line tells of the server's
given_told : (series : ℕ) (r : Result Identifier ServerFault) → answer_in (give_answer series r) ≡ Some (OfGive r)
given_told series (Ok identifier) = refl
given_told series (Err fault) = refl

woken_told : (r : Result Sequence ServerFault) → answer_in (woken_up r) ≡ Some (OfCut r)
woken_told (Ok top) = refl
woken_told (Err fault) = refl

-- one call more, by the server's own relations
module _ (kind : AnyKind) (state after : State) (d d' : Device) (f : Fields) (answer : Result Answer Denial) where
  pub request_reached :
      (r : Result Identifier ServerFault) → answer ≡ give_answer f.a r →
      Gave (numbering_of kind) state (meaning_of d) (min f.a 255) (record { 0 = f.b }) r after (meaning_of d') →
      Chain device_moves d (tries (numbering_of kind) state (meaning_of d) (one (min f.a 255) (record { 0 = f.b }))) d' →
      Lengthens (IsReached kind state d) (turn_for Give f answer) (IsReached kind after d')
  request_reached r told did chain first past reached =
      rw (told, given_told f.a r)
      (request (min f.a 255) (record { 0 = f.b }) r (meaning_of d'), refl, gave reached did chain)

  pub cut_reached :
      (r : Result Sequence ServerFault) → answer ≡ woken_up r →
      WasCut (numbering_of kind) (meaning_of d) f.b r after (meaning_of d') → device_moves.cuts d f.a f.b d' →
      Lengthens (IsReached kind state d) (turn_for Cut f answer) (IsReached kind after d')
  cut_reached r told did cuts first past reached =
      rw (told, woken_told r)
      (cut f.a f.b r (meaning_of d'), refl, was_cut reached did cuts)

-- what every history goes on by was served
pub one_more :
    (kind kind' : AnyKind) (state after : State) (d d' : Device) (turn : Option Turn) →
    Lengthens (IsReached kind state d) turn (IsReached kind' after d') →
    Extends (HasServed kind state d) turn (HasServed kind' after d')
one_more kind kind' state after d d' None more turns before =
    served kind' before.first before.without before.history turns after d' before.answered
    (more before.first before.history before.reached)
one_more kind kind' state after d d' (Some turn) more turns before =
    let next = more before.first before.history before.reached in
    served kind' before.first before.without (next.0 ∷ before.history) _ after d'
    (ap (λ (x : List Turn). x ++ (turn ∷ [])) before.answered
    ∙ ap (λ (x : Turn). turns_of before.history ++ (x ∷ [])) (sym next.1))
    next.2

-- and then what no call changes
pub then_none :
    (turn : Option Turn) {A B : List Event → Type 0} (past : List Event) → WithTurn turn A past →
    ((history : List Event) → A history → B history) → WithTurn turn B past
then_none None past a then = then past a
then_none (Some turn) past a then = (a.0, a.1, then (a.0 ∷ past) a.2)
