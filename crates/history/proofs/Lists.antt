-- A list of calls and the list of their answers.
use Rattle.std.proofs.Common.{◌≡◌, List, [], ◌∷◌, ◌++◌, Result, sym, ap, ◌∙◌, subst, append-nil, MatchResult}
use Rattle.std.proofs.lemmas.Result.{MatchResult-weaker}
use Rattle.disk.specs.Meaning.{Meaning}
use Rattle.disk.specs.Moves.{Moves}
use Rattle.kind.specs.Meaning.{Numbering, LawfulKind}
use Rattle.history.specs.History.{Event}
use Rattle.history.specs.Promise.{Obeys, Reached, GoesOver}
use Rattle.server.specs.declared.state.State.{State}
use Rattle.history.specs.Lists.{calls_of, answers_of, ServedList, BrokeOff, RanList, RanInPart}
use Rattle.history.specs.Made.{call_of, answer_of, Made}
use Rattle.history.specs.declared.calls.Answer.{Answer}
use Rattle.history.specs.declared.calls.Call.{Call}
use Rattle.history.proofs.Obeys.{every_history_obeys}

module _ {D : Type 0} (moves : Moves D) (meaning : D → Meaning) (k : Numbering) (first : D) (past : List Event) where
  -- calls under way: those so far have their answers
  pub record Listing (calls : List Call) (answers : List Answer) (state : State) (d : D) : Type 0 where
    pub events : List Event
    pub asked : calls_of events ≡ calls
    pub answered : answers_of events ≡ answers
    pub reached : Reached moves meaning k first (events ++ past) state d

-- one more, by what a call extends, of a kind that stayed
pub listing_step :
    {D : Type 0} {moves : Moves D} {meaning : D → Meaning} {k k' : Numbering} {first : D} {past : List Event}
    {calls calls' : List Call} {answers answers' : List Answer} {state : State} {d : D} {call : Call} {answer : Answer} {after : State} {d' : D} →
    k' ≡ k → calls' ≡ calls ++ (call ∷ []) → answers' ≡ answers ++ (answer ∷ []) →
    ((begin : D) (h : List Event) → Reached moves meaning k' begin h state d → Made moves meaning k' begin h call answer after d') →
    Listing moves meaning k first past calls answers state d → Listing moves meaning k first past calls' answers' after d'
listing_step {D} {moves} {meaning} {k} {k'} {first} {past} {calls} {calls'} {answers} {answers'} {state} {d} {call} {answer} {after} {d'}
    same more_calls more_answers extends so_far =
    let extends_k : (begin : D) (h : List Event) → Reached moves meaning k begin h state d → Made moves meaning k begin h call answer after d' =
    subst
    (λ (x : Numbering).
    (begin : D) (h : List Event) → Reached moves meaning x begin h state d →
    Made moves meaning x begin h call answer after d') same extends in
    let made = extends_k first (so_far.events ++ past) so_far.reached in
    record {
      events = made.event ∷ so_far.events;
      asked =
          ap (λ (x : List Call). x ++ (call_of made.event ∷ [])) so_far.asked
          ∙ ap (λ (x : Call). calls ++ (x ∷ [])) made.asked
          ∙ sym more_calls;
      answered =
          ap (λ (x : List Answer). x ++ (answer_of made.event ∷ [])) so_far.answered
          ∙ ap (λ (x : Answer). answers ++ (x ∷ [])) made.answered
          ∙ sym more_answers;
      reached = made.reached;
    }

-- the theorem says what all of them obey
pub served_list :
    {D : Type 0} {moves : Moves D} {meaning : D → Meaning} {k : Numbering} {first : D} {past : List Event}
    {calls calls' : List Call} {answers : List Answer} {state : State} {d : D} →
    LawfulKind k → calls ≡ calls' → Listing moves meaning k first past calls answers state d →
    ServedList moves meaning k first past calls' answers state d
served_list {D} {moves} {meaning} {k} {first} {past} {calls} {calls'} {answers} {state} {d} lawful all so_far =
    record {
      events = so_far.events;
      asked = so_far.asked ∙ all;
      answered = so_far.answered;
      reached = so_far.reached;
      obeys = λ without. every_history_obeys moves meaning k first (so_far.events ++ past) state d lawful without so_far.reached;
    }

-- calls on a server that has no history before them
ran_list :
    {D : Type 0} {moves : Moves D} {meaning : D → Meaning} {k : Numbering} {first : D} {calls : List Call} {answers : List Answer}
    {state : State} {d : D} →
    ServedList moves meaning k first [] calls answers state d → RanList moves meaning k first calls answers state d
ran_list {D} {moves} {meaning} {k} {first} {calls} {answers} {state} {d} all =
    let whole : all.events ++ [] ≡ all.events = append-nil all.events in
    record {
      history = all.events;
      asked = all.asked;
      answered = all.answered;
      reached = subst (λ (x : List Event). Reached moves meaning k first x state d) whole all.reached;
      obeys =
          λ without.
          subst (λ (x : List Event). Obeys k (meaning first) x × GoesOver moves meaning k first x d) whole (all.obeys without);
    }

-- what a list of calls on it promises, by what it answers
pub ran_by_cases :
    {X Y D : Type 0} {moves : Moves D} {meaning : D → Meaning} {k k' : Numbering} {first : D} {state : State} {d : D}
    (r : Result X Y) (items : X → List Answer) (calls : List Call) (after : State) (d' : D) →
    k' ≡ k →
    ((begin : D) (h : List Event) → Reached moves meaning k' begin h state d →
    MatchResult r
    (λ x. ServedList moves meaning k' begin h calls (items x) after d') (λ _. BrokeOff moves meaning k' begin h calls after d')) →
    Reached moves meaning k first [] state d →
    MatchResult r (λ x. RanList moves meaning k first calls (items x) after d') (λ _. RanInPart moves meaning k first calls after d')
ran_by_cases {X} {Y} {D} {moves} {meaning} {k} {k'} {first} {state} {d} r items calls after d' same promise reached =
    let promise_k : (begin : D) (h : List Event) → Reached moves meaning k begin h state d →
    MatchResult r
    (λ x. ServedList moves meaning k begin h calls (items x) after d') (λ _. BrokeOff moves meaning k begin h calls after d') =
    subst
    (λ (z : Numbering).
    (begin : D) (h : List Event) → Reached moves meaning z begin h state d →
    MatchResult r
    (λ x. ServedList moves meaning z begin h calls (items x) after d')
    (λ _. BrokeOff moves meaning z begin h calls after d')) same promise in
    MatchResult-weaker r (promise_k first [] reached)
    (λ x all. ran_list all)
    (λ y part. record { count = part.count; answers = part.answers; ran = ran_list part.served })
