-- One call more on a server, and a list of them.
use Rattle.std.proofs.Common.{◌≡◌, ℕ, ◌+◌, ◌-◌, ◌<◌, ◌≤◌, List, [], ◌∷◌, ◌++◌, length, map, get_or, set, take, drop, Some, Result, sym, refl, ap, ◌∙◌}
use Rattle.std.proofs.Common.{subst, append-nil, arith}
use Rattle.std.proofs.lemmas.List.{take_all, take_more, length-set, length-drop, take-set, get_or-set_same, get_or-drop, drop-set-lt, drop-drop, map-append}
use Rattle.record.specs.declared.numbers.Identifier.{Identifier}
use Rattle.record.specs.declared.numbers.Reading.{Reading}
use Rattle.record.specs.declared.numbers.Sequence.{Sequence}
use Rattle.disk.specs.Meaning.{Meaning, count}
use Rattle.disk.specs.Memory.{IsSize}
use Rattle.disk.specs.Moves.{Moves}
use Rattle.kind.specs.Meaning.{Numbering, LawfulKind}
use Rattle.ring.specs.Operations.{Chain}
use Rattle.history.specs.History.{Event, request, cut}
use Rattle.history.specs.Promise.{Obeys, Reached, GoesOver, begun, gave, was_cut}
use Rattle.server.specs.Rules.{one, Gave, WasCut, tries, woken}
use Rattle.server.specs.declared.fault.ServerFault.{ServerFault}
use Rattle.server.specs.declared.state.State.{State}
use Rattle.history.specs.Made.{call_of, turns_of, Made, Served, Ran}
use Rattle.history.specs.declared.calls.Answer.{Answer}
use Rattle.history.specs.declared.calls.Answer.TheVariants.{Give as AnswerGive, Cut as AnswerCut}
use Rattle.history.specs.declared.calls.Call.{Call}
use Rattle.history.specs.declared.calls.Call.TheVariants.{Give, Cut}
use Rattle.history.specs.declared.calls.Turn.{Turn}
use Rattle.history.proofs.Obeys.{every_history_obeys}

-- one call more, from one disk to another
module _ {D : Type 0} (moves : Moves D) (meaning : D → Meaning) (k : Numbering) (first : D) (past : List Event) where
  module _ (state after : State) (d d' : D) (reached : Reached moves meaning k first past state d) (call : Call) where
    pub request_made :
        (s : ℕ) (reading : Reading) (answer : Result Identifier ServerFault) → call ≡ Give s reading →
        Gave k state (meaning d) s reading answer after (meaning d') →
        Chain moves d (tries k state (meaning d) (one s reading)) d' →
        Made moves meaning k first past call (AnswerGive answer) after d'
    request_made s reading answer is did chain =
        record { event = request s reading answer (meaning d'); asked = sym is; answered = refl; reached = gave reached did chain }

    pub cut_made :
        (tear supply : ℕ) (answer : Result Sequence ServerFault) → call ≡ Cut tear supply → WasCut k (meaning d) supply answer after (meaning d') →
        moves.cuts d tear supply d' →
        Made moves meaning k first past call (AnswerCut answer) after d'
    cut_made tear supply answer is did cuts =
        record { event = cut tear supply answer (meaning d'); asked = sym is; answered = refl; reached = was_cut reached did cuts }

module _ {D : Type 0} (moves : Moves D) (meaning : D → Meaning) (k : Numbering) (first : D) (past : List Event) where
  -- turns under way: those so far are answered
  pub record Serving (turns : List Turn) (state : State) (d : D) : Type 0 where
    pub events : List Event
    pub answered : turns ≡ turns_of events
    pub reached : Reached moves meaning k first (events ++ past) state d

-- one more, by what a call extends, of a kind that stayed
pub serving_step :
    {D : Type 0} {moves : Moves D} {meaning : D → Meaning} {k k' : Numbering} {first : D} {past : List Event}
    {turns turns' : List Turn} {state : State} {d : D} {call : Call} {answer : Answer} {after : State} {d' : D} →
    k' ≡ k → turns' ≡ turns ++ (record { call = call; answer = Some answer } ∷ []) →
    ((begin : D) (h : List Event) → Reached moves meaning k' begin h state d → Made moves meaning k' begin h call answer after d') →
    Serving moves meaning k first past turns state d → Serving moves meaning k first past turns' after d'
serving_step {D} {moves} {meaning} {k} {k'} {first} {past} {turns} {turns'} {state} {d} {call} {answer} {after} {d'} same more extends so_far =
    let extends_k : (begin : D) (h : List Event) → Reached moves meaning k begin h state d → Made moves meaning k begin h call answer after d' =
    subst
    (λ (x : Numbering).
    (begin : D) (h : List Event) → Reached moves meaning x begin h state d →
    Made moves meaning x begin h call answer after d') same extends in
    let made = extends_k first (so_far.events ++ past) so_far.reached in
    record {
      events = made.event ∷ so_far.events;
      answered =
          more
          ∙ ap (λ (x : List Turn). x ++ (record { call = call; answer = Some answer } ∷ [])) so_far.answered
          ∙ ap (λ (x : Call). turns_of so_far.events ++ (record { call = x; answer = Some answer } ∷ [])) (sym made.asked)
          ∙ ap (λ (x : Answer). turns_of so_far.events ++ (record { call = call_of made.event; answer = Some x } ∷ [])) (sym made.answered);
      reached = made.reached;
    }

-- once the loop is through, all turns have their calls
pub all_calls :
    (items turns : List Turn) (i : ℕ) → length items ≤ i → length turns ≤ i →
    map (λ turn. turn.call) (take i items) ≡ map (λ turn. turn.call) (take i turns) →
    map (λ turn. turn.call) items ≡ map (λ turn. turn.call) turns
all_calls items turns i items_in turns_in e =
    ap (map (λ (t : Turn). t.call)) (sym (take_all i items items_in)) ∙ e ∙ ap (map (λ (t : Turn). t.call)) (take_all i turns turns_in)

-- the theorem says what all of them obey
pub served :
    {D : Type 0} {moves : Moves D} {meaning : D → Meaning} {k : Numbering} {first : D} {past : List Event} {turns made : List Turn} {state : State} {d : D} →
    LawfulKind k →
    map (λ turn. turn.call) made ≡ map (λ turn. turn.call) turns → Serving moves meaning k first past made state d →
    Served moves meaning k first past turns made state d
served {D} {moves} {meaning} {k} {first} {past} {turns} {made} {state} {d} lawful asked so_far =
    record {
      events = so_far.events;
      asked = asked;
      answered = so_far.answered;
      reached = so_far.reached;
      obeys = λ without. every_history_obeys moves meaning k first (so_far.events ++ past) state d lawful without so_far.reached;
    }

-- a server that was just put together
pub begun-at :
    {D : Type 0} (moves : Moves D) (meaning : D → Meaning) (k : Numbering) (first : D) (state : State) (d : D) →
    state ≡ woken k (meaning first) → d ≡ first → Reached moves meaning k first [] state d
begun-at moves meaning k first state d is same =
    subst (λ (x : State). Reached moves meaning k first [] x d) (sym is)
    (subst (λ x. Reached moves meaning k first [] (woken k (meaning first)) x) (sym same) begun)

-- what a list of calls on it promises
pub ran :
    {D : Type 0} {moves : Moves D} {meaning : D → Meaning} {k k' : Numbering} {first : D} {turns made : List Turn} {state after : State} {d d' : D} →
    IsSize (count (meaning first)) → k' ≡ k →
    ((begin : D) (h : List Event) → Reached moves meaning k' begin h state d → Served moves meaning k' begin h turns made after d') →
    Reached moves meaning k first [] state d → Ran moves meaning k first turns made after d'
ran {D} {moves} {meaning} {k} {k'} {first} {turns} {made} {state} {after} {d} {d'} sized same promise reached =
    let promise_k : (begin : D) (h : List Event) → Reached moves meaning k begin h state d → Served moves meaning k begin h turns made after d' =
    subst
    (λ (x : Numbering).
    (begin : D) (h : List Event) → Reached moves meaning x begin h state d →
    Served moves meaning x begin h turns made after d') same promise in
    let all = promise_k first [] reached in
    let whole : all.events ++ [] ≡ all.events = append-nil all.events in
    record {
      history = all.events;
      asked = all.asked;
      answered = all.answered;
      reached = subst (λ (x : List Event). Reached moves meaning k first x after d') whole all.reached;
      obeys = λ unwritten.
          subst (λ (x : List Event). Obeys k (meaning first) x × GoesOver moves meaning k first x d') whole
          (all.obeys (record { least = sized.0; most = sized.1; kept = unwritten.kept; blank = unwritten.blank }));
    }

-- one turn of the loop over turns: the one at i is answered
module _ (items turns : List Turn) (i : ℕ) (none turn : Turn) (taken : i < length items) where
  module _ (rest : drop i items ≡ drop i turns) (same : turn.call ≡ (get_or items i none).call) where
    pub more_taken : take (i + 1) (set items i turn) ≡ take i items ++ (turn ∷ [])
    more_taken =
        take_more (set items i turn) i none (rw (length-set items i turn) taken)
        ∙ ap (λ (xs : List Turn). xs ++ (get_or (set items i turn) i none ∷ [])) (take-set items i turn)
        ∙ ap (λ (x : Turn). take i items ++ (x ∷ [])) (get_or-set_same items i turn none taken)

    pub rest_dropped : drop (i + 1) (set items i turn) ≡ drop (i + 1) turns
    rest_dropped =
        drop-set-lt (i + 1) items i turn (omega arith)
        ∙ sym (drop-drop 1 i items)
        ∙ ap (drop 1) rest
        ∙ drop-drop 1 i turns

    here : get_or items i none ≡ get_or turns i none
    here =
        ap (λ (k : ℕ). get_or items k none) (omega arith)
        ∙ sym (get_or-drop i items 0 none)
        ∙ ap (λ (xs : List Turn). get_or xs 0 none) rest
        ∙ get_or-drop i turns 0 none
        ∙ ap (λ (k : ℕ). get_or turns k none) (omega arith)

    in_turns : i < length turns
    in_turns =
        let l : length items - i ≡ length turns - i = sym (length-drop i items) ∙ ap length rest ∙ length-drop i turns in
        omega arith

    pub calls_kept :
        map (λ (t : Turn). t.call) (take i items) ≡ map (λ (t : Turn). t.call) (take i turns) →
        map (λ (t : Turn). t.call) (take (i + 1) (set items i turn)) ≡ map (λ (t : Turn). t.call) (take (i + 1) turns)
    calls_kept before =
        ap (map (λ (t : Turn). t.call)) more_taken
        ∙ map-append (λ (t : Turn). t.call) (take i items) (turn ∷ [])
        ∙ ap (λ (cs : List Call). cs ++ (turn.call ∷ [])) before
        ∙ ap (λ (x : Call). map (λ (t : Turn). t.call) (take i turns) ++ (x ∷ [])) (same ∙ ap (λ (t : Turn). t.call) here)
        ∙ sym (ap (map (λ (t : Turn). t.call)) (take_more turns i none in_turns) ∙ map-append (λ (t : Turn). t.call) (take i turns) (get_or turns i none ∷ []))
