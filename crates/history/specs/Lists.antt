-- What making a list of calls promises whose answers are a list of their own.
use Rattle.std.specs.Prelude.{◌≡◌, ℕ, List, [], ◌∷◌, ◌++◌, take}
use Rattle.disk.specs.Blank.{WithoutRecords}
use Rattle.disk.specs.Meaning.{Meaning}
use Rattle.disk.specs.Moves.{Moves}
use Rattle.kind.specs.Meaning.{Numbering}
use Rattle.history.specs.History.{Event}
use Rattle.history.specs.Made.{call_of, answer_of, Kept}
use Rattle.history.specs.Promise.{Reached}
use Rattle.server.specs.declared.state.State.{State}
use Rattle.history.specs.declared.calls.Answer.{Answer}
use Rattle.history.specs.declared.calls.Call.{Call}

-- the calls of a history, the oldest first
abbrev pub calls_of : List Event → List Call
calls_of [] = []
calls_of (event ∷ past) = calls_of past ++ (call_of event ∷ [])

-- the answers of a history, the oldest first
abbrev pub answers_of : List Event → List Answer
answers_of [] = []
answers_of (event ∷ past) = answers_of past ++ (answer_of event ∷ [])

module _ {D : Type 0} (moves : Moves D) (meaning : D → Meaning) (k : Numbering) (first : D) where
  -- these calls, made: they have these answers, the history with their events is reached, and obeys the laws where it began on a
  -- disk without records
  pub record ServedList
      (past : List Event) (calls : List Call) (answers : List Answer) (state : State) (d : D)
      : Type 0 where
    pub events : List Event
    pub asked : calls_of events ≡ calls
    pub answered : answers_of events ≡ answers
    pub reached : Reached moves meaning k first (events ++ past) state d
    pub obeys : WithoutRecords (meaning first) → Kept moves meaning k first (events ++ past) d

  -- the first of these calls, made, up to some number of them
  pub record BrokeOff (past : List Event) (calls : List Call) (state : State) (d : D)
      : Type 0 where
    pub count : ℕ
    pub answers : List Answer
    pub served : ServedList past (take count calls) answers state d

  -- these calls, all since a server was put together on the first disk
  pub record RanList (calls : List Call) (answers : List Answer) (state : State) (d : D)
      : Type 0 where
    pub history : List Event
    pub asked : calls_of history ≡ calls
    pub answered : answers_of history ≡ answers
    pub reached : Reached moves meaning k first history state d
    pub obeys : WithoutRecords (meaning first) → Kept moves meaning k first history d

  -- the first of these calls, up to some number of them: all since then
  pub record RanInPart (calls : List Call) (state : State) (d : D) : Type 0 where
    pub count : ℕ
    pub answers : List Answer
    pub ran : RanList (take count calls) answers state d
