-- The calls that the lines of a run make of its server, with their answers.
use Rattle.std.specs.Prelude.{ℕ, min, List, [], ◌∷◌, ◌++◌, Some, None, Ok, Err, Option, Result}
use Rattle.history.specs.declared.calls.Answer.{Answer as CallAnswer}
use Rattle.history.specs.declared.calls.Answer.TheVariants.{Give as OfGive, Cut as OfCut}
use Rattle.history.specs.declared.calls.Call.{Call}
use Rattle.history.specs.declared.calls.Call.TheVariants.{Give as ToGive, Cut as ToCut}
use Rattle.history.specs.declared.calls.Turn.{Turn}
use Rattle.simulator.specs.Request.{command_in, fields_in}
use Rattle.simulator.specs.declared.answer.Answer.{Answer}
use Rattle.simulator.specs.declared.answer.Answer.TheVariants.{Set, Given, Woken}
use Rattle.simulator.specs.declared.answer.Denial.{Denial}
use Rattle.simulator.specs.declared.answer.Denial.TheVariants.{NotGiven, NotWoken}
use Rattle.simulator.specs.declared.request.Command.{Command}
use Rattle.simulator.specs.declared.request.Command.TheVariants.{Give, Cut}
use Rattle.simulator.specs.declared.request.Fields.{Fields}
use Rattle.simulator.specs.declared.request.Item.{Item}

-- the call that a letter asks for: G a request, of series 255 where it is above that, and C a cut
abbrev pub call_for : Command → Fields → Option Call
call_for Give f = Some (ToGive (min f.a 255) (record { 0 = f.b }))
call_for Cut f = Some (ToCut f.a f.b)
call_for command f = None

-- by the fields, where they are lawful
abbrev pub call_with : Command → Result Fields Item → Option Call
call_with command (Ok f) = call_for command f
call_with command (Err item) = None

-- by the letter, where it is one
abbrev pub call_by : Option Command → (Command → Result Fields Item) → Option Call
call_by (Some command) fields = call_with command (fields command)
call_by None fields = None

-- the call that a line asks for
abbrev pub call_in : List ℕ → Option Call
call_in line = call_by (command_in line) (λ command. fields_in command line)

-- what the server answered, by the answer to a line; any other answer is given without it
abbrev pub answer_in : Result Answer Denial → Option CallAnswer
answer_in (Ok (Given series identifier)) = Some (OfGive (Ok identifier))
answer_in (Ok (Woken top)) = Some (OfCut (Ok top))
answer_in (Ok Set) = None
answer_in (Err (NotGiven series fault)) = Some (OfGive (Err fault))
answer_in (Err (NotWoken fault)) = Some (OfCut (Err fault))
answer_in (Err denial) = None

-- a call with its answer, where there was one
abbrev pub turn_by : Option CallAnswer → Option Call → Option Turn
turn_by (Some answer) (Some call) = Some (record { call = call; answer = Some answer })
turn_by (Some answer) None = None
turn_by None call = None

-- the call that was made for a line, with its answer
abbrev pub turn_in : List ℕ → Result Answer Denial → Option Turn
turn_in line answer = turn_by (answer_in answer) (call_in line)

-- the same for a letter and fields
abbrev pub turn_for : Command → Fields → Result Answer Denial → Option Turn
turn_for command f answer = turn_by (answer_in answer) (call_for command f)

-- calls, and one more, if there is one
abbrev pub added : List Turn → Option Turn → List Turn
added turns None = turns
added turns (Some turn) = turns ++ (turn ∷ [])

-- what held of calls holds of the same with one more, or with none
abbrev pub Extends : (List Turn → Type 0) → Option Turn → (List Turn → Type 0) → Type 0
Extends Before turn After = (turns : List Turn) → Before turns → After (added turns turn)
