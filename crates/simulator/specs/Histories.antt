-- The calls that a run's server has answered, and what they obey.
use Rattle.std.specs.Prelude.{◌≡◌, List, [], ◌∷◌, Some, None, Option}
use Rattle.disk.specs.Blank.{WithoutRecords}
use Rattle.history.specs.History.{Event}
use Rattle.history.specs.Made.{turn_of, turns_of}
use Rattle.history.specs.Promise.{Obeys, Reached, GoesOver}
use Rattle.history.specs.declared.calls.Turn.{Turn}
use Rattle.server.specs.declared.state.State.{State}
use Rattle.simulator.specs.Devices.{meaning_of, device_moves}
use Rattle.simulator.specs.Kinds.{numbering_of}
use Rattle.simulator.specs.declared.any_kind.AnyKind.{AnyKind}
use Rattle.simulator.specs.declared.device.Device.{Device}
use Rattle.simulator.specs.declared.stage.Left.{Left}
use Rattle.simulator.specs.declared.stage.Left.TheVariants as left
use Rattle.simulator.specs.declared.stage.Stage.{Stage}
use Rattle.simulator.specs.declared.stage.Stage.TheVariants as stage

-- a server that was put together on a disk without records has answered these calls: they are those of a
-- history that it was reached by, and that obeys the laws
pub record HasServed (kind : AnyKind) (state : State) (disk : Device) (turns : List Turn)
    : Type 0 where
  pub first : Device
  pub without : WithoutRecords (meaning_of first)
  pub history : List Event
  pub answered : turns ≡ turns_of history
  pub reached : Reached device_moves meaning_of (numbering_of kind) first history state disk
  pub obeys :
      Obeys (numbering_of kind) (meaning_of first) history
      × GoesOver device_moves meaning_of (numbering_of kind) first history disk

-- the same of what is left of a run that has ended: without a server there were no calls
abbrev pub LeftServed : Left → List Turn → Type 0
LeftServed (left.Server server spare) turns = HasServed server.kind server.state server.disk turns
LeftServed left turns = turns ≡ []

-- the same of a run that has not ended; until there is a server, its disk is without records
abbrev pub RunServed : Stage → List Turn → Type 0
RunServed (stage.Device memory) turns = turns ≡ []
RunServed (stage.Kind disk spare) turns = WithoutRecords (meaning_of disk) × (turns ≡ [])
RunServed (stage.Box disk spare lease) turns = WithoutRecords (meaning_of disk) × (turns ≡ [])
RunServed (stage.Running server spare) turns = HasServed server.kind server.state server.disk turns
RunServed (stage.Ended left) turns = LeftServed left turns

-- a server was reached by a history from a first disk
abbrev pub IsReached : AnyKind → State → Device → Device → List Event → Type 0
IsReached kind state disk first past =
    Reached device_moves meaning_of (numbering_of kind) first past state disk

-- the same of what is left of a run that has ended: a disk without a server is where a history begins
abbrev pub LeftReached : Left → Device → List Event → Type 0
LeftReached (left.Server server spare) first past =
    IsReached server.kind server.state server.disk first past
LeftReached (left.Disk disk spare) first past = (disk ≡ first) × (past ≡ [])
LeftReached left first past = ⊥

-- the same of a run that has not ended
abbrev pub RunReached : Stage → Device → List Event → Type 0
RunReached (stage.Device memory) first past = ⊥
RunReached (stage.Kind disk spare) first past = (disk ≡ first) × (past ≡ [])
RunReached (stage.Box disk spare lease) first past = (disk ≡ first) × (past ≡ [])
RunReached (stage.Running server spare) first past =
    IsReached server.kind server.state server.disk first past
RunReached (stage.Ended left) first past = LeftReached left first past

-- a history with the event of a call, if there was one: the event has the call and its answer
abbrev pub WithTurn : Option Turn → (List Event → Type 0) → List Event → Type 0
WithTurn None After past = After past
WithTurn (Some turn) After past =
    (event : Event) × (turn_of event ≡ turn) × After (event ∷ past)

-- every history that was reached goes on by the event of a call, if there was one
abbrev pub Lengthens :
    (Device → List Event → Type 0) → Option Turn → (Device → List Event → Type 0) → Type 0
Lengthens Before turn After =
    (first : Device) (past : List Event) → Before first past → WithTurn turn (After first) past
