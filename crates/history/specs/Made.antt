-- The calls and answers of a history, and what making a list of calls promises.
use Rattle.std.specs.Prelude.{◌≡◌, ℕ, List, [], ◌∷◌, ◌++◌, map, Some}
use Rattle.disk.specs.Meaning.{Meaning}
use Rattle.disk.specs.Moves.{Moves}
use Rattle.kind.specs.Meaning.{Numbering}
use Rattle.std.specs.List.{fold}
use Rattle.disk.specs.Blank.{Unwritten, WithoutRecords, zeros, cleared}
use Rattle.disk.specs.Devices.{Stands, stands, after_write, after_flush, after_cut, memory_disk, memory_moves}
use Rattle.disk.specs.Holding.{Holding}
use Rattle.disk.specs.declared.memory.MemoryDisk.{MemoryDisk}
use Rattle.ring.specs.Operations.{Op, put, settle, Chain}
use Rattle.history.specs.History.{Event, request, cut, asks, tried_by}
use Rattle.history.specs.Promise.{Obeys, HiLoThroughout, Reached, GoesOver}
use Rattle.server.specs.Rules.{one, tries}
use Rattle.server.specs.declared.state.State.{State}
use Rattle.history.specs.declared.calls.Answer.{Answer}
use Rattle.history.specs.declared.calls.Answer.TheVariants.{Give as Gave, Cut as WasCut}
use Rattle.history.specs.declared.calls.Call.{Call}
use Rattle.history.specs.declared.calls.Call.TheVariants.{Give, Cut}
use Rattle.history.specs.declared.calls.Turn.{Turn}

-- the call of an event
abbrev pub call_of : Event → Call
call_of (request s reading answer after) = Give s reading
call_of (cut tear supply answer after) = Cut tear supply

-- the answer of an event
abbrev pub answer_of : Event → Answer
answer_of (request s reading answer after) = Gave answer
answer_of (cut tear supply answer after) = WasCut answer

-- a call on a server takes its disk over to another: by the operations that the request tries, or as a cut
abbrev pub Takes :
    {D : Type 0} → Moves D → (D → Meaning) → Numbering → State → D → Call → D → Type 0
Takes moves meaning k state d (Give s reading) d' =
    Chain moves d (tries k state (meaning d) (one s reading)) d'
Takes moves meaning k state d (Cut tear supply) d' = moves.cuts d tear supply d'

-- what calls on a disk from the first on make, by its own relations
module _ {D : Type 0} (moves : Moves D) (meaning : D → Meaning) (k : Numbering) (first : D) where
  -- one call more
  pub record Made (past : List Event) (call : Call) (answer : Answer) (state : State) (d : D)
      : Type 0 where
    pub event : Event
    pub asked : call_of event ≡ call
    pub answered : answer_of event ≡ answer
    pub reached : Reached moves meaning k first (event ∷ past) state d

-- the turn of an event: its call with its answer
abbrev pub turn_of : Event → Turn
turn_of event = record { call = call_of event; answer = Some (answer_of event) }

-- the turns of a history, the oldest first
abbrev pub turns_of : List Event → List Turn
turns_of [] = []
turns_of (event ∷ past) = turns_of past ++ (turn_of event ∷ [])

module _ {D : Type 0} (moves : Moves D) (meaning : D → Meaning) (k : Numbering) (first : D) where
  -- every call of a history obeys its laws, and nothing else took the disk over
  abbrev pub Kept : List Event → D → Type 0
  Kept history d = Obeys k (meaning first) history × GoesOver moves meaning k first history d

  -- the calls of these turns, made: each is answered, the history with their events is reached, and obeys the laws where it
  -- began on a disk without records
  pub record Served (past : List Event) (turns after : List Turn) (state : State) (d : D)
      : Type 0 where
    pub events : List Event
    pub asked : map (λ turn. turn.call) after ≡ map (λ turn. turn.call) turns
    pub answered : after ≡ turns_of events
    pub reached : Reached moves meaning k first (events ++ past) state d
    pub obeys : WithoutRecords (meaning first) → Kept (events ++ past) d

  -- all calls since a server was put together on a disk
  pub record Ran (turns after : List Turn) (state : State) (d : D) : Type 0 where
    pub history : List Event
    pub asked : map (λ turn. turn.call) after ≡ map (λ turn. turn.call) turns
    pub answered : after ≡ turns_of history
    pub reached : Reached moves meaning k first history state d
    pub obeys : Unwritten (meaning first) → Kept history d

-- all calls since a server was put together on a disk that meant this at first: they obey the laws, and the disk went over by
-- what they ask for
module _ {D : Type 0} (moves : Moves D) (meaning : D → Meaning) (k : Numbering) (start : Meaning)
  where
    pub record RanFrom (turns after : List Turn) (state : State) (d : D) : Type 0 where
      pub first : D
      pub began : meaning first ≡ start
      pub history : List Event
      pub asked : map (λ turn. turn.call) after ≡ map (λ turn. turn.call) turns
      pub answered : after ≡ turns_of history
      pub reached : Reached moves meaning k first history state d
      pub obeys : Obeys k start history
      pub goes : GoesOver moves meaning k first history d

-- how a disk over memory stands after an operation that is tried
abbrev pub stood_after_try : {H : Type 0} → Holding H → Stands H → Op → Stands H
stood_after_try w x (put i bytes) = after_write w x i bytes
stood_after_try w x (settle i) = after_flush w x i

-- how a disk over memory stands after a history, by how it stood at first: the operations of each call tried, and the cuts
abbrev pub stood_after :
    {H : Type 0} → Holding H → Numbering → Meaning → Stands H → List Event → Stands H
stood_after w k start x [] = x
stood_after w k start x (cut tear supply answer after ∷ past) =
    after_cut w (stood_after w k start x past) tear supply
stood_after w k start x (event ∷ past) =
    fold (stood_after_try w) (stood_after w k start x past)
    (tried_by k start past (stood_after w k start x past).supply (asks event))

-- the same on a disk over memory that was cleared: there the calls leave nothing open
module _ {H : Type 0} (w : Holding H) (k : Numbering) (sectors supply : ℕ) where
  -- how the disk stands at first
  abbrev pub blank_stand : Stands H
  blank_stand = record { reading = zeros sectors; beyond = []; held = w.nothing; supply = supply }

  pub record RanBlank (turns after : List Turn) (state : State) (d : MemoryDisk H) : Type 0 where
    pub ran :
        RanFrom (memory_moves w) (memory_disk w.before) k (cleared sectors supply)
        turns after state d
    pub exact : stands d ≡ stood_after w k (cleared sectors supply) blank_stand ran.history

  -- and each identifier that they gave obeys hi/lo
  pub record RanSerially (turns after : List Turn) (state : State) (d : MemoryDisk H) : Type 0 where
    pub blank : RanBlank turns after state d
    pub hi_lo : HiLoThroughout k (cleared sectors supply) blank.ran.history
