-- A request on one of the two disks: what it is answered, and what it leaves.
use Rattle.std.specs.Prelude.{ℕ, Some, None, Ok, Err, Option, Result}
use Rattle.record.specs.declared.numbers.Identifier.{Identifier}
use Rattle.record.specs.declared.numbers.Reading.{Reading}
use Rattle.disk.specs.Meaning.{Meaning}
use Rattle.kind.specs.Meaning.{Numbering}
use Rattle.ring.specs.Operations.{tried, outcome}
use Rattle.ring.specs.Ring.{plan, known}
use Rattle.ring.specs.Search.{reservation, refusal}
use Rattle.ring.specs.Token.{block_in}
use Rattle.ring.specs.declared.fault.RingFault.{RingFault}
use Rattle.ring.specs.declared.token.Reserved.{Reserved}
use Rattle.server.specs.Rules.{with_ring, one, Range, Wish, declines, draws, decide, end_at, next_at, drawn, identified, stopped}
use Rattle.server.specs.declared.fault.ServerFault.{ServerFault}
use Rattle.server.specs.declared.fault.ServerFault.TheVariants.{Down as WasDown, Ring as OfRing}
use Rattle.server.specs.declared.state.State.{State}
use Rattle.server.specs.declared.state.State.TheVariants.{Up as Awake, Down}
use Rattle.server.specs.declared.state.Up.{Up}
use Rattle.simulator.specs.Devices.{after_tries}
use Rattle.simulator.specs.declared.device.Make.{Make}

-- what a call leaves: its answer, the server's state, and the disk
pub record LeftBy (A : Type 0) : Type 0 where
  pub answer : Result A ServerFault
  pub state : State
  pub disk : Meaning

-- what the ring's answer makes of a draw, on the disk as it is then
abbrev pub after_reserving :
    {A : Type 0} → Up → ℕ → ℕ → ℕ → A → Meaning → Result Reserved RingFault → LeftBy A
after_reserving u s first n given m (Ok reserved) =
    record {
      answer = Ok given;
      state =
          drawn
          (with_ring u (record { format = u.ring.format; known = known u.ring.format m.reading }))
          s reserved.end first n;
      disk = m;
    }
after_reserving u s first n given m (Err fault) =
    record { answer = Err (OfRing fault); state = stopped u fault; disk = m }

-- a reservation, by what the ring refuses it for; else the disk goes by the operations that are tried, and the ranks
-- are given only if all succeed
abbrev pub reserved_by :
    {A : Type 0} → Make → Up → Meaning → ℕ → ℕ → ℕ → ℕ → A → Option RingFault → LeftBy A
reserved_by make u m s first n end given (Some fault) =
    record { answer = Err (OfRing fault); state = stopped u fault; disk = m }
reserved_by make u m s first n end given None =
    after_reserving u s first n given
    (after_tries make m (tried u.ring.format (plan u.ring.format 7 s end m.reading) m.supply))
    (outcome (reservation u.ring.format m.reading s (record { 0 = end }))
    (plan u.ring.format 7 s end m.reading) m.supply)

-- a call on a server that is up, by what it wants
abbrev pub decided :
    {A : Type 0} → (ℕ → ℕ → ℕ → Option Range → A) → Make → Up → Meaning → Wish → LeftBy A
decided answers make u m (declines fault) = record { answer = Err fault; state = Awake u; disk = m }
decided answers make u m (draws s first n None) =
    record {
      answer = Ok (answers s first n None);
      state = drawn u s (block_in u.blocks s).end first n;
      disk = m;
    }
decided answers make u m (draws s first n (Some claimed)) =
    reserved_by make u m s first n claimed.end (answers s first n (Some claimed))
    (refusal u.ring.format u.ring.known.top.0 s (record { 0 = claimed.end }))

-- a request
unfoldable pub given_by : Make → Numbering → State → Meaning → ℕ → Reading → LeftBy Identifier
given_by make k (Down fault) m s reading =
    record { answer = Err (WasDown fault); state = Down fault; disk = m }
given_by make k (Awake u) m s reading =
    decided (identified k) make u m (decide k (end_at u) (next_at u) (one s reading))
