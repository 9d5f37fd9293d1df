-- The server's rules: waking, what a request asks for, and what each call answers and leaves.
use Rattle.std.specs.Prelude.{◌≡◌, ℕ, ◌+◌, ◌-◌, min, max, Bool, true, false, if◌then◌else◌, List, [], Some, None, Ok, Err, Option, Result, nat_le, nat_lt}
use Rattle.record.specs.declared.numbers.Identifier.{Identifier}
use Rattle.record.specs.declared.numbers.Rank.{Rank}
use Rattle.record.specs.declared.numbers.Reading.{Reading as ClockReading}
use Rattle.record.specs.declared.numbers.Sequence.{Sequence}
use Rattle.record.specs.declared.sector.Format.{Format}
use Rattle.disk.specs.Meaning.{Meaning, Cut, count}
use Rattle.kind.specs.Meaning.{Numbering}
use Rattle.ring.specs.Operations.{Op, tried}
use Rattle.ring.specs.Ring.{known_ends, plan, recover}
use Rattle.ring.specs.Token.{empty_blocks, block_in, with_block}
use Rattle.ring.specs.Search.{reservation, Ended, refusal}
use Rattle.ring.specs.declared.fault.RingFault.{RingFault}
use Rattle.ring.specs.declared.fault.RingFault.TheVariants.{Exhausted}
use Rattle.ring.specs.declared.ring.Ring.{Ring}
use Rattle.ring.specs.declared.token.Block.{Block}
use Rattle.ring.specs.declared.token.Blocks.{Blocks}
use Rattle.ring.specs.declared.token.Reserved.{Reserved}
use Rattle.server.specs.declared.fault.ServerFault.{ServerFault}
use Rattle.server.specs.declared.fault.ServerFault.TheVariants.{Down as WasDown, Series, Reading, AboveTop, Ring as OfRing}
use Rattle.server.specs.declared.state.State.{State}
use Rattle.server.specs.declared.state.State.TheVariants.{Up as Awake, Down}
use Rattle.server.specs.declared.state.Up.{Up}

-- the format of a kind's records on a disk
abbrev pub format : Numbering → Meaning → Format
format k m = record { tag = k.tag; top = k.top; sectors = count m }

-- waking sets the next rank of each series to its end
abbrev pub awake : Result Ring RingFault → State
awake (Ok r) = Awake (record { ring = r; blocks = empty_blocks (known_ends r.known) })
awake (Err fault) = Down fault

-- the server with other blocks in hand
abbrev pub with_blocks : Up → Blocks → Up
with_blocks u blocks = record { ring = u.ring; blocks = blocks }

-- the server with another ring
abbrev pub with_ring : Up → Ring → Up
with_ring u ring = record { ring = ring; blocks = u.blocks }

-- what a call but a cut asks for: an identifier of a series at a clock's reading
pub data Ask : Type 0 where
  one : ℕ → ClockReading → Ask

-- the ranks from a first one up to below an end
pub record Range : Type 0 where
  pub first : ℕ
  pub end : ℕ

-- what a call wants of a server that is up: it is declined, or it draws so many ranks of a series from a first one on, once the
-- ranks are reserved that it claims, if any
pub data Wish : Type 0 where
  declines : ServerFault → Wish
  draws : ℕ → ℕ → ℕ → Option Range → Wish

-- the end of a block that is reserved from a rank on: the smaller of rank + block size and top + 1
abbrev pub block_end : Numbering → Rank → Rank
block_end k rank = record { 0 = min (rank.0 + k.block) (k.top.0 + 1) }

-- what is claimed for so many ranks from a first one on: nothing where they lie below the end, else a block from the last of them
abbrev pub claim : Numbering → ℕ → ℕ → ℕ → Option Range
claim k end first n =
    if nat_le (first + n) end
    then None
    else
    let last : Rank = record { 0 = first + n - 1 } in
    Some (record { first = max end first; end = (block_end k last).0 })

-- by the rank: above the top, or drawn
abbrev pub by_rank : Numbering → ℕ → ℕ → ℕ → ℕ → Wish
by_rank k s end first n =
    if nat_le (first + n) (k.top.0 + 1)
    then draws s first n (claim k end first n)
    else declines AboveTop

-- by the reading's floor: the first rank is the larger of next and floor
abbrev pub by_floor : Numbering → ℕ → ℕ → ℕ → ℕ → Option Rank → Wish
by_floor k s end next n None = declines Reading
by_floor k s end next n (Some floor) = by_rank k s end (max next floor.0) n

-- what a call wants, by the end and the next rank of each series
abbrev pub decide : Numbering → (ℕ → ℕ) → (ℕ → ℕ) → Ask → Wish
decide k ends nexts (one s reading) =
    if nat_lt s 8
    then by_floor k s (ends s) (nexts s) 1 (k.floor reading)
    else declines (Series s)

-- the end and the next rank of the block in hand of a series
abbrev pub end_at : Up → ℕ → ℕ
end_at u s = (block_in u.blocks s).end.0

abbrev pub next_at : Up → ℕ → ℕ
next_at u s = (block_in u.blocks s).next.0

-- a denial of the ring that brings the server down: any but that numbers run short
abbrev pub is_fatal : RingFault → Bool
is_fatal Exhausted = false
is_fatal fault = true

-- what a denied reservation leaves: numbers that run short change nothing, anything else brings the server down
abbrev pub stopped : Up → RingFault → State
stopped u fault = if is_fatal fault then Down fault else Awake u

-- why a ring refuses a reservation up to an end, if it does
abbrev pub ring_refusal : Ring → ℕ → Rank → Option RingFault
ring_refusal ring s end = refusal ring.format ring.known.top.0 s end

module _ (ring : Ring) (m : Meaning) (s : ℕ) (end : Rank) where
  -- a call of the ring's reserve: refused with nothing touched, or done as its plan asks
  pub record Reserves (answer : Result Reserved RingFault) (ring' : Ring) (m' : Meaning)
      : Type 0 where
    pub refused :
        (fault : RingFault) → ring_refusal ring s end ≡ Some fault →
        (answer ≡ Err fault) × (ring' ≡ ring) × (m' ≡ m)
    pub reserves :
        ring_refusal ring s end ≡ None → Ended ring.format s end m answer ring' m'

  -- the operations that it tries, unless it is refused
  abbrev pub tries_for : Option RingFault → List Op
  tries_for None = tried ring.format (plan ring.format 7 s end.0 m.reading) m.supply
  tries_for (Some fault) = []

  -- the operations that it tries
  abbrev pub reserve_tries : List Op
  reserve_tries = tries_for (ring_refusal ring s end)

-- a server that is up, its disk, and a block of a series that is to be in hand up to an end
module _ (u : Up) (m : Meaning) (s : ℕ) (end : Rank) where
  -- it has been reserved, and is in hand
  pub record TookBlock (u' : Up) (m' : Meaning) : Type 0 where
    pub ring : Ring
    pub reserves : Reserves u.ring m s end (Ok (reservation u.ring.format m.reading s end)) ring m'
    pub has :
        u'
        ≡ with_blocks (with_ring u ring)
        (with_block u.blocks s (record { next = (block_in u.blocks s).next; end = end }))

  -- the ring denied it: where the denial is not fatal, nothing has changed
  pub record TookNone (fault : RingFault) (u' : Up) (m' : Meaning) : Type 0 where
    pub ring : Ring
    pub reserves : Reserves u.ring m s end (Err fault) ring m'
    pub same : is_fatal fault ≡ false → (u' ≡ u) × (m' ≡ m)

  -- one of the two, by the answer
  abbrev pub Took : Result (Unit {0}) RingFault → Up → Meaning → Type 0
  Took (Ok done) u' m' = TookBlock u' m'
  Took (Err fault) u' m' = TookNone fault u' m'

-- a block in hand that ends above a rank stays; else one is reserved
abbrev pub Ready :
    Bool → Up → Meaning → ℕ → Rank → Result (Unit {0}) RingFault → Up → Meaning → Type 0
Ready true u m s end r u' m' = (r ≡ Ok tt) × (u' ≡ u) × (m' ≡ m)
Ready false u m s end r u' m' = Took u m s end r u' m'

-- the operations that this tries
abbrev pub ready_tries : Bool → Ring → Meaning → ℕ → Rank → List Op
ready_tries ends_above ring m s end = if ends_above then [] else reserve_tries ring m s end

-- the operations that a call tries, on a server that is up, by what it wants
abbrev pub tries_by : Up → Meaning → Wish → List Op
tries_by u m (declines fault) = []
tries_by u m (draws s first n None) = []
tries_by u m (draws s first n (Some claimed)) =
    reserve_tries u.ring m s (record { 0 = claimed.end })

-- and on any server
abbrev pub tries : Numbering → State → Meaning → Ask → List Op
tries k (Down fault) m ask = []
tries k (Awake u) m ask = tries_by u m (decide k (end_at u) (next_at u) ask)

-- the state after so many ranks were drawn from a first one on, out of a block up to an end: the series' next rank is the one
-- after them
abbrev pub drawn : Up → ℕ → Rank → ℕ → ℕ → State
drawn u s end first n =
    let block : Block = record { next = record { 0 = first + n }; end = end } in
    Awake (with_blocks u (with_block u.blocks s block))

-- ranks of a series that are drawn on a server that is up, so many from a first one on, and what is answered for them
module _ {A : Type 0} (u : Up) where
  -- what the ring's answer makes of a draw: it is given after the flush; a denial is passed on
  abbrev pub Answered :
      ℕ → ℕ → ℕ → A → Ring → Result Reserved RingFault → Result A ServerFault → State → Type 0
  Answered s first n given ring (Ok reserved) r after =
      (r ≡ Ok given) × (after ≡ drawn (with_ring u ring) s reserved.end first n)
  Answered s first n given ring (Err fault) r after =
      (r ≡ Err (OfRing fault)) × (after ≡ stopped u fault)

  -- a reservation, and what its answer makes of the draw
  module _ (m : Meaning) (s first n : ℕ) (claimed : Range) (given : A) where
    pub record Reserving (r : Result A ServerFault) (after : State) (m' : Meaning) : Type 0 where
      pub ring : Ring
      pub answer : Result Reserved RingFault
      pub reserves : Reserves u.ring m s (record { 0 = claimed.end }) answer ring m'
      pub answered : Answered s first n given ring answer r after

-- any call but a cut, by what it answers for ranks that are drawn: those of a series, from a first one on, so many, with their
-- claim
module _ {A : Type 0} (answers : ℕ → ℕ → ℕ → Option Range → A) where
  -- what it does on a server that is up, by what it wants
  abbrev pub Does : Up → Meaning → Wish → Result A ServerFault → State → Meaning → Type 0
  Does u m (declines fault) r after m' = (r ≡ Err fault) × (after ≡ Awake u) × (m' ≡ m)
  Does u m (draws s first n None) r after m' =
      (r ≡ Ok (answers s first n None))
      × (after ≡ drawn u s (block_in u.blocks s).end first n)
      × (m' ≡ m)
  Does u m (draws s first n (Some claimed)) r after m' =
      Reserving u m s first n claimed (answers s first n (Some claimed)) r after m'

  -- what it answers, and what it leaves of the server and of its disk
  abbrev pub Acts :
      Numbering → State → Meaning → Ask → Result A ServerFault → State → Meaning → Type 0
  Acts k (Down fault) m ask r after m' =
      (r ≡ Err (WasDown fault)) × (after ≡ Down fault) × (m' ≡ m)
  Acts k (Awake u) m ask r after m' = Does u m (decide k (end_at u) (next_at u) ask) r after m'

-- a request answers the identifier of the rank
abbrev pub identified : Numbering → ℕ → ℕ → ℕ → Option Range → Identifier
identified k s first n claimed = k.identifier s (record { 0 = first })

abbrev pub Gave :
    Numbering → State → Meaning → ℕ → ClockReading →
    Result Identifier ServerFault → State → Meaning → Type 0
Gave k state m s reading r after m' = Acts (identified k) k state m (one s reading) r after m'

-- a server that is put together, or that wakes after a cut
abbrev pub woken : Numbering → Meaning → State
woken k m = awake (recover (format k m) m.reading)

-- what a cut answers: the top record, or why the server is down
abbrev pub top_told : Result Ring RingFault → Result Sequence ServerFault
top_told (Ok ring) = Ok ring.known.top
top_told (Err fault) = Err (OfRing fault)

-- a power cut and the fresh start after it
module _ (k : Numbering) (m : Meaning) (supply : ℕ) where
  pub record WasCut (r : Result Sequence ServerFault) (after : State) (m' : Meaning) : Type 0 where
    pub left : Cut m supply m'
    pub state : after ≡ woken k m'
    pub told : r ≡ top_told (recover (format k m') m'.reading)
