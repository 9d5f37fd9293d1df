-- What every history of a server obeys that began on a disk without records.
use Rattle.std.specs.Prelude.{◌≡◌, ℕ, ◌+◌, ◌-◌, ◌*◌, ◌^◌, ◌<◌, ◌≤◌, min, max, true, false, List, [], ◌∷◌, length, Some, None, Ok, Err, Result}
use Rattle.std.specs.List.{AllByRecursion}
use Rattle.record.specs.declared.numbers.Identifier.{Identifier}
use Rattle.record.specs.declared.numbers.Rank.{Rank}
use Rattle.record.specs.declared.numbers.Reading.{Reading}
use Rattle.record.specs.declared.numbers.Sequence.{Sequence}
use Rattle.disk.specs.Meaning.{Meaning, Cut}
use Rattle.disk.specs.Moves.{Moves}
use Rattle.kind.specs.Meaning.{Numbering, LawfulKind}
use Rattle.disk.specs.Blank.{WithoutRecords}
use Rattle.ring.specs.Left.{Follows}
use Rattle.ring.specs.Operations.{Went, Chain}
use Rattle.ring.specs.Ring.{Step, top}
use Rattle.history.specs.History.{Event, request, cut, asks, tried_by, latest, end_in, rank_of, floor_of, floor_since, after_last, cuts_since, loss, labels, top_record, dark, asked, succeeded, writes, standing, IsCovered, made_before}
use Rattle.server.specs.Rules.{format, Range, one, tries, woken, Gave, WasCut}
use Rattle.server.specs.declared.fault.ServerFault.{ServerFault}
use Rattle.server.specs.declared.fault.ServerFault.TheVariants.{AboveTop}
use Rattle.server.specs.declared.state.State.{State}

-- a kind whose every reading has the floor 0, as the serial kind's
abbrev pub FloorsZero : Numbering → Type 0
FloorsZero k = (reading : Reading) → k.floor reading ≡ Some (record { 0 = 0 })

-- a reading that is lawful: it has a floor
abbrev pub HasFloor : Numbering → Reading → Type 0
HasFloor k reading = (floor : Rank) × (k.floor reading ≡ Some floor)

-- an answer that is a denial
abbrev pub IsDenied : Result Identifier ServerFault → Type 0
IsDenied answer = (fault : ServerFault) × (answer ≡ Err fault)

module _ (k : Numbering) (start : Meaning) (s : ℕ) (reading : Reading) (past : List Event) where
  -- the rank of the request
  abbrev rank : ℕ
  rank = rank_of k start s reading past

  -- rising: an identifier is given to a series of 0 to 7 at a reading that has a floor; it is the kind's for the request's
  -- rank, and for no other rank up to the top; it is greater than every one given in the series before
  pub record Rising (identifier : Identifier) : Type 0 where
    pub series : s < 8
    pub floor : HasFloor k reading
    pub lawful : rank ≤ k.top.0
    pub told : identifier ≡ k.identifier s (record { 0 = rank })
    pub only : (r : Rank) → r.0 ≤ k.top.0 → identifier ≡ k.identifier s r → r.0 ≡ rank
    pub above : AllByRecursion (λ earlier. earlier.0 < identifier.0) (labels s past)

  -- bounded loss: the rank is at most what the cuts since may lose above the larger of the rank that would follow the last one
  -- and the highest floor since, its own with it
  abbrev pub WithinLoss : Type 0
  WithinLoss =
      rank
      ≤ max (after_last k start s past) (max (floor_since k s past) (floor_of k reading))
      + loss k past (cuts_since s past)

  -- why a request is denied: current fails it, in one of its own operations or in an earlier call that no cut has followed yet;
  -- or its rank lies above the top; or there are too few sequence numbers for the reservation that it needs
  pub data Ground : Type 0 where
    goes_dark :
        (latest start past).supply < 2 * length (asked k start (one s reading) past) → Ground
    went_dark : dark k start past ≡ true → Ground
    above_top : k.top.0 < rank → Ground
    run_short :
        end_in k start (latest start past) s ≤ rank →
        2 ^ 62 - 1 < top_record k start past + 8 → Ground

  -- a request must reserve: its series is one of eight, its reading has a floor, its rank is not above the top and not below the
  -- series' end as the disk reads, the disk did not go dark since the latest cut, and sequence numbers suffice
  pub record MustReserve : Type 0 where
    pub series : s < 8
    pub floor : HasFloor k reading
    pub lawful : rank ≤ k.top.0
    pub outside : end_in k start (latest start past) s ≤ rank
    pub lit : dark k start past ≡ false
    pub numbers : top_record k start past + 8 ≤ 2 ^ 62 - 1

  -- the end that it reserves up to: the smaller of rank + block size and top + 1
  abbrev pub new_end : ℕ
  new_end = min (rank + k.block) (k.top.0 + 1)

  -- what a request asks of the disk: by the ring's rule the carries and then the reservation, seven carries at most, where it
  -- must reserve; nothing where it need not
  pub record AsksByRule (steps : List Step) : Type 0 where
    pub follows : MustReserve → Follows (format k start) s new_end (latest start past).reading steps
    pub carries : length steps ≤ 8
    pub nothing : (MustReserve → ⊥) → steps ≡ []

  -- the reservations of the series that stand, its own among them
  abbrev pub stands_with : Result Identifier ServerFault → Meaning → List Range
  stands_with answer after = standing k start s None (request s reading answer after ∷ past)

  -- hi/lo: the rank is hi × block size + lo, where hi reservations were made before the one that covers it, its own among them
  pub record HiLo (answer : Result Identifier ServerFault) (after : Meaning) : Type 0 where
    pub covered : IsCovered rank (stands_with answer after)
    pub lo : ℕ
    pub below : lo < k.block
    pub sum : rank ≡ made_before rank (stands_with answer after) * k.block + lo

  -- the laws of a request
  pub record RequestLaws (answer : Result Identifier ServerFault) (after : Meaning) : Type 0 where
    -- nothing but the writes and flushes that are asked for reaches the disk, as far as the supply goes
    pub touches : Went (latest start past) (succeeded k start (one s reading) past) after
    pub by_rule : AsksByRule (asked k start (one s reading) past)
    pub rising : (identifier : Identifier) → answer ≡ Ok identifier → Rising identifier
    pub loses : (identifier : Identifier) → answer ≡ Ok identifier → WithinLoss
    pub loses_above : answer ≡ Err AboveTop → (s < 8) × HasFloor k reading × WithinLoss
    -- denied exactly when
    pub denied : s < 8 → HasFloor k reading → IsDenied answer → Ground
    pub denies : s < 8 → HasFloor k reading → Ground → IsDenied answer
    -- numbers run short only after that many writes
    pub lasts : 2 ^ 62 - 1 < top_record k start past + 8 → 2 ^ 62 - 8 ≤ writes k start past
    pub hi_lo :
        FloorsZero k → (identifier : Identifier) → answer ≡ Ok identifier → HiLo answer after

module _ (k : Numbering) (start : Meaning) (supply : ℕ) (past : List Event) where
  -- the laws of a cut: it leaves what a disk's cut may leave, and answers the top record as the disk then reads
  pub record CutLaws (answer : Result Sequence ServerFault) (after : Meaning) : Type 0 where
    pub leaves : Cut (latest start past) supply after
    pub tells : answer ≡ Ok (record { 0 = top (format k start) after.reading })

-- every call of a history obeys its laws
abbrev pub Obeys : Numbering → Meaning → List Event → Type 0
Obeys k start [] = Unit {0}
Obeys k start (request s reading answer after ∷ past) =
    RequestLaws k start s reading past answer after × Obeys k start past
Obeys k start (cut tear supply answer after ∷ past) =
    CutLaws k start supply past answer after × Obeys k start past

-- hi/lo of every identifier that a history gives
abbrev pub HiLoThroughout : Numbering → Meaning → List Event → Type 0
HiLoThroughout k start [] = Unit {0}
HiLoThroughout k start (request s reading (Ok identifier) after ∷ past) =
    HiLo k start s reading past (Ok identifier) after × HiLoThroughout k start past
HiLoThroughout k start (event ∷ past) = HiLoThroughout k start past

module _ {D : Type 0} (moves : Moves D) (meaning : D → Meaning) where
  -- the histories that the three calls make: put together on a disk, and then requests and cuts; each takes the disk over to
  -- another, by the operations that it tries or as a cut
  pub data Reached (k : Numbering) (first : D) : List Event → State → D → Type 0 where
    begun : Reached k first [] (woken k (meaning first)) first
    gave :
        {past : List Event} {state after : State} {d d' : D}
        {s : ℕ} {reading : Reading} {answer : Result Identifier ServerFault} →
        Reached k first past state d →
        Gave k state (meaning d) s reading answer after (meaning d') →
        Chain moves d (tries k state (meaning d) (one s reading)) d' →
        Reached k first (request s reading answer (meaning d') ∷ past) after d'
    was_cut :
        {past : List Event} {state after : State} {d d' : D}
        {tear supply : ℕ} {answer : Result Sequence ServerFault} →
        Reached k first past state d →
        WasCut k (meaning d) supply answer after (meaning d') →
        moves.cuts d tear supply d' →
        Reached k first (cut tear supply answer (meaning d') ∷ past) after d'

  -- a history took a disk over to another by exactly the operations that its calls ask for, up to and with the one that is
  -- denied, and by its cuts; between two calls the disk stays
  abbrev pub GoesOver : Numbering → D → List Event → D → Type 0
  GoesOver k first [] d = d ≡ first
  GoesOver k first (cut tear supply answer after ∷ past) d =
      (between : D) × GoesOver k first past between × moves.cuts between tear supply d
  GoesOver k first (event ∷ past) d =
      (between : D) × GoesOver k first past between
      × Chain moves between
      (tried_by k (meaning first) past (meaning between).supply (asks event)) d

  -- the promise: whatever calls are made on a server that was put together on a disk without records
  abbrev pub EveryHistoryObeys : Type 0
  EveryHistoryObeys =
      (k : Numbering) (first : D) (history : List Event) (state : State) (d : D) →
      LawfulKind k → WithoutRecords (meaning first) →
      Reached k first history state d →
      Obeys k (meaning first) history × GoesOver k first history d
