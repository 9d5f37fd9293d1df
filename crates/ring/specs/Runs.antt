-- A reservation on any ring and any disk, whether they agree or not: by what the ring knows and the disk answers.
use Rattle.std.specs.Prelude.{◌≡◌, ℕ, ◌+◌, ◌-◌, ◌^◌, min, ◌⊎◌, List, Some, None, Ok, Err, Option, Result, MatchResult}
use Rattle.record.specs.Sector.{content, encoded}
use Rattle.record.specs.declared.sector.Content.{Content}
use Rattle.record.specs.declared.sector.Format.{Format}
use Rattle.record.specs.declared.sector.Record.{Record}
use Rattle.disk.specs.Meaning.{Meaning, found, answer_of}
use Rattle.disk.specs.Moves.{Moves}
use Rattle.disk.specs.declared.fault.DiskFault.{DiskFault}
use Rattle.disk.specs.declared.fault.Operation.TheVariants.{Write, Flush}
use Rattle.ring.specs.Operations.{Op, put, settle, Performs, Move}
use Rattle.ring.specs.Ring.{sector_of, known_gap, next_of, with_noted, carry_of, Step}
use Rattle.ring.specs.declared.fault.RingFault.{RingFault}
use Rattle.ring.specs.declared.fault.RingFault.TheVariants.{Disk, Interrupted as Stopped}
use Rattle.ring.specs.declared.fault.Work.{Work}
use Rattle.ring.specs.declared.fault.Work.TheVariants.{Carry, Reservation}
use Rattle.ring.specs.declared.known.Claim.{Claim}
use Rattle.ring.specs.declared.ring.Ring.{Ring}
use Rattle.ring.specs.declared.token.Reserved.{Reserved}

-- the sector after the gap as the ring knows it
abbrev pub known_beyond : Ring → ℕ
known_beyond r = sector_of (min (r.known.top.0 + 2) (2 ^ 64 - 1)) r.format.sectors

-- what a sector holds, if it can be read
abbrev pub content_of : Format → ℕ → Result (List ℕ) DiskFault → Result Content DiskFault
content_of f i (Ok bytes) = Ok (content f i bytes)
content_of f i (Err fault) = Err fault

-- what the sector after the gap holds
abbrev pub look : Ring → List (List ℕ) → Result Content DiskFault
look r reading = content_of r.format (known_beyond r) (found reading (known_beyond r))

-- the record there that has to be carried, in a search that began with this top record
abbrev pub carry_in : Ring → ℕ → ℕ → Result Content DiskFault → Result (Option Record) DiskFault
carry_in r s start (Ok c) = Ok (carry_of r.known s start c)
carry_in r s start (Err fault) = Err fault

-- the write of a carry and of the reservation itself, as the ring knows the gap and the next record
abbrev pub known_carry : Ring → Record → Step
known_carry r q =
    record { work = Carry q.series; sector = known_gap r; entry = next_of r q.series q.end }

abbrev pub known_reservation : Ring → Reserved → Step
known_reservation r value =
    record {
      work = Reservation value.series;
      sector = known_gap r;
      entry = next_of r value.series value.end;
    }

-- a disk's denial, with the work that it stopped
abbrev pub interruption : Work → DiskFault → Result Reserved RingFault
interruption work fault = Err (Stopped (record { work = work; fault = fault }))

-- what a reservation answers, by what the disk answered to its own write and flush
abbrev pub reservation_answer : Reserved → Result (Unit {0}) DiskFault → Result Reserved RingFault
reservation_answer value (Ok done) = Ok value
reservation_answer value (Err fault) = interruption (Reservation value.series) fault

-- what an operation answers
abbrev pub answer_to : Meaning → Op → Result (Unit {0}) DiskFault
answer_to m (put i bytes) = answer_of Write m i
answer_to m (settle i) = answer_of Flush m i

-- by a disk's own relations, and its meaning
module _ {D : Type 0} (moves : Moves D) (meaning : D → Meaning) where
  -- a disk tries an operation: what it answers, and what becomes of it; where it denies it the meaning stays
  pub record Tries (d : D) (op : Op) (answer : Result (Unit {0}) DiskFault) (d' : D) : Type 0 where
    pub answers : answer_to (meaning d) op ≡ answer
    pub does :
        MatchResult answer (λ _. Performs (meaning d) op (meaning d')) (λ _. meaning d' ≡ meaning d)
    pub goes : Move moves d op d'

  -- a record is written and noted, and then flushed; nothing follows a denial
  abbrev pub Appends : Ring → D → Step → Result (Unit {0}) DiskFault → Ring → D → Type 0
  Appends r d step (Ok done) r' after =
      (between : D)
      × Tries d (put step.sector (encoded r.format.tag step.entry)) (Ok tt) between
      × Tries between (settle step.sector) (Ok tt) after
      × (r' ≡ with_noted r step.entry)
  Appends r d step (Err fault) r' after =
      (Tries d (put step.sector (encoded r.format.tag step.entry)) (Err fault) after × (r' ≡ r))
      ⊎ ((between : D)
      × Tries d (put step.sector (encoded r.format.tag step.entry)) (Ok tt) between
      × Tries between (settle step.sector) (Err fault) after
      × (r' ≡ with_noted r step.entry))

  -- from a ring and its disk to the answer and what is left of both, where a search began with this top record:
  -- what the sector after the gap asks for is carried, until it asks for nothing; then the reservation is written;
  -- nothing follows a denial
  pub data Runs (value : Reserved) (start : ℕ) :
      Ring → D → Result Reserved RingFault → Ring → D → Type 0 where
    unread :
        {r : Ring} {d : D} {fault : DiskFault} →
        carry_in r value.series start (look r (meaning d).reading) ≡ Err fault →
        Runs value start r d (Err (Disk fault)) r d
    carries :
        {r between r' : Ring} {d d' after : D} {answer : Result Reserved RingFault} (q : Record) →
        carry_in r value.series start (look r (meaning d).reading) ≡ Ok (Some q) →
        Appends r d (known_carry r q) (Ok tt) between d' →
        Runs value start between d' answer r' after →
        Runs value start r d answer r' after
    stops :
        {r r' : Ring} {d after : D} {fault : DiskFault} (q : Record) →
        carry_in r value.series start (look r (meaning d).reading) ≡ Ok (Some q) →
        Appends r d (known_carry r q) (Err fault) r' after →
        Runs value start r d (interruption (Carry q.series) fault) r' after
    reserves :
        {r r' : Ring} {d after : D} (answer : Result (Unit {0}) DiskFault) →
        carry_in r value.series start (look r (meaning d).reading) ≡ Ok None →
        Appends r d (known_reservation r value) answer r' after →
        Runs value start r d (reservation_answer value answer) r' after

  -- a reservation, as it is refused or not: one that is refused leaves the ring and the disk as they are
  unfoldable pub RunsUnlessRefused :
      Option RingFault → Reserved → Ring → D → Result Reserved RingFault → Ring → D → Type 0
  RunsUnlessRefused None value r d answer r' d' = Runs value r.known.top.0 r d answer r' d'
  RunsUnlessRefused (Some fault) value r d answer r' d' = (answer ≡ Err fault) × (r' ≡ r) × (d' ≡ d)

  -- a reservation of series s that runs on from there has run from here
  abbrev pub RunsOn : ℕ → ℕ → Ring → D → Ring → D → Type 0
  RunsOn s start r d between d' =
      (value : Reserved) → value.series ≡ s →
      (answer : Result Reserved RingFault) (r' : Ring) (after : D) →
      Runs value start between d' answer r' after → Runs value start r d answer r' after

  -- a reservation of series s that is stopped in its search
  abbrev pub RunsShort : ℕ → ℕ → Ring → D → RingFault → Ring → D → Type 0
  RunsShort s start r d fault r' after =
      (value : Reserved) → value.series ≡ s → Runs value start r d (Err fault) r' after

  -- a search of series s at its end: nothing is to be carried any more
  pub record RunsClear (s start : ℕ) (r : Ring) (d : D) (between : Ring) (d' : D) : Type 0 where
    pub clear : carry_in between s start (look between (meaning d').reading) ≡ Ok None
    pub on : RunsOn s start r d between d'

  -- a reservation of this claim that is stopped at its own write
  abbrev pub RunsStopped : Claim → ℕ → Ring → D → RingFault → Ring → D → Type 0
  RunsStopped claim start r d fault r' after =
      (value : Reserved) → value.series ≡ claim.series → value.end ≡ claim.end →
      Runs value start r d (Err fault) r' after

  -- one that is written into that sector, and is left to be flushed
  abbrev pub RunsWritten : Claim → ℕ → Ring → D → ℕ → Ring → D → Type 0
  RunsWritten claim start r d sector r' d' =
      (value : Reserved) → value.series ≡ claim.series → value.end ≡ claim.end →
      (answer : Result (Unit {0}) DiskFault) (after : D) →
      Tries d' (settle sector) answer after →
      Runs value start r d (reservation_answer value answer) r' after
