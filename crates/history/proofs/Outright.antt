-- What calls promise outright that begin on a disk without records; and hi/lo of every call of a history.
use Rattle.std.proofs.Common.{◌≡◌, ℕ, List, [], ◌∷◌, Some, Ok, Err, refl, ap, ◌∙◌, subst}
use Rattle.std.specs.List.{fold}
use Rattle.disk.specs.Blank.{Unwritten, WithoutRecords, cleared}
use Rattle.disk.specs.Devices.{Stands, stands, after_cut, memory_disk, memory_moves}
use Rattle.disk.specs.Holding.{Holding}
use Rattle.disk.specs.declared.memory.MemoryDisk.{MemoryDisk}
use Rattle.disk.specs.Meaning.{Meaning}
use Rattle.disk.specs.Moves.{Moves}
use Rattle.kind.specs.Meaning.{Numbering}
use Rattle.ring.specs.Operations.{Op, put, settle, Move}
use Rattle.ring.proofs.Determined.{determined}
use Rattle.server.specs.Rules.{one}
use Rattle.server.specs.declared.state.State.{State}
use Rattle.history.specs.History.{Event, request, cut, tried_by}
use Rattle.history.specs.Made.{Ran, RanFrom, RanBlank, RanSerially, stood_after_try, stood_after}
use Rattle.history.specs.Promise.{FloorsZero, Obeys, HiLoThroughout, GoesOver}
use Rattle.history.specs.declared.calls.Turn.{Turn}

-- without records, whatever else it is
unwritten : (m : Meaning) → WithoutRecords m → Unwritten m
unwritten m without = record { kept = without.kept; blank = without.blank }

-- the laws of what was made on a disk without records
pub ran_from :
    {D : Type 0} {moves : Moves D} {meaning : D → Meaning} {k : Numbering} {start : Meaning} {turns after : List Turn} {state : State} {d : D}
    (first : D) → meaning first ≡ start → WithoutRecords (meaning first) → Ran moves meaning k first turns after state d →
    RanFrom moves meaning k start turns after state d
ran_from {D} {moves} {meaning} {k} {start} {turns} {after} {state} {d} first is without ran =
    let kept = ran.obeys (unwritten (meaning first) without) in
    record {
      first = first;
      began = is;
      history = ran.history;
      asked = ran.asked;
      answered = ran.answered;
      reached = ran.reached;
      obeys = subst (λ (m : Meaning). Obeys k m ran.history) is kept.0;
      goes = kept.1;
    }

-- where every floor is 0, each identifier obeys hi/lo
hi_lo_throughout : (k : Numbering) (start : Meaning) → FloorsZero k → (history : List Event) → Obeys k start history → HiLoThroughout k start history
hi_lo_throughout k start zeros [] obeys = tt
hi_lo_throughout k start zeros (request s reading (Ok x) after ∷ past) obeys =
    (obeys.0.hi_lo zeros x refl, hi_lo_throughout k start zeros past obeys.1)
hi_lo_throughout k start zeros (request s reading (Err fault) after ∷ past) obeys = hi_lo_throughout k start zeros past obeys.1
hi_lo_throughout k start zeros (cut tear supply answer after ∷ past) obeys = hi_lo_throughout k start zeros past obeys.1

-- each operation of a disk over memory is an equation
stands_after_try :
    {H : Type 0} (w : Holding H) (d d' : MemoryDisk H) (op : Op) → Unit {0} → Move (memory_moves w) d op d' →
    Unit {0} × (stands d' ≡ stood_after_try w (stands d) op)
stands_after_try w d d' (put i bytes) kept move = (tt, move)
stands_after_try w d d' (settle i) kept move = (tt, move)

-- a disk over memory goes over to the one that is told
stands_after :
    {H : Type 0} (w : Holding H) (k : Numbering) (first : MemoryDisk H) (history : List Event) (d : MemoryDisk H) →
    GoesOver (memory_moves w) (memory_disk w.before) k first history d →
    stands d ≡ stood_after w k (memory_disk w.before first) (stands first) history
stands_after w k first [] d goes = ap stands goes
stands_after w k first (cut tear supply answer after ∷ past) d goes =
    goes.2 ∙ ap (λ x. after_cut w x tear supply) (stands_after w k first past goes.0 goes.1)
stands_after w k first (request s reading answer after ∷ past) d goes =
    (determined (memory_moves w) (λ d'. Unit {0}) stands (stood_after_try w) (stands_after_try w) goes.0 d _ tt goes.2).1
    ∙ ap (λ x. fold (stood_after_try w) x (tried_by k (memory_disk w.before first) past x.supply (Some (one s reading))))
    (stands_after w k first past goes.0 goes.1)

-- how a disk over memory stands, by what it means and what it holds back
abbrev stand : {H : Type 0} → Meaning → H → Stands H
stand m held = record { reading = m.reading; beyond = m.beyond; held = held; supply = m.supply }

pub ran_blank :
    {H : Type 0} {w : Holding H} {k : Numbering} {sectors supply : ℕ} {turns after : List Turn} {state : State} {d : MemoryDisk H}
    (first : MemoryDisk H) → memory_disk w.before first ≡ cleared sectors supply → first.held ≡ w.nothing → WithoutRecords (memory_disk w.before first) →
    Ran (memory_moves w) (memory_disk w.before) k first turns after state d → RanBlank w k sectors supply turns after state d
unfolding ran_from
ran_blank {H} {w} {k} {sectors} {supply} {turns} {after} {state} {d} first is none without ran =
    record {
      ran = ran_from first is without ran;
      exact =
          stands_after w k first ran.history d (ran.obeys (unwritten (memory_disk w.before first) without)).1
          ∙ ap (λ (m : Meaning). stood_after w k m (stand (memory_disk w.before first) first.held) ran.history) is
          ∙ ap (λ (m : Meaning). stood_after w k (cleared sectors supply) (stand m first.held) ran.history) is
          ∙ ap (λ (held : H). stood_after w k (cleared sectors supply) (stand (cleared sectors supply) held) ran.history) none;
    }

pub ran_serially :
    {H : Type 0} {w : Holding H} {k : Numbering} {sectors supply : ℕ} {turns after : List Turn} {state : State} {d : MemoryDisk H} →
    FloorsZero k → RanBlank w k sectors supply turns after state d → RanSerially w k sectors supply turns after state d
ran_serially {H} {w} {k} {sectors} {supply} zeros blank =
    record { blank = blank; hi_lo = hi_lo_throughout k (cleared sectors supply) zeros blank.ran.history blank.ran.obeys }
