-- What holds of a server between calls: while it is up, and while it is down since the disk went dark.
use Rattle.std.proofs.Common.{◌≡◌, ℕ, ◌+◌, ◌<◌, ◌≤◌, max, true, false, cond, ◌&&◌, eqb, List, ◌∷◌, length, Some, None}
use Rattle.disk.specs.Meaning.{Meaning, Cut}
use Rattle.kind.specs.Meaning.{Numbering}
use Rattle.ring.specs.Left.{Left}
use Rattle.ring.specs.Ring.{top, Agrees}
use Rattle.history.specs.History.{Event, latest, end_in, next, floor_since, after_last, cuts_since, lost, loss, dark, writes, standing, top_record}
use Rattle.server.specs.Rules.{format, Range, end_at, next_at}
use Rattle.server.specs.declared.state.State.{State}
use Rattle.server.specs.declared.state.State.TheVariants.{Up as Awake, Down}
use Rattle.server.specs.declared.state.Up.{Up}
use Rattle.history.proofs.Series.{Series, Counted, InBlocks}

-- up: what the ring knows is what the disk reads and keeps, and every series is in order
pub record IsUp (k : Numbering) (start : Meaning) (past : List Event) (u : Up) : Type 0 where
  pub lit : dark k start past ≡ false
  pub agrees : Agrees u.ring (latest start past)
  pub form : u.ring.format ≡ format k start
  pub kept : (latest start past).kept ≡ (latest start past).reading
  pub eight : length u.blocks.0 ≡ 8
  pub nexts : (s : ℕ) → s < 8 → next_at u s ≡ next k start s past
  pub ends : (s : ℕ) → s < 8 → end_at u s ≡ end_in k start (latest start past) s
  pub series : (s : ℕ) → s < 8 → Series k start past s (end_in k start (latest start past) s)
  pub tops : top_record k start past ≤ writes k start past

-- down: one reservation is pending, and whatever a cut leaves, it stands or nothing of it does
pub record IsDown (k : Numbering) (start : Meaning) (past : List Event) : Type 0 where
  pub unlit : dark k start past ≡ true
  pub base : Meaning
  pub pending : ℕ
  pub claimed : Range
  pub one_of_eight : pending < 8
  pub leaves :
      (left : Meaning) (supply : ℕ) → Cut (latest start past) supply left →
      Left (format k start) pending claimed.end base.reading left.reading
  pub tops :
      (left : Meaning) (supply : ℕ) → Cut (latest start past) supply left →
      top (format k start) left.reading ≤ writes k start past
  pub read_tops : top_record k start past ≤ writes k start past
  pub series : (s : ℕ) → s < 8 → Series k start past s (end_in k start base s)
  pub above : end_in k start base pending < claimed.end
  pub most :
      claimed.end ≤ max (after_last k start pending past) (floor_since k pending past) + loss k past (cuts_since pending past) + lost k past
  pub stands :
      (s : ℕ) (left : Meaning) →
      standing k start s (Some left) past
      ≡ cond (eqb pending s && eqb (end_in k start left s) claimed.end) (claimed ∷ standing k start s None past) (standing k start s None past)
  -- as it would be if it stood
  pub counted : InBlocks k past → Counted k claimed.end (claimed ∷ standing k start pending None past)

abbrev pub Invariant : Numbering → Meaning → List Event → State → Type 0
Invariant k start past (Awake u) = IsUp k start past u
Invariant k start past (Down fault) = IsDown k start past
