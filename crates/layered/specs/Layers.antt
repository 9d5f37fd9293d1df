-- Disks laid over another one: what each call makes of them, by what it makes of the disk below.
use Rattle.std.specs.Prelude.{◌≡◌, ℕ, ◌+◌, ◌-◌, ◌^◌, min}
use Rattle.disk.specs.Moves.{Moves}
use Rattle.layered.specs.declared.chance.ByChance.{ByChance}
use Rattle.layered.specs.declared.counted.Counted.{Counted}
use Rattle.layered.specs.declared.counted.Counts.{Counts}

-- nothing was asked so far
abbrev pub none_asked : Counts
none_asked = record { writes = 0; flushes = 0; cuts = 0 }

-- one more, as far as 64 bits go
abbrev pub one_more : ℕ → ℕ
one_more n = min (n + 1) (2 ^ 64 - 1)

-- the counts once a write, a flush or a cut was asked for
abbrev pub with_write : Counts → Counts
with_write counts = record counts { writes = one_more counts.writes }

abbrev pub with_flush : Counts → Counts
with_flush counts = record counts { flushes = one_more counts.flushes }

abbrev pub with_cut : Counts → Counts
with_cut counts = record counts { cuts = one_more counts.cuts }

-- each call, a denied one too, is counted, and the disk below goes by its own relation
abbrev pub counted_moves : {D : Type 0} → Moves D → Moves (Counted D)
counted_moves below =
    record {
      writes =
          λ d i bytes d'. below.writes d.disk i bytes d'.disk × (d'.counts ≡ with_write d.counts);
      flushes = λ d i d'. below.flushes d.disk i d'.disk × (d'.counts ≡ with_flush d.counts);
      cuts =
          λ d tear supply d'.
          below.cuts d.disk tear supply d'.disk × (d'.counts ≡ with_cut d.counts);
    }

-- where chance tears, a cut is that of the disk below with some tear; no other call asks the source
abbrev pub chance_moves : {D C : Type 0} → Moves D → Moves (ByChance D C)
chance_moves below =
    record {
      writes = λ d i bytes d'. below.writes d.disk i bytes d'.disk × (d'.chance ≡ d.chance);
      flushes = λ d i d'. below.flushes d.disk i d'.disk × (d'.chance ≡ d.chance);
      cuts = λ d _ supply d'. (tear : ℕ) × below.cuts d.disk tear supply d'.disk;
    }
