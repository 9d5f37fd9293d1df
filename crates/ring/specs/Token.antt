-- A reservation that was written, by what its flush answers, and the blocks that ranks are drawn from once it is flushed.
use Rattle.std.specs.Prelude.{◌≡◌, ℕ, ◌+◌, ◌<◌, ◌≤◌, max, if◌then◌else◌, List, map, Some, None, Ok, Err, Option, Result, ◌==◌, nat_lt, slice_index_or, slice_set}
use Rattle.record.specs.declared.numbers.Rank.{Rank}
use Rattle.record.specs.declared.sector.Record.{Record}
use Rattle.disk.specs.declared.fault.DiskFault.{DiskFault}
use Rattle.ring.specs.declared.token.Block.{Block}
use Rattle.ring.specs.declared.token.Blocks.{Blocks}
use Rattle.ring.specs.declared.token.Drawn.{Drawn}
use Rattle.ring.specs.declared.token.Reserved.{Reserved}
use Rattle.ring.specs.declared.token.Unconfirmed.{Unconfirmed}
use Rattle.ring.specs.declared.token.Written.{Written}

-- whether it was done, without what it was answered with
abbrev pub done : {A E : Type 0} → Result A E → Result (Unit {0}) E
done (Ok value) = Ok tt
done (Err fault) = Err fault

-- a reservation whose record was written into a sector, with the first rank that is newly reserved
abbrev pub written_in : Record → Rank → ℕ → Written
written_in entry start sector =
    record {
      claim = record { series = entry.series; end = entry.end };
      start = start;
      sector = sector;
    }

-- it is confirmed, or comes back with the fault
abbrev pub confirm : Written → Result (Unit {0}) DiskFault → Result Reserved Unconfirmed
confirm w (Ok done) = Ok (record { series = w.claim.series; start = w.start; end = w.claim.end })
confirm w (Err fault) = Err (record { written = w; fault = fault })

-- a block that gives no rank
abbrev pub empty_block : Rank → Block
empty_block end = record { next = end; end = end }

-- blocks that give no rank, by the ends of their series
abbrev pub empty_blocks : List Rank → Blocks
empty_blocks ends = record { 0 = map empty_block ends }

-- the block of a series, an empty one past the last
abbrev pub block_in : Blocks → ℕ → Block
block_in blocks s = slice_index_or blocks.0 s (empty_block (record { 0 = 0 }))

-- the blocks with another one of a series
abbrev pub with_block : Blocks → ℕ → Block → Blocks
with_block blocks s block = record { 0 = slice_set blocks.0 s block }

-- the next ranks of all blocks
abbrev pub block_nexts : Blocks → List Rank
block_nexts blocks = map (λ (block : Block). block.next) blocks.0

-- the ends of all blocks
abbrev pub block_ends : Blocks → List Rank
block_ends blocks = map (λ (block : Block). block.end) blocks.0

-- a block with the ranks from a start up to an end: it goes on where it ends at the start, and begins there otherwise,
-- but never below its next rank
abbrev pub extend : Rank → Rank → Block → Block
extend start end b =
    record {
      next = if b.end.0 == start.0 then b.next else record { 0 = max b.next.0 start.0 };
      end = end;
    }

-- the blocks with the ranks of a reservation, which its own series takes over
abbrev pub fill : Reserved → Blocks → Blocks
fill r blocks = with_block blocks r.series (extend r.start r.end (block_in blocks r.series))

-- the rank that a block gives: the next one, but none below a least one, if that is below its end
abbrev pub rank_of : Rank → Block → Option Rank
rank_of least b =
    if nat_lt (max b.next.0 least.0) b.end.0
    then Some (record { 0 = max b.next.0 least.0 })
    else None

-- what is drawn of a series
abbrev pub drawn_rank : ℕ → Option Rank → Option Drawn
drawn_rank s None = None
drawn_rank s (Some rank) = Some (record { series = s; rank = rank })

abbrev pub draw : ℕ → Rank → Blocks → Option Drawn
draw s least blocks = drawn_rank s (rank_of least (block_in blocks s))

-- a block that gave a rank, if it gave one: it goes on above that
abbrev pub after_rank : Option Rank → Block → Block
after_rank None b = b
after_rank (Some rank) b = record { next = record { 0 = rank.0 + 1 }; end = b.end }

-- the blocks after a draw
abbrev pub after_draw : Option Drawn → Blocks → Blocks
after_draw None blocks = blocks
after_draw (Some d) blocks =
    with_block blocks d.series (after_rank (Some d.rank) (block_in blocks d.series))

-- a rank that may still come out of the block of a series
abbrev pub Holds : Blocks → ℕ → ℕ → Type 0
Holds blocks s rank = ((block_in blocks s).next.0 ≤ rank) × (rank < (block_in blocks s).end.0)

-- a rank of a series that a reservation newly reserves
abbrev pub Covers : Reserved → ℕ → ℕ → Type 0
Covers r s rank = (s ≡ r.series) × (r.start.0 ≤ rank) × (rank < r.end.0)
