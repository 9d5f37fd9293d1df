-- The table is the list of what eight steps make of 0 to 255: antt computes it whole.
use Rattle.std.proofs.Common.{arith}
use Rattle.std.proofs.lemmas.List.FromFn.{get_or-map-range_with_len}
use Rattle.record.specs.Crc.{shift, shifts}
use Rattle.record.proofs.crc.entry.Goals as goal

pub returns : goal.returns
unfolding shift shifts
returns c = get_or-map-range_with_len (shifts 8) 0 256 c.args.low c.args.low 0 (omega arith) (omega arith)
