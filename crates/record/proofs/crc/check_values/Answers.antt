-- antt computes both checksums from the definition.
use Rattle.std.proofs.Common.{refl}
use Rattle.record.specs.Crc.{crc, register, feed, shifts, shift}
use Rattle.record.proofs.crc.check_values.Goals as goal

pub returns : goal.returns
unfolding crc register feed shifts shift
returns _ = (refl, refl)
