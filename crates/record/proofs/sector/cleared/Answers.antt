-- antt computes the checksum of 28 zero bytes.
use Rattle.std.proofs.Common.{refl}
use Rattle.record.specs.Crc.{crc, register, feed, shifts, shift}
use Rattle.record.specs.Sector.{content, sound, little}
use Rattle.record.proofs.sector.cleared.Goals as goal

pub returns : goal.returns
unfolding content sound little crc register feed shifts shift
returns c = record { bytes = refl; blank = λ f i. refl }
