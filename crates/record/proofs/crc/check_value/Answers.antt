-- antt computes both checksums from the definition.
use Rattle.std.proofs.Common.{refl, ◌∙◌}
use Rattle.record.specs.Crc.{crc, register, feed, shifts, shift, CheckValues}
use Rattle.record.proofs.crc.check_value.Goals as goal

check_values : CheckValues
unfolding crc register feed shifts shift
check_values = (refl, refl)

pub returns : goal.returns
returns c = record { value = c.crc32.ensures ∙ check_values.0; of_the_definition = check_values }
