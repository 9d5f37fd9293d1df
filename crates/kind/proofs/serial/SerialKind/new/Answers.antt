-- A size that passes the tests makes its kind.
use Rattle.kind.specs.declared.fault.SettingFault.TheVariants.{BlockSize}
use Rattle.kind.specs.declared.serial.TheConstants.{LARGEST}
use Rattle.kind.proofs.Ranges.{within_made}
use Rattle.kind.proofs.serial.SerialKind.new.Goals as goal

pub returns : goal.returns
returns c = within_made 1 LARGEST c.args.size BlockSize (λ fits. record { size = c.args.size; in_range = fits }) _
