-- A time that passes the tests makes its lease.
use Rattle.kind.specs.declared.fault.SettingFault.TheVariants as fault
use Rattle.kind.specs.declared.time.TheConstants.{LONGEST}
use Rattle.kind.proofs.Ranges.{within_made}
use Rattle.kind.proofs.time.Lease.new.Goals as goal

pub returns : goal.returns
returns c = within_made 1 LONGEST c.args.milliseconds fault.Lease (λ fits. record { milliseconds = c.args.milliseconds; in_range = fits }) _
