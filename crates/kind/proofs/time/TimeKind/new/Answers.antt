-- A number that passes the test makes its kind.
use Rattle.kind.specs.declared.fault.SettingFault.TheVariants as fault
use Rattle.kind.specs.declared.time.TheConstants.{LAST_BOX}
use Rattle.kind.proofs.Ranges.{within_made}
use Rattle.kind.proofs.time.TimeKind.new.Goals as goal

pub returns : goal.returns
returns c =
    within_made 0 LAST_BOX c.args.box_number fault.Box
    (λ fits. record { lease = c.args.lease; box_number = c.args.box_number; correction = c.args.correction; in_range = fits }) _
