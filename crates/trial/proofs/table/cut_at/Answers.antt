use Rattle.std.proofs.Common.{◌∙◌}
use Rattle.trial.proofs.Left.{reads_newer}
use Rattle.trial.proofs.table.cut_at.Goals as goal

pub returns-in-Faithful-clause-settled : goal.returns-in-Faithful-clause-settled
returns-in-Faithful-clause-settled c t = c.left_by-left-in-Faithful.ensures.value ∙ reads_newer
