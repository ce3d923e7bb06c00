use Rattle.std.proofs.Common.{refl}
use Rattle.assessment.specs.Sums.{sum_to}
use Rattle.assessment.specs.Days.{day_figures}
use Rattle.settlement.proofs.known.rate_for_three_lines.Goals as goal

pub returns-clause-figures : goal.returns-clause-figures
unfolding sum_to day_figures
returns-clause-figures c = refl
