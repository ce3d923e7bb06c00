use Rattle.std.proofs.Common.{◌≡◌, ◌∙◌, ap, refl}
use Rattle.assessment.specs.Sums.{sum_to}
use Rattle.assessment.specs.Calendar.{work_days}
use Rattle.assessment.specs.Days.{day_figures}
use Rattle.assessment.specs.Known.{june_2018}
use Rattle.assessment.proofs.known.june_2018_work_days.Goals as goal

pub returns : goal.returns
unfolding sum_to day_figures
returns c =
    let month : c.unwrap.result.month ≡ june_2018 = rw c.unwrap.ensures at c.new.ensures in
    record { figures = refl; counted = c.work_days.ensures.is ∙ ap work_days month }
