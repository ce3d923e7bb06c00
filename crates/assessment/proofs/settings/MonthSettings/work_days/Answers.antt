use Rattle.std.proofs.Common.{◌+◌, rules, arith}
use Rattle.std.proofs.lemmas.Iterator.{YieldsList-from_map, YieldsList-from_range}
use Rattle.std.proofs.lemmas.Iterator.Consumers.{sum_by_from_yields_List, fits_by_from_yields_list}
use Rattle.std.specs.List.{range_with_len}
use Rattle.assessment.specs.Calendar.{works, days_of}
use Rattle.assessment.proofs.LineLaws.{days_few}
use Rattle.assessment.proofs.Running.{one, count_le, count_listed, days_summed}
use Rattle.assessment.proofs.settings.MonthSettings.work_days.Goals as goal

pub sum-requires-clause-fits : goal.sum-requires-clause-fits
sum-requires-clause-fits c =
    let settings = c.args.self.now in
    let works_on = works settings.month in
    let n = settings.days in
    fits_by_from_yields_list (one works_on) (range_with_len 1 n) _ _ (YieldsList-from_map _ (one works_on) (YieldsList-from_range 1 (n + 1) n (cc) (omega arith)) c.map.ensures.closure (λ d r q k. search rules)) (omega (arith, count_listed works_on n, count_le works_on n, settings.days_are, days_few settings.month.year settings.month.month))

pub returns : goal.returns
returns c =
    let settings = c.args.self.now in
    let works_on = works settings.month in
    let n = settings.days in
    let is = days_summed works_on settings _ (sum_by_from_yields_List (one works_on) (range_with_len 1 n) _ _ c.sum.ensures.ran (YieldsList-from_map _ (one works_on) (YieldsList-from_range 1 (n + 1) n (cc) (omega arith)) c.map.ensures.closure (λ d r q k. search rules))) in
    record { is = is; few = omega (arith, is, count_le works_on (days_of settings.month), days_few settings.month.year settings.month.month) }
