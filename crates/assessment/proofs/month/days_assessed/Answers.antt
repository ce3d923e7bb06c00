use Rattle.std.proofs.Common.{◌+◌, rules, arith}
use Rattle.std.proofs.lemmas.Iterator.{YieldsList-from_map, YieldsList-from_range}
use Rattle.std.proofs.lemmas.Iterator.Consumers.{sum_by_from_yields_List, fits_by_from_yields_list}
use Rattle.std.specs.List.{range_with_len}
use Rattle.assessment.specs.Lines.{has_hours}
use Rattle.assessment.proofs.LineLaws.{days_few}
use Rattle.assessment.proofs.Running.{one, count_le, count_listed, days_summed}
use Rattle.assessment.proofs.month.days_assessed.Goals as goal

pub sum-requires-clause-fits : goal.sum-requires-clause-fits
sum-requires-clause-fits g c =
    let settings = c.args.settings.now in
    let assessed = has_hours (g.R.AvailabilityRule.means c.args.rule.now) settings.month c.args.category.number in
    let n = settings.days in
    fits_by_from_yields_list (one assessed) (range_with_len 1 n) _ _ (YieldsList-from_map _ (one assessed) (YieldsList-from_range 1 (n + 1) n (cc) (omega arith)) c.map.ensures.closure (λ d r q k. search rules)) (omega (arith, count_listed assessed n, count_le assessed n, settings.days_are, days_few settings.month.year settings.month.month))

pub returns : goal.returns
returns g c =
    let settings = c.args.settings.now in
    let assessed = has_hours (g.R.AvailabilityRule.means c.args.rule.now) settings.month c.args.category.number in
    let n = settings.days in
    days_summed assessed settings _ (sum_by_from_yields_List (one assessed) (range_with_len 1 n) _ _ c.sum.ensures.ran (YieldsList-from_map _ (one assessed) (YieldsList-from_range 1 (n + 1) n (cc) (omega arith)) c.map.ensures.closure (λ d r q k. search rules)))
