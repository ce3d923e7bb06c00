use Rattle.std.proofs.Common.{◌∙◌, refl, rules}
use Rattle.std.proofs.lemmas.Iterator.{YieldsList-from_range}
use Rattle.std.proofs.lemmas.Iterator.Search.{any_from_yields_List}
use Rattle.assessment.proofs.Running.{any_listed}
use Rattle.assessment.proofs.month.rule_has_hours.Goals as goal

pub returns : goal.returns
returns g c =
    let assesses = (g.R.AvailabilityRule.means c.args.rule.now).assesses c.args.day.now.settings.month c.args.category.number c.args.day.now.day in
    any_from_yields_List assesses _ _ _ c.any.ensures.ran (YieldsList-from_range 1 25 24 refl refl) (λ x b q k. search rules) ∙ any_listed assesses 24
