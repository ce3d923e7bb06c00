use Rattle.assessment.specs.Pairs.{rules_of}
use Rattle.assessment.specs.Days.{day_case}
use Rattle.assessment.specs.Laws.{RulesOwed}
use Rattle.pools.specs.declared.pool.Pool.TheVariants.{Generic, Flexible}
use Rattle.assessment.proofs.Daily.{day_is}
use Rattle.assessment.proofs.DayLaws.{day_law, little_lost}
use Rattle.assessment.proofs.rule_pair.RulePair.assess_day.Goals as goal

pub returns : goal.returns
returns g c =
    let rules = rules_of g.G.AvailabilityRule.means g.F.AvailabilityRule.means c.args.self.now in
    let case = day_case c.args.submitted.now in
    let totals = c.assess_hours-totals.ensures in
    let G = g.met.G.AvailabilityRule in
    let F = g.met.F.AvailabilityRule in
    let owed : RulesOwed rules = record {
      generic = record { economic = G.economic c.args.self.now.generic; scheduled = G.scheduled c.args.self.now.generic; taken = G.taken c.args.self.now.generic };
      flexible = record { economic = F.economic c.args.self.now.flexible; scheduled = F.scheduled c.args.self.now.flexible; taken = F.taken c.args.self.now.flexible };
    } in
    record {
      is = day_is rules case _ _ _ _ _ (totals Generic) (totals Flexible) c.larger_net-largest.ensures c.pool_day.ensures.is c.pool_day-2.ensures.is;
      law = day_law rules case owed;
      little_lost = little_lost rules case;
    }
