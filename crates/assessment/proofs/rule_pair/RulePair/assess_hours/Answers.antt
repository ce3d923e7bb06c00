use Rattle.std.proofs.Common.{◌≡◌, ◌+◌, ◌≤◌, sym, ◌∙◌, arith, rules, length}
use Rattle.std.proofs.iter.Serving.{serving}
use Rattle.std.proofs.lemmas.List.{length_push}
use Rattle.assessment.specs.Pairs.{rules_of}
use Rattle.assessment.specs.Days.{day_case, hours_to}
use Rattle.assessment.specs.Totals.{totals_of}
use Rattle.assessment.proofs.Hourly.{next_hour, none_yet, pool_more, pool_fit}
use Rattle.assessment.proofs.Pools.{each_pool}
use Rattle.pools.specs.PerPool.{entry_of}
use Rattle.pools.specs.declared.pool.Pool.{Pool}
use Rattle.pools.specs.declared.pool.Pool.TheVariants.{Generic, Flexible}
use Rattle.assessment.proofs.rule_pair.RulePair.assess_hours.Goals as goal

pub loop-hour-init : goal.loop-hour-init
loop-hour-init g c =
    let asked = rules_of g.G.AvailabilityRule.means g.F.AvailabilityRule.means c.args.self.now in
    let case = day_case c.args.submitted.now in
    record {
      pools = each_pool (λ p. totals_of (entry_of c.default-totals.result p) ≡ hours_to asked case p 0) (search (rules, none_yet)) (search (rules, none_yet));
      within = omega arith;
      ending = cc;
      left = cc;
    }

pub of-totals-requires : goal.of-totals-requires
of-totals-requires g c =
    let asked = rules_of g.G.AvailabilityRule.means g.F.AvailabilityRule.means c.args.self.now in
    let case = day_case c.args.submitted.now in
    let i = c.loop-hour.invariant in
    let next = next_hour case.submission _ _ _ (sym i.left ∙ c.in-Some.ensures.steps.1) in
    let fit : (p : Pool) → (entry_of c.loop-hour.totals p).hours + (entry_of c.assess_hour-in_hour.result p).hours ≤ 24 =
    λ p. pool_fit asked case p _ _ _ _ _ (i.pools p) (c.assess_hour-in_hour.ensures p) (omega (arith, next.0)) in
    grind (serving, fit)

pub loop-hour-preserved : goal.loop-hour-preserved
loop-hour-preserved g c =
    let asked = rules_of g.G.AvailabilityRule.means g.F.AvailabilityRule.means c.args.self.now in
    let case = day_case c.args.submitted.now in
    let i = c.loop-hour.invariant in
    let steps = c.in-Some.ensures.steps in
    let next = next_hour case.submission _ _ _ (sym i.left ∙ steps.1) in
    let hour = steps.0.0 ∙ i.ending in
    let more = λ (p : Pool). pool_more asked case p _ _ _ _ _ (totals_of (entry_of c.of-totals.result p)) (i.pools p) (c.assess_hour-in_hour.ensures p) hour next.1 in
    rw (length_push c.loop-hour.yielded (c.in-Some.hour, c.in-Some.bids)) (record {
      pools = each_pool (λ p. totals_of (entry_of c.of-totals.result p) ≡ hours_to asked case p (length c.loop-hour.yielded + 1)) (more Generic (search rules)) (more Flexible (search rules));
      within = omega (arith, next.0);
      ending = omega (arith, hour, steps.0.1);
      left = next.2;
    })
