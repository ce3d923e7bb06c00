use Rattle.std.proofs.Common.{◌≡◌, ◌+◌, ◌≤◌, length, drop}
use Rattle.assessment.specs.Pairs.{rules_of}
use Rattle.assessment.specs.Days.{day_case, hours_to}
use Rattle.assessment.specs.Totals.{totals_of}
use Rattle.pools.specs.PerPool.{entry_of}
use Rattle.pools.specs.declared.pool.Pool.{Pool}
use Rattle.assessment.proofs.rule_pair.RulePair.assess_hours.Given as goal

abbrev pub invariant-loop-hour : goal.invariant-loop-hour
invariant-loop-hour g l =
    let rules = rules_of g.G.AvailabilityRule.means g.F.AvailabilityRule.means l.self in
    let case = day_case l.submitted in
    let passed = length l.yielded in
    record {
      pools : (p : Pool) → totals_of (entry_of l.totals p) ≡ hours_to rules case p passed;
      within : passed ≤ 24;
      ending : l.hour-iterator.a.start ≡ passed + 1;
      left : l.hour-iterator.b.rest.now ≡ drop passed l.submitted.record.submission.hours;
    }
