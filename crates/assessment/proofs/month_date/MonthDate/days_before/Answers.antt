use Rattle.std.proofs.Common.{◌≡◌, ℕ, ◌+◌, ◌-◌, ◌*◌, ◌≤◌, sum_by, zero, suc, ap, refl, ◌∙◌, rules, arith}
use Rattle.std.proofs.lemmas.Iterator.{YieldsList-from_map, YieldsList-from_range}
use Rattle.std.proofs.lemmas.Iterator.Consumers.{sum_by_from_yields_List, fits_by_from_yields_list}
use Rattle.std.specs.List.{range_with_len}
use Rattle.assessment.specs.Calendar.{days_in}
use Rattle.assessment.specs.Sums.{sum_to}
use Rattle.assessment.proofs.LineLaws.{days_few}
use Rattle.assessment.proofs.Running.{sum_none, sum_listed}
use Rattle.assessment.proofs.month_date.MonthDate.days_before.Goals as goal

-- the months from January on, listed
listed : (y n : ℕ) → sum_by (days_in y) (range_with_len 1 n) ≡ sum_to (days_in y) n
listed y n = let from_none : 0 + n ≡ n = omega arith in omega (arith, sum_listed (days_in y) 0 n, sum_none (days_in y), ap (sum_to (days_in y)) from_none)

few : (y n : ℕ) → sum_to (days_in y) n ≤ 31 * n
unfolding sum_to
few y zero = omega arith
few y (suc n) = omega (arith, few y n, days_few y (n + 1))

pub sum-requires-clause-fits : goal.sum-requires-clause-fits
sum-requires-clause-fits c =
    let year = c.args.self.year in
    let n = c.args.self.month - 1 in
    fits_by_from_yields_list (days_in year) (range_with_len 1 n) _ _ (YieldsList-from_map _ (days_in year) (YieldsList-from_range 1 c.args.self.month n (cc) refl) c.map.ensures.closure (λ x r q k. search rules)) (omega (arith, listed year n, few year n))

pub returns-clause-is : goal.returns-clause-is
returns-clause-is c =
    let year = c.args.self.year in
    let n = c.args.self.month - 1 in
    sum_by_from_yields_List (days_in year) (range_with_len 1 n) _ _ c.sum.ensures.ran (YieldsList-from_map _ (days_in year) (YieldsList-from_range 1 c.args.self.month n (cc) refl) c.map.ensures.closure (λ x r q k. search rules)) ∙ listed year n

pub returns-clause-few : goal.returns-clause-few
returns-clause-few c = omega (arith, returns-clause-is c, few c.args.self.year (c.args.self.month - 1))
