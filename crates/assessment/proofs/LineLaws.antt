-- The laws of a resource's two lines.
use Rattle.std.proofs.Common.{ℕ, zero, suc, ◌+◌, ◌-◌, ◌*◌, ◌/◌, ◌<◌, ◌≤◌, List, length, get_or, take, refl, subst, add-one, arith, take_all, None}
use Rattle.std.proofs.lemmas.Bool.Decides.{nat_tests}
use Rattle.assessment.specs.Calendar.{days_in, days_of}
use Rattle.assessment.specs.Rules.{Rule}
use Rattle.assessment.specs.Days.{Rules}
use Rattle.assessment.specs.Laws.{LineLaw, LinesLaw}
use Rattle.assessment.specs.Lines.{figures_in, RowsWithin, has_hours, assessed_days, state_of, quantity_in, line_of, pool_line, lines_of}
use Rattle.assessment.specs.declared.trade_month.TradeMonth.{TradeMonth}
use Rattle.assessment.specs.Figures.{DayRow}
use Rattle.assessment.specs.declared.line.LineState.{LineState}
use Rattle.assessment.specs.declared.line.LineState.TheVariants.{Empty, Charged, Neutral, Paid}
use Rattle.assessment.proofs.Running.{count_le}
use Rattle.assessment.proofs.Watts.{div_mono}
use Rattle.assessment.proofs.Monthly.{Summed, sums_over, sums_more, summed_none, summed_more}
use Rattle.pools.specs.PerPool.{entry_of}
use Rattle.pools.specs.declared.pool.Pool.{Pool}
use Rattle.pools.specs.declared.pool.Pool.TheVariants.{Generic, Flexible}

-- an average over some days is at most a thousandth of the sum
average_small : (x n : ℕ) → x / (1000 * n) ≤ x / 1000
average_small x n = grind arith

quantity_small : (s : LineState) (o a n : ℕ) → a ≤ o → o ≤ 62000000000 → quantity_in s o a n ≤ 58590000000
quantity_small Empty o a n h k = omega arith
quantity_small Charged o a n h k = omega (arith, average_small (945 * o - 1000 * a) n)
quantity_small Neutral o a n h k = omega arith
quantity_small Paid o a n h k = omega (arith, average_small (1000 * a - 985 * o) n)

-- a charged quantity leaves out what was available, and a paid one counts at most what was owed
line_law : (o a n : ℕ) → a ≤ o → o ≤ 62000000000 → n ≤ 31 → LineLaw (line_of o a n)
line_law o a n h k f = record {
  within = h;
  capped = k;
  few = f;
  small = quantity_small (state_of o a n) o a n h k;
  charged_within = λ e. rw e (div_mono (945 * o - 1000 * a) (945 * o) (1000 * n) (omega arith));
  paid_within = λ e. rw e (div_mono (1000 * a - 985 * o) (15 * o) (1000 * n) (omega arith));
}

pub days_few : (y m : ℕ) → days_in y m ≤ 31
days_few y m = grind (arith, nat_tests)

summed_to : (p : Pool) (rows : List DayRow) → RowsWithin rows → (i : ℕ) → i ≤ 31 → Summed p rows i (sums_over p (take i rows))
summed_to p rows w zero h = summed_none p rows
summed_to p rows w (suc i) h =
    let lt : i < length rows = omega (arith, w.0) in
    let row = get_or rows i None in
    let more = summed_more p rows i None _ (entry_of (figures_in row) p) (sums_over p (take (i + 1) rows)) (summed_to p rows w i (omega arith)) lt refl (w.1 i (omega arith) p) (sums_more p rows i None lt) in
    subst (λ j. Summed p rows j (sums_over p (take j rows))) (add-one i) more

-- of rows within their limits
pool_law : (p : Pool) (r : Rule) (m : TradeMonth) (category : ℕ) (rows : List DayRow) → RowsWithin rows → LineLaw (pool_line (λ f. entry_of f p) r m category rows)
pool_law p r m category rows w =
    let few : assessed_days r m category ≤ 31 = omega (arith, count_le (has_hours r m category) (days_of m), days_few m.year m.month) in
    let short : length rows ≤ 31 = omega (arith, w.0) in
    let s = subst (λ xs. Summed p rows 31 (sums_over p xs)) (take_all 31 rows short) (summed_to p rows w 31 (omega arith)) in
    line_law (sums_over p rows).obligation (sums_over p rows).availability (assessed_days r m category) s.within (omega (arith, s.capped)) few

pub lines_law : (r : Rules) (m : TradeMonth) (category : ℕ) (rows : List DayRow) → RowsWithin rows → LinesLaw (lines_of r m category rows)
lines_law r m category rows w = record { generic = pool_law Generic r.generic m category rows w; flexible = pool_law Flexible r.flexible m category rows w }
