use Rattle.std.proofs.Common.{◌≡◌, ◌<◌, ◌≤◌, ◌+◌, length, get_or, sym, ap, subst, arith, below_more, rules, None}
use Rattle.assessment.specs.Pairs.{rules_of}
use Rattle.assessment.specs.Laws.{LinesLaw}
use Rattle.assessment.specs.Lines.{RowsWithin, figures_in, assessed_days, lines_of}
use Rattle.assessment.specs.Figures.{DayFigures, MonthLines}
use Rattle.assessment.proofs.Monthly.{Summed, summed_more, summed_all, row_within}
use Rattle.assessment.proofs.Pools.{each_pool, same_entries}
use Rattle.assessment.proofs.LineLaws.{lines_law}
use Rattle.pools.specs.PerPool.{entry_of}
use Rattle.pools.specs.declared.pool.Pool.{Pool}
use Rattle.pools.specs.declared.pool.Pool.TheVariants.{Generic, Flexible}
use Rattle.assessment.proofs.rule_pair.RulePair.month_lines.Goals as goal

pub loop-row-preserved : goal.loop-row-preserved
loop-row-preserved g c =
    let i = c.loop-row.invariant in
    let day = c.in_ok-day.day in
    let rows = c.args.rows.now in
    let row = get_or rows c.loop-row.row-index None in
    let is : day.figures ≡ figures_in row = rw c.in_ok-day.was at c.of_row.ensures in
    let lt : c.loop-row.row-index < length rows = c.loop-row-test.true in
    let more = λ (p : Pool). summed_more p rows _ None _ (entry_of day.figures p) (entry_of c.of-sums.result p).watts (i.pools p) lt (ap (λ (f : DayFigures). entry_of f p) is) (day.within p) in record {
      pools = each_pool (λ p. Summed p rows (c.loop-row.row-index + 1) (entry_of c.of-sums.result p).watts) (more Generic (search rules)) (more Flexible (search rules));
      within = below_more _ _ i.within (row_within row day.figures is day.within);
    }

pub returns : goal.returns
returns g c =
    let asked = rules_of g.G.AvailabilityRule.means g.F.AvailabilityRule.means c.args.self.now in
    let month = c.args.settings.now.month in
    let category = c.args.category.number in
    let rows = c.args.rows.now in
    let i = c.loop-row.invariant in
    let all : length rows ≤ c.loop-row.row-index = c.loop-row-test.false in
    let within : RowsWithin rows = (c.if-rows-ne-DAY_PLACES.false, λ k lt. i.within k (omega arith)) in
    let generic = summed_all Generic rows _ _ _ (assessed_days asked.generic month category) c.of.result.generic (i.pools Generic) all c.days_assessed.ensures (search rules) in
    let flexible = summed_all Flexible rows _ _ _ (assessed_days asked.flexible month category) c.of.result.flexible (i.pools Flexible) all c.days_assessed-2.ensures (search rules) in
    let is : ◌≡◌ {A = MonthLines} c.of.result (lines_of asked month category rows) = same_entries _ _ generic flexible in
    record { is = (within, is); law = subst LinesLaw (sym is) (lines_law asked month category rows within) }
