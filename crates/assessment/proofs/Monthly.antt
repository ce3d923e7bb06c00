-- A month's sums over the rows of its days.
use Rattle.std.proofs.Common.{◌≡◌, ℕ, ◌+◌, ◌*◌, ◌<◌, ◌≤◌, List, length, get_or, take, refl, ap, ◌∙◌, subst, arith, take_all}
use Rattle.std.proofs.lemmas.List.Sums.{sum_by_more}
use Rattle.assessment.specs.Lines.{figures_in, PoolWithin, FiguresWithin, RowWithin, plus, obligation_sum, availability_sum, line_of}
use Rattle.assessment.specs.Figures.{PoolFigures, DayFigures, DayRow}
use Rattle.assessment.specs.declared.line.Line.{Line}
use Rattle.pools.specs.PerPool.{entry_of}
use Rattle.pools.specs.declared.pool.Pool.{Pool}

-- a pool's sums over some rows
abbrev pub sums_over : Pool → List DayRow → PoolFigures
sums_over p rows = record { obligation = obligation_sum (λ f. entry_of f p) rows; availability = availability_sum (λ f. entry_of f p) rows }

pub sums_more : (p : Pool) (rows : List DayRow) (i : ℕ) (d : DayRow) → i < length rows → sums_over p (take (i + 1) rows) ≡ plus (sums_over p (take i rows)) (entry_of (figures_in (get_or rows i d)) p)
sums_more p rows i d lt = cc (sum_by_more (λ r. (entry_of (figures_in r) p).obligation) rows i d lt, sum_by_more (λ r. (entry_of (figures_in r) p).availability) rows i d lt)

-- those over the first i rows, within their limits
pub record Summed (p : Pool) (rows : List DayRow) (i : ℕ) (s : PoolFigures) : Type 0 where
  pub is : s ≡ sums_over p (take i rows)
  pub capped : s.obligation ≤ 2000000000 * i
  pub within : s.availability ≤ s.obligation

pub summed_none : (p : Pool) (rows : List DayRow) → Summed p rows 0 (record { obligation = 0; availability = 0 })
summed_none p rows = record { is = refl; capped = omega arith; within = omega arith }

pub summed_more : (p : Pool) (rows : List DayRow) (i : ℕ) (d : DayRow) (s day t : PoolFigures) → Summed p rows i s → i < length rows → day ≡ entry_of (figures_in (get_or rows i d)) p → PoolWithin day → t ≡ plus s day → Summed p rows (i + 1) t
summed_more p rows i d s day t so lt is w e =
    let owed : t.obligation ≡ s.obligation + day.obligation = ap (λ (f : PoolFigures). f.obligation) e in
    let given : t.availability ≡ s.availability + day.availability = ap (λ (f : PoolFigures). f.availability) e in record {
      is = cc (sums_more p rows i d lt);
      capped = omega arith;
      within = omega arith;
    }

-- all rows are summed
pub summed_all : (p : Pool) (rows : List DayRow) (i : ℕ) (s : PoolFigures) (n n' : ℕ) (l : Line) → Summed p rows i s → length rows ≤ i → n ≡ n' → l ≡ line_of s.obligation s.availability n → l ≡ line_of (sums_over p rows).obligation (sums_over p rows).availability n'
summed_all p rows i s n n' l so h e is =
    let all = take_all i rows h in
    is ∙ rw (so.is, all, e)

-- a row whose figures are a day result's is within its limits
pub row_within : (r : DayRow) (f : DayFigures) → f ≡ figures_in r → FiguresWithin f → RowWithin r
row_within r f e w = subst FiguresWithin e w
