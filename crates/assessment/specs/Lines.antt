-- A resource's month: the sums of its day rows, and the state and quantity of its two lines.
use Rattle.std.specs.Prelude.{◌≡◌, ℕ, ◌+◌, ◌-◌, ◌*◌, ◌/◌, ◌<◌, ◌≤◌, Bool, cond, ◌||◌, List, length, sum_by, ◌==◌, nat_lt, slice_index_or, None, Some}
use Rattle.assessment.specs.Sums.{count_to}
use Rattle.assessment.specs.Calendar.{days_of}
use Rattle.assessment.specs.Rules.{Rule}
use Rattle.assessment.specs.Days.{Rules}
use Rattle.assessment.specs.declared.trade_month.TradeMonth.{TradeMonth}
use Rattle.assessment.specs.Figures.{PoolFigures, DayFigures, DayRow, MonthLines}
use Rattle.pools.specs.PerPool.{entry_of}
use Rattle.pools.specs.declared.pool.Pool.{Pool}
use Rattle.assessment.specs.declared.line.LineState.{LineState}
use Rattle.assessment.specs.declared.line.LineState.TheVariants.{Empty, Charged, Neutral, Paid}
use Rattle.assessment.specs.declared.line.Line.{Line}

-- nothing owed and nothing given
abbrev pub no_figures : DayFigures
no_figures = record {
  generic = record { obligation = 0; availability = 0 };
  flexible = record { obligation = 0; availability = 0 };
}

-- an empty place counts nothing
abbrev pub figures_in : DayRow → DayFigures
figures_in None = no_figures
figures_in (Some f) = f

-- the limits of a day result: availability at most obligation, obligation at most 2,000,000,000 W
abbrev pub PoolWithin : PoolFigures → Type 0
PoolWithin p = (p.availability ≤ p.obligation) × (p.obligation ≤ 2000000000)

-- these limits in both pools
abbrev pub FiguresWithin : DayFigures → Type 0
FiguresWithin f = (p : Pool) → PoolWithin (entry_of f p)

-- a row of a day table is within them
abbrev pub RowWithin : DayRow → Type 0
RowWithin r = FiguresWithin (figures_in r)

-- a resource has 31 day places, each within its limits
abbrev pub RowsWithin : List DayRow → Type 0
RowsWithin rows = (length rows ≡ 31) × ((k : ℕ) → k < 31 → RowWithin (slice_index_or rows k None))

-- two figures together
abbrev pub plus : PoolFigures → PoolFigures → PoolFigures
plus a b = record { obligation = a.obligation + b.obligation; availability = a.availability + b.availability }

-- O: the obligation of a pool, which `pool` picks, summed over the rows
abbrev pub obligation_sum : (DayFigures → PoolFigures) → List DayRow → ℕ
obligation_sum pool rows = sum_by (λ r. (pool (figures_in r)).obligation) rows

-- A: its availability
abbrev pub availability_sum : (DayFigures → PoolFigures) → List DayRow → ℕ
availability_sum pool rows = sum_by (λ r. (pool (figures_in r)).availability) rows

-- whether the rule has an hour on a day
abbrev pub has_hours : Rule → TradeMonth → ℕ → ℕ → Bool
has_hours r m category d = nat_lt 0 (count_to (r.assesses m category d) 24)

-- N: the month's days on which the rule has hours, whatever was shown
abbrev pub assessed_days : Rule → TradeMonth → ℕ → ℕ
assessed_days r m category = count_to (has_hours r m category) (days_of m)

-- each state's letter: E, C, N, P
abbrev pub letter : LineState → ℕ
letter Empty = 69
letter Charged = 67
letter Neutral = 78
letter Paid = 80

-- from O, A and N: charged below 94.5 per cent, paid above 98.5 per cent
abbrev pub state_of : ℕ → ℕ → ℕ → LineState
state_of o a n =
    cond (o == 0 || n == 0) Empty
    (cond (nat_lt (1000 * a) (945 * o)) Charged
    (cond (nat_lt (985 * o) (1000 * a)) Paid Neutral))

-- the average watts short of 94.5 per cent, or above 98.5 per cent
abbrev pub quantity_in : LineState → ℕ → ℕ → ℕ → ℕ
quantity_in Empty o a n = 0
quantity_in Charged o a n = (945 * o - 1000 * a) / (1000 * n)
quantity_in Neutral o a n = 0
quantity_in Paid o a n = (1000 * a - 985 * o) / (1000 * n)

-- the line of O, A and N
abbrev pub line_of : ℕ → ℕ → ℕ → Line
line_of o a n = record {
  obligation = o;
  availability = a;
  days = n;
  state = state_of o a n;
  quantity = quantity_in (state_of o a n) o a n;
}

-- a resource's line in a pool, from its 31 rows
abbrev pub pool_line : (DayFigures → PoolFigures) → Rule → TradeMonth → ℕ → List DayRow → Line
pool_line pool r m category rows = line_of (obligation_sum pool rows) (availability_sum pool rows) (assessed_days r m category)

-- a resource's two lines
abbrev pub lines_of : Rules → TradeMonth → ℕ → List DayRow → MonthLines
lines_of r m category rows = record {
  generic = pool_line (λ f. f.generic) r.generic m category rows;
  flexible = pool_line (λ f. f.flexible) r.flexible m category rows;
}
