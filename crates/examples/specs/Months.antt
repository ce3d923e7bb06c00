-- A month given as stretches of like days.
use Rattle.std.specs.Prelude.{◌≡◌, ℕ, ◌+◌, ◌<◌, Bool, ◌&&◌, ◌⊎◌, List, map, Some, None, Option, nat_le}
use Rattle.std.specs.List.{find, range_with_len}
use Rattle.std.specs.Option.{option_map}
use Rattle.assessment.specs.Lines.{RowsWithin}
use Rattle.assessment.specs.declared.trade_month.TradeMonth.{TradeMonth}
use Rattle.assessment.specs.Figures.{DayRow}
use Rattle.examples.specs.declared.plan.Plan.{Plan}
use Rattle.examples.specs.declared.stretch.Stretch.{Stretch}
use Rattle.examples.specs.declared.refusal.Refusal.{Refusal}
use Rattle.examples.specs.declared.refusal.Refusal.TheVariants.{NoSuchCategory, RowsPastLimits}
use Rattle.examples.specs.Plans.{planned, DayRefused}

-- the stretch has the day
abbrev pub covers : Stretch → ℕ → Bool
covers s d = nat_le s.first d && nat_le d s.last

-- the plan of the first stretch that has the day
abbrev pub plan_on : List Stretch → ℕ → Option Plan
plan_on ss d = option_map (λ s. s.plan) (find (λ s. covers s d) ss)

-- a day without a plan is empty
abbrev pub planned_row : TradeMonth → ℕ → Option Plan → DayRow
planned_row m d None = None
planned_row m d (Some p) = Some (planned m d p)

-- the row of a day
abbrev pub row_on : TradeMonth → List Stretch → ℕ → DayRow
row_on m ss d = planned_row m d (plan_on ss d)

-- a place for each of 31 days
unfoldable pub rows_of : TradeMonth → List Stretch → List DayRow
rows_of m ss = map (λ past. row_on m ss (past + 1)) (range_with_len 0 31)

-- why a plan gives no row
abbrev pub PlanRefused : TradeMonth → ℕ → Option Plan → Refusal → Type 0
PlanRefused m d None e = ⊥
PlanRefused m d (Some p) e = DayRefused m d p e

-- why a day has no row
abbrev pub RowRefused : TradeMonth → List Stretch → ℕ → Refusal → Type 0
RowRefused m ss d e = PlanRefused m d (plan_on ss d) e

-- why not all days have one
abbrev pub RowsRefused : TradeMonth → List Stretch → Refusal → Type 0
RowsRefused m ss e = (past : ℕ) × (past < 31) × RowRefused m ss (past + 1) e

-- why the month has no lines
abbrev pub LinesRefused : TradeMonth → ℕ → List Stretch → Refusal → Type 0
LinesRefused m category ss e =
    ((e ≡ NoSuchCategory) × (3 < category)) ⊎
    (RowsRefused m ss e ⊎
    ((e ≡ RowsPastLimits) × (RowsWithin (rows_of m ss) → ⊥)))
