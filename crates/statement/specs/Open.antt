-- For inner contracts: a month in progress.
use Rattle.std.specs.Prelude.{List}
use Rattle.assessment.specs.Figures.{DayRow}
use Rattle.settlement.specs.declared.tables.MonthTerms.{MonthTerms}
use Rattle.settlement.specs.declared.tables.RosterEntry.{RosterEntry}

-- what it was opened with, and its day table
pub record MonthSoFar : Type 0 where
  pub terms : MonthTerms
  pub roster : List RosterEntry
  pub rows : List DayRow
