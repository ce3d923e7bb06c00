-- For inner contracts: how the parts of a month that the code holds are read.
use Rattle.std.specs.Prelude.{ℕ, List, drop, Ok, Result}
use Rattle.settlement.specs.declared.tables.MonthTerms.{MonthTerms}
use Rattle.settlement.specs.declared.tables.RosterEntry.{RosterEntry}
use Rattle.statement.specs.Answers.{and_then}
use Rattle.statement.specs.Files.{records_of, RosterPart}
use Rattle.statement.specs.Open.{MonthSoFar}
use Rattle.statement.specs.Rosters.{days_offset}
use Rattle.statement.specs.Settling.{MonthStatement, DaysPart, opens, told_at, no_days, days_from}
use Rattle.statement.specs.declared.fault.Located.{Located}
use Rattle.statement.specs.declared.fault.StatementFault.{StatementFault}
use Rattle.statement.specs.declared.closed_month.ClosedMonth.{ClosedMonth}

-- the roster read from a file, and what follows it
abbrev pub roster_part : List ℕ → List RosterEntry → RosterPart
roster_part bs roster = record { roster = roster; offset = days_offset roster; rest = records_of (drop (days_offset roster) bs) }

-- the month opened over an empty day table
abbrev pub opened_month : MonthTerms → List RosterEntry → Result MonthSoFar (Located StatementFault)
opened_month t roster = and_then (told_at 0 (opens t)) (λ _. Ok (record { terms = t; roster = roster; rows = no_days roster }))

-- the days that follow the resources, recorded
abbrev pub days_recorded : MonthSoFar → List ℕ → Result DaysPart (Located StatementFault)
days_recorded m bs = days_from m.terms m.roster m.rows (days_offset m.roster) (records_of (drop (days_offset m.roster) bs))

-- a closed month, as its statement tells it
abbrev pub closed_of : ClosedMonth → MonthStatement
closed_of m = record { terms = m.terms; lines = m.lines.items; pools = m.pools; shown = m.shown }
