-- Which record may stand where: one month, then resources numbered from 0, then days.
use Rattle.std.specs.Prelude.{ℕ, cond, Some, None, Ok, Err, Option, Result, ◌==◌}
use Rattle.settlement.specs.declared.tables.MonthTerms.{MonthTerms}
use Rattle.settlement.specs.declared.tables.RosterEntry.{RosterEntry}
use Rattle.statement.specs.declared.fault.ReaderFault.{ReaderFault}
use Rattle.statement.specs.declared.fault.ReaderFault.TheVariants.{Misplaced}
use Rattle.statement.specs.declared.records.FileRecord.{FileRecord}
use Rattle.statement.specs.declared.records.FileRecord.TheVariants.{Month, Resource, Day}
use Rattle.settlement.specs.declared.tables.SubmittedDay.{SubmittedDay}

-- where only a month may stand
abbrev pub as_month : Result FileRecord ReaderFault → Result MonthTerms ReaderFault
as_month (Err f) = Err f
as_month (Ok (Month t)) = Ok t
as_month (Ok (Resource x)) = Err Misplaced
as_month (Ok (Day d)) = Err Misplaced

-- where only the resource of this number may stand, or the first day
abbrev pub as_resource : ℕ → Result FileRecord ReaderFault → Result (Option RosterEntry) ReaderFault
as_resource n (Err f) = Err f
as_resource n (Ok (Month t)) = Err Misplaced
as_resource n (Ok (Resource x)) = cond (x.number == n) (Ok (Some x.entry)) (Err Misplaced)
as_resource n (Ok (Day d)) = Ok None

-- where only a day may stand
abbrev pub as_day : Result FileRecord ReaderFault → Result SubmittedDay ReaderFault
as_day (Err f) = Err f
as_day (Ok (Month t)) = Err Misplaced
as_day (Ok (Resource x)) = Err Misplaced
as_day (Ok (Day d)) = Ok d
