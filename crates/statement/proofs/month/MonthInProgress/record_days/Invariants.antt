use Rattle.std.proofs.Common.{◌≡◌, ◌≤◌, length, drop}
use Rattle.settlement.specs.Tables.{DaysFit, EachRowWithin}
use Rattle.statement.specs.Files.{records_of}
use Rattle.statement.specs.Months.{days_recorded}
use Rattle.statement.specs.Settling.{days_from}
use Rattle.statement.proofs.month.MonthInProgress.record_days.Given as goal

abbrev pub invariant-loop-at : goal.invariant-loop-at
invariant-loop-at l = record {
  within : l.at ≤ length l.file;
  fit : DaysFit l.self.roster l.rows;
  each : EachRowWithin l.rows;
  rest : days_recorded (record { terms = l.self.terms; roster = l.self.roster; rows = l.initial.rows }) l.file ≡ days_from l.self.terms l.self.roster l.rows l.at (records_of (drop l.at l.file));
}
