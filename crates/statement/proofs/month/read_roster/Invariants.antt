use Rattle.std.proofs.Common.{◌≡◌, ◌≤◌, [], length, drop}
use Rattle.statement.specs.Files.{records_of, roster_from}
use Rattle.statement.specs.Rosters.{days_offset}
use Rattle.statement.proofs.month.read_roster.Given as goal

abbrev pub invariant-loop-at : goal.invariant-loop-at
invariant-loop-at l = record {
  place : l.at ≡ days_offset l.roster;
  within : days_offset l.roster ≤ length l.file;
  same : roster_from [] 36 (records_of (drop 36 l.file)) ≡ roster_from l.roster l.at (records_of (drop l.at l.file));
}
