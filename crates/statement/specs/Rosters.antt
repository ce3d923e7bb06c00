-- The resources of a month file.
use Rattle.std.specs.Prelude.{ℕ, ◌+◌, ◌*◌, ◌&&◌, List, [], ◌∷◌, ◌++◌, length, Ok, Result, nat_le, nat_lt}
use Rattle.settlement.specs.declared.fault.SettlementFault.{SettlementFault}
use Rattle.settlement.specs.declared.fault.SettlementFault.TheVariants.{UnfitTables}
use Rattle.settlement.specs.declared.tables.RosterEntry.{RosterEntry}
use Rattle.statement.specs.Answers.{require}

-- one resource more: up to 64, each of a category up to 3
abbrev pub enrolled : List RosterEntry → RosterEntry → Result (List RosterEntry) SettlementFault
enrolled roster e = require (nat_lt (length roster) 64 && nat_le e.category 3) UnfitTables (Ok (roster ++ e ∷ []))

-- for inner contracts: the byte offset after the month record and these resources
abbrev pub days_offset : List RosterEntry → ℕ
days_offset roster = 36 + 16 * length roster
