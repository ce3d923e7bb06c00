-- A month file as a list of records, and its month and roster.
use Rattle.std.specs.Prelude.{ℕ, zero, suc, ◌+◌, cond, List, [], ◌∷◌, length, drop, Some, None, Ok, Err, Result, ◌==◌}
use Rattle.settlement.specs.declared.fault.SettlementFault.{SettlementFault}
use Rattle.settlement.specs.declared.tables.MonthTerms.{MonthTerms}
use Rattle.settlement.specs.declared.tables.RosterEntry.{RosterEntry}
use Rattle.statement.specs.Layout.{record_of, size_of}
use Rattle.statement.specs.Reading.{as_month, as_resource}
use Rattle.statement.specs.Rosters.{enrolled}
use Rattle.statement.specs.declared.fault.ReaderFault.{ReaderFault}
use Rattle.statement.specs.declared.fault.ReaderFault.TheVariants.{EndsInside}
use Rattle.statement.specs.declared.fault.Located.{Located}
use Rattle.statement.specs.declared.fault.StatementFault.{StatementFault}
use Rattle.statement.specs.declared.fault.StatementFault.TheVariants.{Reader, Settlement}
use Rattle.statement.specs.declared.records.FileRecord.{FileRecord}

-- the records of a file, in their order; the last one may be a fault
abbrev pub Records : Type 0
Records = List (Result FileRecord ReaderFault)

-- the first k records
unfoldable pub records_from : ℕ → List ℕ → Records
records_from zero bs = []
records_from (suc k) bs =
    cond (length bs == 0) [] (elim (record_of bs) [ Ok x ↦ Ok x ∷ records_from k (drop (size_of x) bs) | Err f ↦ Err f ∷ [] ])

-- all of them: a file has no more records than bytes
unfoldable pub records_of : List ℕ → Records
records_of bs = records_from (length bs) bs

-- a fault of the reader at a byte offset
abbrev pub reader_fault : ReaderFault → ℕ → Located StatementFault
reader_fault f at = record { fault = Reader f; offset = at }

-- a fault of the settlement at a byte offset
abbrev pub settlement_fault : SettlementFault → ℕ → Located StatementFault
settlement_fault f at = record { fault = Settlement f; offset = at }

-- the month record comes first; the other records follow it
pub record MonthPart : Type 0 where
  pub terms : MonthTerms
  pub rest : Records

-- an empty file ends inside its first record
abbrev pub month_part : Records → Result MonthPart (Located StatementFault)
month_part [] = Err (reader_fault EndsInside 0)
month_part (r ∷ rs) = elim (as_month r) [ Ok t ↦ Ok (record { terms = t; rest = rs }) | Err f ↦ Err (reader_fault f 0) ]

-- the resources, and the records that follow them with their byte offset
pub record RosterPart : Type 0 where
  pub roster : List RosterEntry
  pub offset : ℕ
  pub rest : Records

-- the roster so far grows by one resource after another, up to the first day
unfoldable pub roster_from : List RosterEntry → ℕ → Records → Result RosterPart (Located StatementFault)
roster_from roster at [] = Ok (record { roster = roster; offset = at; rest = [] })
roster_from roster at (r ∷ rs) = elim (as_resource (length roster) r) [
  | Ok o ↦ elim o [
    | Some e ↦ elim (enrolled roster e) [ Ok more ↦ roster_from more (at + 16) rs | Err f ↦ Err (settlement_fault f at) ]
    | None ↦ Ok (record { roster = roster; offset = at; rest = r ∷ rs })
  ]
  | Err f ↦ Err (reader_fault f at)
]
