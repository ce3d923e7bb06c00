-- What holds of the output of every month file.
use Rattle.std.specs.Prelude.{◌≡◌, ℕ, ◌-◌, false, List, [], ◌∷◌, ◌++◌, Ok, Err, ◌≢◌}
use Rattle.std.specs.List.{AllByRecursion}
use Rattle.assessment.specs.Figures.{DayRow}
use Rattle.fund.specs.Balances.{Balances}
use Rattle.fund.specs.Overlay.{Overlaid}
use Rattle.pools.specs.PerPool.{entry_of}
use Rattle.pools.specs.declared.pool.Pool.{Pool}
use Rattle.pools.specs.declared.pool.Pool.TheVariants.{Generic, Flexible}
use Rattle.settlement.specs.Accounts.{Settled}
use Rattle.settlement.specs.Closing.{Closes}
use Rattle.settlement.specs.Runs.{MonthClosed}
use Rattle.settlement.specs.Views.{View}
use Rattle.settlement.specs.declared.tables.RosterEntry.{RosterEntry}
use Rattle.settlement.specs.declared.tables.LineEntry.{LineEntry}
use Rattle.statement.specs.Answers.{and_then}
use Rattle.statement.specs.Files.{Records, RosterPart, records_of, month_part, roster_from}
use Rattle.statement.specs.Printing.{statement_text, output, is_settled}
use Rattle.statement.specs.Reading.{as_day}
use Rattle.statement.specs.Settling.{MonthStatement, pool_book, shipped_rules, open_view, open_book, settled_records, settled}
use Rattle.statement.specs.declared.records.FileRecord.TheVariants.{Day}
use Rattle.settlement.specs.declared.tables.SubmittedDay.{SubmittedDay}

-- a line ends in a line feed, and has no other
pub record OneLine (bs : List ℕ) : Type 0 where
  pub front : List ℕ
  pub ended : bs ≡ front ++ 10 ∷ []
  pub unbroken : AllByRecursion (λ b. b ≢ 10) front

-- A file refused prints exactly one line.
abbrev pub RefusedInOneLine : Type 0
RefusedInOneLine = (bs : List ℕ) → is_settled bs ≡ false → OneLine (output bs)

-- What is printed depends on the file's records only.
abbrev pub RecordsDecide : Type 0
RecordsDecide = (bs cs : List ℕ) → records_of bs ≡ records_of cs → (output bs ≡ output cs) × (is_settled bs ≡ is_settled cs)

-- Days come in any order: two that are neighbours, exchanged, leave the statement as it was.
abbrev pub DaysInAnyOrder : Type 0
DaysInAnyOrder = (front back : Records) (c d : SubmittedDay) (s : MonthStatement)
    → settled_records (front ++ Ok (Day c) ∷ Ok (Day d) ∷ back) ≡ Ok s → settled_records (front ++ Ok (Day d) ∷ Ok (Day c) ∷ back) ≡ Ok s

-- A statement tells a taken close of the settlement: what close returned, and what the book shows after it.
pub record ClosedBy (s : MonthStatement) : Type 0 where
  pub roster : List RosterEntry
  pub rows : List DayRow
  pub before : List LineEntry
  pub after : View (Overlaid Balances)
  pub closes : Closes pool_book shipped_rules (open_view s.terms) roster rows before (Ok s.pools) after s.lines
  pub generic : s.shown.generic ≡ pool_book.shown after.book Generic
  pub flexible : s.shown.flexible ≡ pool_book.shown after.book Flexible

-- The lines printed are those that close returned, in their order.
pub record PrintsClose (bs out : List ℕ) : Type 0 where
  pub month : MonthStatement
  pub settles : settled bs ≡ Ok month
  pub closed : ClosedBy month
  pub prints : out ≡ statement_text month

-- the days that follow the resources, the latest first
unfoldable pub days_taken : List SubmittedDay → Records → List SubmittedDay
days_taken ds [] = ds
days_taken ds (r ∷ rs) = elim (as_day r) [ Ok d ↦ days_taken (d ∷ ds) rs | Err f ↦ ds ]

-- the month of a statement, as the accountant's law speaks of it: opened by the file's month record, over the file's resources, with
-- the file's days taken, and closed with what the statement tells
abbrev pub month_told : MonthStatement → RosterPart → MonthClosed
month_told s part = record {
  month = record { terms = s.terms; roster = part.roster; records = days_taken [] part.rest };
  before = pool_book.shown (open_book s.terms);
  pools = s.pools;
  lines = s.lines;
}

-- What the accountant can show of the month that a statement tells, by the file's resources and what follows them.
pub record KeepsLaw (bs : List ℕ) (s : MonthStatement) : Type 0 where
  pub part : RosterPart
  pub read : and_then (month_part (records_of bs)) (λ m. roster_from [] 36 m.rest) ≡ Ok part
  pub law : (p : Pool) → Settled shipped_rules (month_told s part) p
  -- each pool's fund was empty, so the balance shown is what was charged less what was paid
  pub no_fund : (p : Pool) → pool_book.shown (open_book s.terms) p ≡ 0
  pub balance : (p : Pool) → entry_of s.shown p ≡ (entry_of s.pools p).charges - (entry_of s.pools p).payments

-- The accountant's law holds of every statement.
abbrev pub StatementsKeepTheLaw : Type 0
StatementsKeepTheLaw = (bs : List ℕ) (s : MonthStatement) → settled bs ≡ Ok s → KeepsLaw bs s
