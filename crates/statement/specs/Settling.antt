-- A month file settled: the month opened, its days recorded, the month closed.
use Rattle.std.specs.Prelude.{ℕ, zero, suc, ◌+◌, ◌*◌, ◌/◌, ◌^◌, Bool, true, false, not, ◌&&◌, ◌||◌, List, [], ◌∷◌, length, replicate, Ok, Err, Result, ◌==◌, nat_le, nat_lt, slice_index_or, slice_set, None, Some}
use Rattle.assessment.specs.Calendar.{days_of}
use Rattle.assessment.specs.Days.{Rules, both}
use Rattle.assessment.specs.Records.{bids_after}
use Rattle.assessment.specs.Rules.{generic_rule, flexible_rule}
use Rattle.assessment.specs.declared.trade_month.TradeMonth.{TradeMonth}
use Rattle.assessment.specs.declared.submission.HourBids.{HourBids}
use Rattle.assessment.specs.declared.submission.Showing.{Showing}
use Rattle.assessment.specs.declared.submission.DaySubmission.{DaySubmission}
use Rattle.assessment.specs.Figures.{DayRow}
use Rattle.fund.specs.BalanceBook.{balance_book, no_money}
use Rattle.fund.specs.Balances.{Balances, limit}
use Rattle.fund.specs.Meaning.{FundMeaning}
use Rattle.fund.specs.Overlay.{Overlaid, overlay_book, over}
use Rattle.fund.specs.declared.fault.BookFault.TheVariants.{OverLimit}
use Rattle.pools.specs.declared.per_pool.PerPool.{PerPool}
use Rattle.pools.specs.declared.pool.Pool.{Pool}
use Rattle.pools.specs.declared.pool.Pool.TheVariants.{Generic, Flexible}
use Rattle.settlement.specs.Closing.{fund_of, lines_closed, pools_closed, month_posted}
use Rattle.settlement.specs.Opening.{started, opened}
use Rattle.settlement.specs.Recording.{place_of, figures_of}
use Rattle.settlement.specs.Tables.{category_of}
use Rattle.settlement.specs.Views.{View, open_at}
use Rattle.settlement.specs.declared.fault.SettlementFault.{SettlementFault}
use Rattle.settlement.specs.declared.fault.SettlementFault.TheVariants.{UnfitTerms, UnknownResource, NoSuchDay, AlreadyRecorded, DayOverLimit, FlexibleInCategory0, Book}
use Rattle.settlement.specs.declared.tables.RosterEntry.{RosterEntry}
use Rattle.settlement.specs.declared.tables.MonthTerms.{MonthTerms}
use Rattle.settlement.specs.declared.tables.LineEntry.{LineEntry}
use Rattle.settlement.specs.declared.tables.PoolClose.{PoolClose}
use Rattle.statement.specs.Answers.{require, and_then}
use Rattle.statement.specs.Files.{Records, records_of, RosterPart, month_part, roster_from, reader_fault, settlement_fault}
use Rattle.statement.specs.Reading.{as_day}
use Rattle.statement.specs.declared.fault.Located.{Located}
use Rattle.statement.specs.declared.fault.StatementFault.{StatementFault}
use Rattle.settlement.specs.declared.tables.SubmittedDay.{SubmittedDay}

-- whether a number is from low to high
abbrev pub between : ℕ → ℕ → ℕ → Bool
between low high n = nat_le low n && nat_le n high

-- Tests that decide the limits of a month. Its date:
abbrev pub date_within : TradeMonth → Bool
date_within m = between 2018 2099 m.year && between 1 12 m.month

-- no mark past its last day
abbrev pub marks_within : TradeMonth → Bool
marks_within m = m.holidays / 2 ^ days_of m == 0

-- its window starts
abbrev pub windows_within : TradeMonth → Bool
windows_within m = between 1 20 m.generic_start && (between 1 20 m.category2_start && between 1 20 m.category3_start)

-- all of these, with price and standing
unfoldable pub terms_within : MonthTerms → Bool
terms_within t =
    date_within t.month && (marks_within t.month && (windows_within t.month && (nat_le t.price 500000 && nat_le t.standing 1)))

-- Tests that decide the limits of a day. At most 2,000,000 kW:
abbrev pub kilowatts : ℕ → Bool
kilowatts n = nat_le n 2000000

-- a showing, and its exemption, which is not above it
abbrev pub showing_within : Showing → Bool
showing_within s = kilowatts s.shown && (kilowatts s.exempt && nat_le s.exempt s.shown)

-- an hour's four bids
unfoldable pub hour_within : HourBids → Bool
hour_within b =
    kilowatts b.day_ahead.economic && (kilowatts b.day_ahead.self_scheduled
    && (kilowatts b.real_time.economic && kilowatts b.real_time.self_scheduled))

-- the first n hours
unfoldable pub hours_within : DaySubmission → ℕ → Bool
hours_within d zero = true
hours_within d (suc n) = hour_within (bids_after d n) && hours_within d n

-- both showings, and all 24 hours
unfoldable pub day_within : DaySubmission → Bool
day_within d = showing_within d.showings.generic && (showing_within d.showings.flexible && hours_within d 24)

-- category 0 shows no flexible capacity
unfoldable pub flexible_allowed : ℕ → DaySubmission → Bool
flexible_allowed category d = not (category == 0) || d.showings.flexible.shown == 0

-- nothing is recorded in the place
abbrev pub is_empty : DayRow → Bool
is_empty None = true
is_empty (Some f) = false

-- the two rules that ship
abbrev pub shipped_rules : Rules
shipped_rules = both generic_rule flexible_rule

-- a balance book under the overlay
abbrev pub pool_book : FundMeaning (Overlaid Balances)
pool_book = overlay_book balance_book

-- a settlement started over that book without money, and the month opened
unfoldable pub open_view : MonthTerms → View (Overlaid Balances)
open_view t = opened pool_book (started pool_book (over balance_book no_money)) t

-- its book
abbrev pub open_book : MonthTerms → Overlaid Balances
open_book t = (open_view t).book

-- One day more in the day table: the first test that fails tells the fault.
unfoldable pub recorded : MonthTerms → List RosterEntry → List DayRow → SubmittedDay → Result (List DayRow) SettlementFault
recorded t roster rows d =
    require (nat_lt d.at.resource (length roster)) (UnknownResource d.at)
    (require (between 1 (days_of t.month) d.at.day) (NoSuchDay d.at)
    (require (is_empty (slice_index_or rows (place_of d.at) None)) (AlreadyRecorded d.at)
    (require (day_within d.submission) (DayOverLimit d.at)
    (require (flexible_allowed (category_of roster d.at.resource) d.submission) (FlexibleInCategory0 d.at)
    (Ok (slice_set rows (place_of d.at) (Some (figures_of shipped_rules (open_at t.month t.price) roster d.at d.submission))))))))

-- the day table, and the byte offset after the last record
pub record DaysPart : Type 0 where
  pub rows : List DayRow
  pub offset : ℕ

-- the two put together
abbrev pub days_part : List DayRow → ℕ → DaysPart
days_part rows at = record { rows = rows; offset = at }

-- the days, from a byte offset on
unfoldable pub days_from : MonthTerms → List RosterEntry → List DayRow → ℕ → Records → Result DaysPart (Located StatementFault)
days_from t roster rows at [] = Ok (days_part rows at)
days_from t roster rows at (r ∷ rs) = elim (as_day r) [
  | Ok d ↦ elim (recorded t roster rows d) [ Ok more ↦ days_from t roster more (at + 412) rs | Err f ↦ Err (settlement_fault f at) ]
  | Err f ↦ Err (reader_fault f at)
]

-- What a statement tells: the month, its lines, what each pool comes to, and the balance that it then shows.
pub record MonthStatement : Type 0 where
  pub terms : MonthTerms
  pub lines : List LineEntry
  pub pools : PerPool PoolClose
  pub shown : PerPool ℕ

module _ (t : MonthTerms) (roster : List RosterEntry) (rows : List DayRow) where
  -- the fund of a pool at the close: what is shown before it, and the charges
  abbrev pub fund_in : Pool → ℕ
  fund_in p = fund_of pool_book shipped_rules (open_book t) t.month t.price roster rows p

  -- the line table that the close writes
  abbrev pub closed_lines : List LineEntry
  closed_lines = lines_closed pool_book shipped_rules (open_book t) t.month t.price roster rows

  -- what each pool comes to
  abbrev pub closed_pools : PerPool PoolClose
  closed_pools = pools_closed pool_book shipped_rules (open_book t) t.month t.price roster rows

  -- the book after the postings
  abbrev pub closed_book : Overlaid Balances
  closed_book = month_posted pool_book (open_book t) closed_pools

  -- what the statement tells of it
  abbrev pub closed_statement : MonthStatement
  closed_statement = record {
    terms = t;
    lines = closed_lines;
    pools = closed_pools;
    shown = record { generic = pool_book.shown closed_book Generic; flexible = pool_book.shown closed_book Flexible };
  }

  -- the close: refused if one of the two funds is above the limit, and the generic one is looked at before the flexible one
  unfoldable pub closed_month : Result MonthStatement SettlementFault
  closed_month =
      require (nat_le (fund_in Generic) limit) (Book (OverLimit Generic))
      (require (nat_le (fund_in Flexible) limit) (Book (OverLimit Flexible)) (Ok closed_statement))

-- a fault told at a byte offset
abbrev pub told_at : {A : Type 0} → ℕ → Result A SettlementFault → Result A (Located StatementFault)
told_at at (Ok x) = Ok x
told_at at (Err f) = Err (settlement_fault f at)

-- the month is opened if its terms are within their limits
abbrev pub opens : MonthTerms → Result (Unit {0}) SettlementFault
opens t = require (terms_within t) UnfitTerms (Ok tt)

-- an empty day table
abbrev pub no_days : List RosterEntry → List DayRow
no_days roster = replicate (31 * length roster) None

-- The month is opened as soon as a first day has been read, or after the last record if there is no day; then come the days, and the close.
-- A fault of open is told at the month record, one of the close at the end of the records, which is the file's length.
unfoldable pub settled_from : MonthTerms → RosterPart → Result MonthStatement (Located StatementFault)
settled_from t part =
    and_then (told_at 0 (opens t)) (λ _.
    and_then (days_from t part.roster (no_days part.roster) part.offset part.rest) (λ days.
    told_at days.offset (closed_month t part.roster days.rows)))

-- what a list of records comes to
unfoldable pub settled_records : Records → Result MonthStatement (Located StatementFault)
settled_records rs =
    and_then (month_part rs) (λ m.
    and_then (roster_from [] 36 m.rest) (λ part.
    settled_from m.terms part))

-- what a month file comes to
unfoldable pub settled : List ℕ → Result MonthStatement (Located StatementFault)
settled bs = settled_records (records_of bs)
