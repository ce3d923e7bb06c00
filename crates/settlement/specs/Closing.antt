-- Closing a month: its lines, what they are charged and paid, and what is posted.
use Rattle.std.specs.Prelude.{◌≡◌, ℕ, zero, suc, ◌+◌, ◌*◌, ◌/◌, ◌%◌, ◌<◌, ◌≤◌, min, cond, List, map, length, get_or, Ok, Err, sum_by, Result, ◌==◌, slice_index_or}
use Rattle.std.specs.List.{range_with_len}
use Rattle.assessment.specs.Days.{Rules}
use Rattle.assessment.specs.Lines.{lines_of}
use Rattle.assessment.specs.declared.trade_month.TradeMonth.{TradeMonth}
use Rattle.assessment.specs.Figures.{DayRow}
use Rattle.assessment.specs.declared.line.LineState.{LineState}
use Rattle.assessment.specs.declared.line.LineState.TheVariants.{Empty, Charged, Neutral, Paid}
use Rattle.assessment.specs.declared.line.Line.{Line}
use Rattle.fund.specs.Balances.{limit}
use Rattle.fund.specs.Laws.{with_room}
use Rattle.fund.specs.Meaning.{FundMeaning}
use Rattle.fund.specs.declared.fault.BookFault.{BookFault}
use Rattle.fund.specs.declared.fault.BookFault.TheVariants.{UnfitPlaces, NoFreePlace, OverLimit, AboveBalance, NoAdvisoryMonths}
use Rattle.pools.specs.PerPool.{entry_of}
use Rattle.pools.specs.declared.per_pool.PerPool.{PerPool}
use Rattle.pools.specs.declared.pool.Pool.{Pool}
use Rattle.pools.specs.declared.pool.Pool.TheVariants.{Generic, Flexible}
use Rattle.settlement.specs.Prices.{cents_at}
use Rattle.settlement.specs.Tables.{category_of, places_of, AllFit}
use Rattle.assessment.specs.Calendar.{date_of}
use Rattle.settlement.specs.Views.{View, Phase, fresh, open_at, closed, release_due, phase_closed}
use Rattle.settlement.specs.Recording.{IsOpen}
use Rattle.settlement.specs.declared.amounts.LineAmount.{LineAmount}
use Rattle.settlement.specs.declared.amounts.LineAmount.TheVariants.{Charges, Payments, EligibleQuantity}
use Rattle.settlement.specs.declared.fault.SettlementFault.{SettlementFault}
use Rattle.settlement.specs.declared.fault.SettlementFault.TheVariants.{UnfitTables, OutOfTurn, UnfitTerms, NotNextMonth, UnfitLoads, UnknownResource, NoSuchDay, AlreadyRecorded, DayOverLimit, FlexibleInCategory0, Book}
use Rattle.settlement.specs.declared.tables.RosterEntry.{RosterEntry}
use Rattle.settlement.specs.declared.tables.LineEntry.{LineEntry}
use Rattle.settlement.specs.declared.tables.PoolClose.{PoolClose}

-- an empty line; it stands in for an entry that a table lacks
abbrev pub no_line : LineEntry
no_line = record { line = record { obligation = 0; availability = 0; days = 0; state = Empty; quantity = 0 }; cents = 0 }

-- an amount of a charged line, else 0
abbrev pub if_charged : LineState → ℕ → ℕ
if_charged Empty n = 0
if_charged Charged n = n
if_charged Neutral n = 0
if_charged Paid n = 0

-- an amount of a paid line, else 0; the lines in this state are the eligible ones
abbrev pub if_paid : LineState → ℕ → ℕ
if_paid Empty n = 0
if_paid Charged n = 0
if_paid Neutral n = 0
if_paid Paid n = n

-- a charged line is charged at the price
abbrev pub charged_entry : ℕ → Line → LineEntry
charged_entry price l = record { line = l; cents = if_charged l.state (cents_at price l.quantity) }

-- an eligible line is paid at the rate; the others keep what they are charged
abbrev pub paid_cents : LineState → ℕ → ℕ → ℕ
paid_cents Empty payment charge = charge
paid_cents Charged payment charge = charge
paid_cents Neutral payment charge = charge
paid_cents Paid payment charge = payment

-- an entry, once paid at the rate
abbrev pub paid_entry : ℕ → LineEntry → LineEntry
paid_entry rate e = record { line = e.line; cents = paid_cents e.line.state (cents_at rate e.line.quantity) e.cents }

-- for inner contracts: no line's quantity passes 58,590,000,000 W
abbrev pub QuantitiesWithin : List LineEntry → Type 0
QuantitiesWithin es = (k : ℕ) → k < length es → (get_or es k no_line).line.quantity ≤ 58590000000

-- what a line counts towards each amount
abbrev pub line_tells : LineAmount → LineEntry → ℕ
line_tells Charges e = if_charged e.line.state e.cents
line_tells Payments e = if_paid e.line.state e.cents
line_tells EligibleQuantity e = if_paid e.line.state e.line.quantity

-- an amount summed over lines
abbrev pub told : LineAmount → List LineEntry → ℕ
told a es = sum_by (line_tells a) es

-- the rate from price, fund and eligible quantity q: the smaller of three times the price and the fund for a megawatt; 0 where nothing
-- is eligible
abbrev pub rate_of : ℕ → ℕ → ℕ → ℕ
rate_of price fund q = cond (q == 0) 0 (min (3 * price) (fund * 1000000 / q))

-- the line of resource i in a pool
abbrev pub line_at : Rules → TradeMonth → List RosterEntry → List DayRow → Pool → ℕ → Line
line_at r m roster rows p i = entry_of (lines_of r m (category_of roster i) (places_of rows i)) p

-- a pool's lines, resource by resource, with their charges
unfoldable pub charged_entries : Rules → TradeMonth → ℕ → List RosterEntry → List DayRow → Pool → List LineEntry
charged_entries r m price roster rows p = map (λ i. charged_entry price (line_at r m roster rows p i)) (range_with_len 0 (length roster))

-- the rate of a pool, from what is shown before its close and its charged lines
abbrev pub close_rate : ℕ → ℕ → List LineEntry → ℕ
close_rate price shown es = rate_of price (shown + told Charges es) (told EligibleQuantity es)

-- its lines with charges and payments
abbrev pub paid_entries : ℕ → ℕ → List LineEntry → List LineEntry
paid_entries price shown es = map (paid_entry (close_rate price shown es)) es

-- its charges, rate and payments
abbrev pub pool_close : ℕ → ℕ → List LineEntry → PoolClose
pool_close price shown es = record {
  charges = told Charges es;
  rate = close_rate price shown es;
  payments = told Payments (paid_entries price shown es);
}

-- for inner contracts: a pool's close by itself, refused where its fund would pass the limit
abbrev pub ClosesPool : ℕ → ℕ → Pool → List LineEntry → Result PoolClose BookFault → List LineEntry → Type 0
ClosesPool price shown p es (Ok c) es' =
    (shown + told Charges es ≤ limit) × (c ≡ pool_close price shown es) × (es' ≡ paid_entries price shown es)
ClosesPool price shown p es (Err e) es' = (limit < shown + told Charges es) × (e ≡ OverLimit p)

-- the line table: place 2 i is the generic line of resource i, place 2 i + 1 its flexible one
abbrev pub line_place : List LineEntry → List LineEntry → ℕ → LineEntry
line_place gs fs k = cond (k % 2 == 0) (slice_index_or gs (k / 2) no_line) (slice_index_or fs (k / 2) no_line)

-- the line table of n resources, from the lines of the two pools
unfoldable pub line_table : List LineEntry → List LineEntry → ℕ → List LineEntry
line_table gs fs n = map (line_place gs fs) (range_with_len 0 (2 * n))

module _ {S : Type 0} (m : FundMeaning S) where
  -- a posting in, where zero is not posted
  abbrev pub posted_in : S → Pool → ℕ → S
  posted_in s p zero = s
  posted_in s p (suc a) = m.posted_in s p (suc a)

  -- a posting out, likewise
  abbrev pub posted_out : S → Pool → ℕ → S
  posted_out s p zero = s
  posted_out s p (suc a) = m.posted_out s p (suc a)

  -- a pool's charges, then its payments
  abbrev pub posted : S → Pool → PoolClose → S
  posted s p c = posted_out (posted_in s p c.charges) p c.payments

  -- the postings of a month, generic first; below four free places the book is ruled off before them
  unfoldable pub month_posted : S → PerPool PoolClose → S
  month_posted s c = posted (posted (with_room m s 4) Generic c.generic) Flexible c.flexible

-- for inner contracts: the charges fit the limit, and the payments are within what is then held
pub record Funded {S : Type 0} (m : FundMeaning S) (s : S) (p : Pool) (c : PoolClose) : Type 0 where
  pub room : m.shown s p + c.charges ≤ limit
  pub covered : c.payments ≤ m.shown s p + c.charges

module _ {S : Type 0} (m : FundMeaning S) (r : Rules) where
  -- charges, rate and payments of a pool in an open month; s is the state of the book
  abbrev pub pool_closed : S → TradeMonth → ℕ → List RosterEntry → List DayRow → Pool → PoolClose
  pool_closed s t price roster rows p = pool_close price (m.shown s p) (charged_entries r t price roster rows p)

  -- those of both pools
  abbrev pub pools_closed : S → TradeMonth → ℕ → List RosterEntry → List DayRow → PerPool PoolClose
  pools_closed s t price roster rows = record {
    generic = pool_closed s t price roster rows Generic;
    flexible = pool_closed s t price roster rows Flexible;
  }

  -- the lines of a pool with charges and payments
  abbrev pub pool_lines : S → TradeMonth → ℕ → List RosterEntry → List DayRow → Pool → List LineEntry
  pool_lines s t price roster rows p = paid_entries price (m.shown s p) (charged_entries r t price roster rows p)

  -- the line table that the close writes
  abbrev pub lines_closed : S → TradeMonth → ℕ → List RosterEntry → List DayRow → List LineEntry
  lines_closed s t price roster rows =
      line_table (pool_lines s t price roster rows Generic) (pool_lines s t price roster rows Flexible) (length roster)

  -- the fund of a pool: what is shown before the close, and the charges
  abbrev pub fund_of : S → TradeMonth → ℕ → List RosterEntry → List DayRow → Pool → ℕ
  fund_of s t price roster rows p = m.shown s p + told Charges (charged_entries r t price roster rows p)

  -- the fund of a pool in the open month is within the limit
  abbrev pub FundWithin : Phase → S → List RosterEntry → List DayRow → Pool → Type 0
  FundWithin fresh s roster rows p = ⊥
  FundWithin (open_at t price) s roster rows p = fund_of s t price roster rows p ≤ limit
  FundWithin (closed d) s roster rows p = ⊥
  FundWithin (release_due d) s roster rows p = ⊥

  -- when a close is taken
  pub record MayTakeClose (v : View S) (roster : List RosterEntry) (rows : List DayRow) (lines : List LineEntry) : Type 0 where
    pub fits : AllFit roster rows lines
    pub in_turn : IsOpen v.phase
    pub generic : FundWithin v.phase v.book roster rows Generic
    pub flexible : FundWithin v.phase v.book roster rows Flexible

  -- a fund over the limit is the book's fault, generic first
  abbrev pub RefusesFund : View S → List RosterEntry → List DayRow → BookFault → Type 0
  RefusesFund v roster rows UnfitPlaces = ⊥
  RefusesFund v roster rows (NoFreePlace p) = ⊥
  RefusesFund v roster rows (OverLimit Generic) = FundWithin v.phase v.book roster rows Generic → ⊥
  RefusesFund v roster rows (OverLimit Flexible) =
      FundWithin v.phase v.book roster rows Generic × (FundWithin v.phase v.book roster rows Flexible → ⊥)
  RefusesFund v roster rows (AboveBalance p) = ⊥
  RefusesFund v roster rows NoAdvisoryMonths = ⊥

  -- the first test that fails tells the fault
  abbrev pub RefusesClose : View S → List RosterEntry → List DayRow → List LineEntry → SettlementFault → Type 0
  RefusesClose v roster rows lines UnfitTables = AllFit roster rows lines → ⊥
  RefusesClose v roster rows lines OutOfTurn = AllFit roster rows lines × (IsOpen v.phase → ⊥)
  RefusesClose v roster rows lines UnfitTerms = ⊥
  RefusesClose v roster rows lines NotNextMonth = ⊥
  RefusesClose v roster rows lines UnfitLoads = ⊥
  RefusesClose v roster rows lines (UnknownResource d) = ⊥
  RefusesClose v roster rows lines (NoSuchDay d) = ⊥
  RefusesClose v roster rows lines (AlreadyRecorded d) = ⊥
  RefusesClose v roster rows lines (DayOverLimit d) = ⊥
  RefusesClose v roster rows lines (FlexibleInCategory0 d) = ⊥
  RefusesClose v roster rows lines (Book e) = AllFit roster rows lines × IsOpen v.phase × RefusesFund v roster rows e

  -- what a taken close answers, and what it leaves
  abbrev pub ClosesAt : Phase → View S → List RosterEntry → List DayRow → PerPool PoolClose → View S → List LineEntry → Type 0
  ClosesAt fresh v roster rows a w lines' = ⊥
  ClosesAt (open_at t price) v roster rows a w lines' =
      (a ≡ pools_closed v.book t price roster rows)
      × (w ≡ record { opening = v.opening; phase = phase_closed (date_of t); book = month_posted m v.book (pools_closed v.book t price roster rows) })
      × (lines' ≡ lines_closed v.book t price roster rows)
  ClosesAt (closed d) v roster rows a w lines' = ⊥
  ClosesAt (release_due d) v roster rows a w lines' = ⊥

  -- for inner contracts: the first fund over the limit in an open month
  abbrev pub FundOver : S → TradeMonth → ℕ → List RosterEntry → List DayRow → BookFault → Type 0
  FundOver s t price roster rows UnfitPlaces = ⊥
  FundOver s t price roster rows (NoFreePlace p) = ⊥
  FundOver s t price roster rows (OverLimit Generic) = limit < fund_of s t price roster rows Generic
  FundOver s t price roster rows (OverLimit Flexible) =
      (fund_of s t price roster rows Generic ≤ limit) × (limit < fund_of s t price roster rows Flexible)
  FundOver s t price roster rows (AboveBalance p) = ⊥
  FundOver s t price roster rows NoAdvisoryMonths = ⊥

  -- for inner contracts: what a close does before it posts; it writes the line table, or is refused for a fund and writes nothing
  abbrev pub LinesClose : S → TradeMonth → ℕ → List RosterEntry → List DayRow → List LineEntry → Result (PerPool PoolClose) SettlementFault → List LineEntry → Type 0
  LinesClose s t price roster rows lines (Ok a) lines' =
      (fund_of s t price roster rows Generic ≤ limit) × (fund_of s t price roster rows Flexible ≤ limit)
      × (a ≡ pools_closed s t price roster rows) × (lines' ≡ lines_closed s t price roster rows)
  LinesClose s t price roster rows lines (Err (Book e)) lines' = FundOver s t price roster rows e × (lines' ≡ lines)
  LinesClose s t price roster rows lines (Err UnfitTables) lines' = ⊥
  LinesClose s t price roster rows lines (Err OutOfTurn) lines' = ⊥
  LinesClose s t price roster rows lines (Err UnfitTerms) lines' = ⊥
  LinesClose s t price roster rows lines (Err NotNextMonth) lines' = ⊥
  LinesClose s t price roster rows lines (Err UnfitLoads) lines' = ⊥
  LinesClose s t price roster rows lines (Err (UnknownResource d)) lines' = ⊥
  LinesClose s t price roster rows lines (Err (NoSuchDay d)) lines' = ⊥
  LinesClose s t price roster rows lines (Err (AlreadyRecorded d)) lines' = ⊥
  LinesClose s t price roster rows lines (Err (DayOverLimit d)) lines' = ⊥
  LinesClose s t price roster rows lines (Err (FlexibleInCategory0 d)) lines' = ⊥

  -- what a close answers, and what it leaves; a refusal changes nothing
  abbrev pub Closes : View S → List RosterEntry → List DayRow → List LineEntry → Result (PerPool PoolClose) SettlementFault → View S → List LineEntry → Type 0
  Closes v roster rows lines (Ok a) w lines' = MayTakeClose v roster rows lines × ClosesAt v.phase v roster rows a w lines'
  Closes v roster rows lines (Err e) w lines' = RefusesClose v roster rows lines e × (w ≡ v) × (lines' ≡ lines)
