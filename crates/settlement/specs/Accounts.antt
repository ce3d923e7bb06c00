-- What the accountant can show of every run, at any point.
use Rattle.std.specs.Prelude.{◌≡◌, ℕ, ◌+◌, ◌-◌, ◌*◌, ◌/◌, ◌<◌, ◌≤◌, cond, List, [], ◌∷◌, map, length, sum_by, ◌==◌, slice_index_or}
use Rattle.std.specs.List.{range_with_len}
use Rattle.assessment.specs.Rules.{Rule}
use Rattle.assessment.specs.Days.{Rules, day_figures}
use Rattle.assessment.specs.Lines.{line_of, assessed_days}
use Rattle.assessment.specs.Figures.{DayFigures}
use Rattle.assessment.specs.declared.line.LineState.TheVariants.{Empty, Charged, Neutral, Paid}
use Rattle.assessment.specs.declared.line.Line.{Line}
use Rattle.fund.specs.Meaning.{FundMeaning}
use Rattle.pools.specs.PerPool.{entry_of}
use Rattle.pools.specs.declared.pool.Pool.{Pool}
use Rattle.pools.specs.declared.pool.Pool.TheVariants.{Generic, Flexible}
use Rattle.settlement.specs.Tables.{category_of}
use Rattle.settlement.specs.Views.{View}
use Rattle.settlement.specs.Closing.{if_paid, told, rate_of, no_line}
use Rattle.settlement.specs.Releasing.{load_told}
use Rattle.settlement.specs.Runs.{MonthRun, MonthClosed, Event, month_closed, fund_released, History, Run}
use Rattle.settlement.specs.declared.amounts.LineAmount.TheVariants.{Charges, Payments, EligibleQuantity}
use Rattle.settlement.specs.declared.amounts.LoadAmount.TheVariants.{Share}
use Rattle.settlement.specs.declared.tables.LineEntry.{LineEntry}
use Rattle.settlement.specs.declared.tables.SubmittedDay.{SubmittedDay}

-- the rule of a pool
abbrev pub rule_in : Rules → Pool → Rule
rule_in r Generic = r.generic
rule_in r Flexible = r.flexible

-- what the two rules make of a taken record
abbrev pub figures_for : Rules → MonthRun → SubmittedDay → DayFigures
figures_for r m d = day_figures r (record {
  month = m.terms.month;
  category = category_of m.roster d.at.resource;
  day = d.at.day;
  submission = d.submission;
})

-- a figure of a record, if it is of resource i, else 0
abbrev pub if_of : SubmittedDay → ℕ → ℕ → ℕ
if_of d i n = cond (d.at.resource == i) n 0

-- O of a resource in a pool: a sum over its taken records
abbrev pub owed_by : Rules → MonthRun → Pool → ℕ → ℕ
owed_by r m p i = sum_by (λ d. if_of d i (entry_of (figures_for r m d) p).obligation) m.records

-- A, likewise
abbrev pub given_by : Rules → MonthRun → Pool → ℕ → ℕ
given_by r m p i = sum_by (λ d. if_of d i (entry_of (figures_for r m d) p).availability) m.records

-- the line of resource i in a pool, from the O and A above and, as N, the days of the month on which the pool's rule has hours
abbrev pub worked_line : Rules → MonthRun → Pool → ℕ → Line
worked_line r m p i =
    line_of (owed_by r m p i) (given_by r m p i) (assessed_days (rule_in r p) m.terms.month (category_of m.roster i))

-- all of a pool's lines, resource by resource
unfoldable pub worked_lines : Rules → MonthRun → Pool → List Line
worked_lines r m p = map (worked_line r m p) (range_with_len 0 (length m.roster))

-- which of a resource's two entries in the line table is the pool's: generic comes first
abbrev pub pool_place : Pool → ℕ
pool_place Generic = 0
pool_place Flexible = 1

-- the lines of a pool in the line table that the close returned
unfoldable pub returned_lines : MonthClosed → Pool → List LineEntry
returned_lines c p = map (λ i. slice_index_or c.lines (2 * i + pool_place p) no_line) (range_with_len 0 (length c.month.roster))

-- the megawatts of a quantity in watts, a part counting as a whole
abbrev pub megawatts_begun : ℕ → ℕ
megawatts_begun q = (q + 999999) / 1000000

-- the fund of a pool before a close: the shown balance and the month's charges
abbrev pub fund_before : MonthClosed → Pool → ℕ
fund_before c p = c.before p + told Charges (returned_lines c p)

-- the price that the month was opened with
abbrev pub price_of : MonthClosed → ℕ
price_of c = c.month.terms.price

-- P holds of every entry of a list
abbrev pub Each : {A : Type 0} → (A → Type 0) → List A → Type 0
Each P [] = Unit {0}
Each P (x ∷ xs) = P x × Each P xs

-- a charged line's cents are at the price, a paid line's at the rate, and the others have none
abbrev pub PricedAt : ℕ → ℕ → LineEntry → Type 0
PricedAt price rate e =
    (e.line.state ≡ Charged → e.cents ≡ price * e.line.quantity / 1000000)
    × (e.line.state ≡ Paid → e.cents ≡ rate * e.line.quantity / 1000000)
    × (e.line.state ≡ Neutral → e.cents ≡ 0)
    × (e.line.state ≡ Empty → e.cents ≡ 0)

-- The two ceilings. At the price, a line's average capacity, O / N in exact megawatts, comes to some cents: a paid line gets at
-- most 4.5 per cent of these, and a charged line owes at most 94.5 per cent. Both sides are multiplied out, so that there is no
-- fraction.
abbrev pub BelowCeiling : ℕ → LineEntry → Type 0
BelowCeiling price e =
    (e.line.state ≡ Paid → e.cents * e.line.days * 1000000000 ≤ 45 * price * e.line.obligation)
    × (e.line.state ≡ Charged → e.cents * e.line.days * 1000000000 ≤ 945 * price * e.line.obligation)

-- what is shown of one closed month in one pool
pub record Settled (r : Rules) (c : MonthClosed) (p : Pool) : Type 0 where
  -- the pool's lines in the table are those that the rules give for the month's terms, its roster and the days recorded in it;
  -- and the table has no lines but those of the two pools
  pub from_records : map (λ (e : LineEntry). e.line) (returned_lines c p) ≡ worked_lines r c.month p
  pub no_others : length c.lines ≡ 2 * length c.month.roster
  -- its charges and payments are its lines' cents
  pub charges : (entry_of c.pools p).charges ≡ told Charges (returned_lines c p)
  pub payments : (entry_of c.pools p).payments ≡ told Payments (returned_lines c p)
  -- every eligible line is paid at the one rate, and every charged line is charged at the price
  pub one_rate : (entry_of c.pools p).rate ≡ rate_of (price_of c) (fund_before c p) (told EligibleQuantity (returned_lines c p))
  pub priced : Each (PricedAt (price_of c) (entry_of c.pools p).rate) (returned_lines c p)
  -- the rate is at most triple the price
  pub capped : (entry_of c.pools p).rate ≤ 3 * price_of c
  -- the payments are covered; below triple, with something eligible, less is left than a cent for each eligible line and each megawatt begun
  pub covered : told Payments (returned_lines c p) ≤ fund_before c p
  pub little_left : (entry_of c.pools p).rate < 3 * price_of c → 0 < told EligibleQuantity (returned_lines c p)
      → fund_before c p - told Payments (returned_lines c p) < sum_by (λ e. if_paid e.line.state 1) (returned_lines c p) + megawatts_begun (told EligibleQuantity (returned_lines c p))
  -- each line is within its ceiling
  pub ceilings : Each (BelowCeiling (price_of c)) (returned_lines c p)

-- an amount of a binding month, else 0; a month is binding by its open
abbrev pub if_binding : MonthClosed → ℕ → ℕ
if_binding c n = cond (c.month.terms.standing == 0) n 0

-- what a pool's lines were charged in all binding months that were closed
abbrev pub charged : Pool → List Event → ℕ
charged p [] = 0
charged p (month_closed c ∷ es) = if_binding c (told Charges (returned_lines c p)) + charged p es
charged p (fund_released xs ∷ es) = charged p es

-- what they were paid in these months
abbrev pub paid : Pool → List Event → ℕ
paid p [] = 0
paid p (month_closed c ∷ es) = if_binding c (told Payments (returned_lines c p)) + paid p es
paid p (fund_released xs ∷ es) = paid p es

-- what was released of a pool: the shares in the load entries that came back
abbrev pub given_out : Pool → List Event → ℕ
given_out p [] = 0
given_out p (month_closed c ∷ es) = given_out p es
given_out p (fund_released xs ∷ es) = load_told (Share p) xs + given_out p es

-- every closed month is settled as above, in both pools
abbrev pub EveryMonth : Rules → List Event → Type 0
EveryMonth r [] = Unit {0}
EveryMonth r (month_closed c ∷ es) = ((p : Pool) → Settled r c p) × EveryMonth r es
EveryMonth r (fund_released xs ∷ es) = EveryMonth r es

-- What holds where a run ends. The equation of the fund, in each pool: what the pool held at the start, with what binding months
-- have charged since, is what those months paid, what was released, and what the pool now holds by its binding months. Also: the
-- settlement's opening balances are those looked up in the book that the start was handed; and each closed month is settled as
-- above, advisory or not.
pub record AccountsHold (r : Rules) (h : History) (opening binding : Pool → ℕ) : Type 0 where
  pub fund : (p : Pool) → h.opening p + charged p h.past ≡ paid p h.past + given_out p h.past + binding p
  pub noted : (p : Pool) → opening p ≡ h.opening p
  pub months : EveryMonth r h.past

-- the law of every run that ends in this view of a settlement
abbrev pub AccountantsLaw : {S : Type 0} → FundMeaning S → (S → Type 0) → Rules → View S → Type 0
AccountantsLaw m sound r v = (h : History) → Run m sound r h v → AccountsHold r h (entry_of v.opening) (m.binding v.book)
