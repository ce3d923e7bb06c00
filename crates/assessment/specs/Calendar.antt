-- The trade month: the Gregorian calendar, work days, and the limits of a month's settings.
use Rattle.std.specs.Prelude.{◌≡◌, ℕ, ◌+◌, ◌-◌, ◌*◌, ◌/◌, ◌%◌, ◌^◌, ◌≤◌, Bool, true, false, cond, not, ◌&&◌, ◌||◌, ◌==◌, nat_le}
use Rattle.assessment.specs.Sums.{sum_to, count_to}
use Rattle.assessment.specs.declared.trade_month.TradeMonth.{TradeMonth}
use Rattle.assessment.specs.declared.month_date.MonthDate.{MonthDate}
use Rattle.assessment.specs.declared.trade_month.DayKind.{DayKind}
use Rattle.assessment.specs.declared.trade_month.DayKind.TheVariants.{WorkDay, OffDay}

-- every fourth year is a leap year, but of the full centuries only every fourth
abbrev pub leap : ℕ → Bool
leap y = y % 4 == 0 && (not (y % 100 == 0) || y % 400 == 0)

-- the months of 30 days: April, June, September and November
abbrev pub has_30_days : ℕ → Bool
has_30_days m = m == 4 || (m == 6 || (m == 9 || m == 11))

-- how many days a month of a year has; February has 28, in a leap year 29
abbrev pub days_in : ℕ → ℕ → ℕ
days_in y m = cond (has_30_days m) 30 (cond (m == 2) (cond (leap y) 29 28) 31)

-- days counted from the last day of the year 0, a Sunday, which is day 0
abbrev pub day_number : ℕ → ℕ → ℕ → ℕ
day_number y m d = 365 * (y - 1) + (y - 1) / 4 + (y - 1) / 400 - (y - 1) / 100 + sum_to (days_in y) (m - 1) + d

-- the weekday of a date: 0 is Sunday, 6 Saturday
abbrev pub weekday : ℕ → ℕ → ℕ → ℕ
weekday y m d = day_number y m d % 7

-- year and month of a trade month
abbrev pub date_of : TradeMonth → MonthDate
date_of m = record { year = m.year; month = m.month }

-- the month after this one
abbrev pub next_month : MonthDate → MonthDate
next_month d = record { year = cond (d.month == 12) (d.year + 1) d.year; month = cond (d.month == 12) 1 (d.month + 1) }

-- how many days a trade month has
abbrev pub days_of : TradeMonth → ℕ
days_of m = days_in m.year m.month

-- the weekday of a trade month's day
abbrev pub weekday_of : TradeMonth → ℕ → ℕ
weekday_of m d = weekday m.year m.month d

-- whether a day is marked a holiday: day 1 is the lowest bit
abbrev pub marked : ℕ → ℕ → Bool
marked marks d = marks / 2 ^ (d - 1) % 2 == 1

-- whether a day is a work day: Saturdays, Sundays and marked days are not
abbrev pub works : TradeMonth → ℕ → Bool
works m d = nat_le 1 (weekday_of m d) && (nat_le (weekday_of m d) 5 && not (marked m.holidays d))

-- whether a kind of day is that of a work day
abbrev pub is_work : DayKind → Bool
is_work WorkDay = true
is_work OffDay = false

-- how many work days a month has
abbrev pub work_days : TradeMonth → ℕ
work_days m = count_to (works m) (days_of m)

-- a five-hour window starts at an hour ending from 1 to 20
abbrev pub StartWithin : ℕ → Type 0
StartWithin start = (1 ≤ start) × (start ≤ 20)

-- the years settled are 2018 to 2099, and their months 1 to 12
abbrev pub DateWithin : TradeMonth → Type 0
DateWithin m = (2018 ≤ m.year) × (m.year ≤ 2099) × (1 ≤ m.month) × (m.month ≤ 12)

-- no mark on a day that the month lacks
abbrev pub MarksWithin : TradeMonth → Type 0
MarksWithin m = m.holidays / 2 ^ days_of m ≡ 0

-- all three window starts, whatever the categories in use
abbrev pub WindowsWithin : TradeMonth → Type 0
WindowsWithin m = StartWithin m.generic_start × StartWithin m.category2_start × StartWithin m.category3_start

-- a month within all of its limits
abbrev pub MonthWithin : TradeMonth → Type 0
MonthWithin m = DateWithin m × MarksWithin m × WindowsWithin m
