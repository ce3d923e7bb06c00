-- What an availability rule means, what every rule owes, and the two rules that ship.
use Rattle.std.specs.Prelude.{ℕ, ◌+◌, ◌-◌, ◌≤◌, min, Bool, false, cond, ◌&&◌, ◌==◌, nat_le, nat_lt}
use Rattle.assessment.specs.Calendar.{works}
use Rattle.assessment.specs.declared.trade_month.TradeMonth.{TradeMonth}

-- A rule, by two functions. `assesses` is asked with month, category, day and hour ending. `takes` is asked with three amounts:
-- what is owed, the economic bid and the self-schedule. It answers how much of either bid counts towards what is owed.
pub record Rule : Type 0 where
  pub assesses : TradeMonth → ℕ → ℕ → ℕ → Bool
  pub takes : ℕ → ℕ → ℕ → ℕ × ℕ

-- what is taken of an economic bid does not pass it
abbrev pub EconomicWithin : Rule → Type 0
EconomicWithin r = (o e s : ℕ) → (r.takes o e s).0 ≤ e

-- nor what is taken of a self-schedule
abbrev pub ScheduledWithin : Rule → Type 0
ScheduledWithin r = (o e s : ℕ) → (r.takes o e s).1 ≤ s

-- what is taken in all does not pass the obligation
abbrev pub TakenWithin : Rule → Type 0
TakenWithin r = (o e s : ℕ) → (r.takes o e s).0 + (r.takes o e s).1 ≤ o

-- what every rule owes; that equal questions have equal answers, a rule owes by being a function
pub record Owed (r : Rule) : Type 0 where
  pub economic : EconomicWithin r
  pub scheduled : ScheduledWithin r
  pub taken : TakenWithin r

-- the five hours of a window
abbrev pub in_window : ℕ → ℕ → Bool
in_window start h = nat_le start h && nat_lt h (start + 5)

-- the generic window, on work days, whatever the category of the resource
abbrev pub generic_assesses : TradeMonth → ℕ → ℕ → ℕ → Bool
generic_assesses m category d h = works m d && in_window m.generic_start h

-- the economic bid up to what is owed, then the self-schedule up to what is still owed
abbrev pub generic_takes : ℕ → ℕ → ℕ → ℕ × ℕ
generic_takes o e s = (min o e, min (o - min o e) s)

-- the generic rule that ships
abbrev pub generic_rule : Rule
generic_rule = record { assesses = generic_assesses; takes = generic_takes }

-- category 1: hours 6 to 22 of every day; 2: its window, every day; 3: its window, on work days; 0: never
abbrev pub flexible_assesses : TradeMonth → ℕ → ℕ → ℕ → Bool
flexible_assesses m category d h =
    cond (category == 1) (nat_le 6 h && nat_le h 22)
    (cond (category == 2) (in_window m.category2_start h)
    (cond (category == 3) (works m d && in_window m.category3_start h) false))

-- economic only
abbrev pub flexible_takes : ℕ → ℕ → ℕ → ℕ × ℕ
flexible_takes o e s = (min o e, 0)

-- the flexible rule that ships
abbrev pub flexible_rule : Rule
flexible_rule = record { assesses = flexible_assesses; takes = flexible_takes }
