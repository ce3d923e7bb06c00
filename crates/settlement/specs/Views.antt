-- What a settlement comes to: its opening balances, where it stands among its months, and its book's state.
use Rattle.std.specs.Prelude.{ℕ, cond, ◌==◌}
use Rattle.assessment.specs.declared.trade_month.TradeMonth.{TradeMonth}
use Rattle.pools.specs.declared.per_pool.PerPool.{PerPool}
use Rattle.settlement.specs.declared.stage.Stage.{Stage}
use Rattle.settlement.specs.declared.stage.Stage.TheVariants.{Fresh, Open, Closed, ReleaseDue}
use Rattle.assessment.specs.declared.month_date.MonthDate.{MonthDate}
use Rattle.settlement.specs.declared.settlement.Settlement.{Settlement}

-- fresh; a month open at a price; a month closed; a December closed whose release is due
pub data Phase : Type 0 where
  fresh : Phase
  open_at : TradeMonth → ℕ → Phase
  closed : MonthDate → Phase
  release_due : MonthDate → Phase

-- a stage of the code, without the limits that its type carries
abbrev pub phase_of : Stage → Phase
phase_of Fresh = fresh
phase_of (Open m) = open_at m.settings.month m.price.cents
phase_of (Closed d) = closed d
phase_of (ReleaseDue d) = release_due d

-- opening balances, phase, and the state of the book
pub record View (S : Type 0) : Type 0 where
  pub opening : PerPool ℕ
  pub phase : Phase
  pub book : S

-- the view of a settlement; `state` tells the state of its book
abbrev pub view : {S B G F : Type 0} → (B → S) → Settlement B G F → View S
view state s = record { opening = s.opening; phase = phase_of s.stage; book = state s.book }

-- the phase once a month is closed: a December's release comes first
abbrev pub phase_closed : MonthDate → Phase
phase_closed d = cond (d.month == 12) (release_due d) (closed d)
