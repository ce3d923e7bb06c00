-- Starting a settlement, and opening a month.
use Rattle.std.specs.Prelude.{◌≡◌, ℕ, ◌≤◌, cond, List, length, replicate, Ok, Err, Result, ◌==◌, None}
use Rattle.assessment.specs.Calendar.{MonthWithin, next_month, date_of}
use Rattle.assessment.specs.declared.trade_month.TradeMonth.{TradeMonth}
use Rattle.assessment.specs.Figures.{DayRow}
use Rattle.fund.specs.Meaning.{FundMeaning, TakesStanding, RefusesStanding}
use Rattle.fund.specs.declared.standing.Standing.{Standing}
use Rattle.fund.specs.declared.standing.Standing.TheVariants.{Binding, Advisory}
use Rattle.pools.specs.declared.pool.Pool.TheVariants.{Generic, Flexible}
use Rattle.settlement.specs.Tables.{DaysFit}
use Rattle.settlement.specs.Views.{View, Phase, fresh, open_at, closed, release_due}
use Rattle.settlement.specs.declared.fault.SettlementFault.{SettlementFault}
use Rattle.settlement.specs.declared.fault.SettlementFault.TheVariants.{UnfitTables, OutOfTurn, UnfitTerms, NotNextMonth, UnfitLoads, UnknownResource, NoSuchDay, AlreadyRecorded, DayOverLimit, FlexibleInCategory0, Book}
use Rattle.settlement.specs.declared.tables.RosterEntry.{RosterEntry}
use Rattle.settlement.specs.declared.tables.MonthTerms.{MonthTerms}

-- a settlement starts with its book stood binding, and notes the balances as the opening ones
abbrev pub started : {S : Type 0} → FundMeaning S → S → View S
started m s = record {
  opening = record { generic = m.binding (m.stood s Binding) Generic; flexible = m.binding (m.stood s Binding) Flexible };
  phase = fresh;
  book = m.stood s Binding;
}

-- no month is open and no release due
abbrev pub MayOpen : Phase → Type 0
MayOpen fresh = Unit {0}
MayOpen (open_at m p) = ⊥
MayOpen (closed d) = Unit {0}
MayOpen (release_due d) = ⊥

-- a month within its limits, a price up to 500,000 cents, a standing of 0 or 1
abbrev pub TermsWithin : MonthTerms → Type 0
TermsWithin t = MonthWithin t.month × (t.price ≤ 500000) × (t.standing ≤ 1)

-- any month may come first; after that, only the one that follows the last closed
abbrev pub Follows : Phase → TradeMonth → Type 0
Follows fresh m = Unit {0}
Follows (open_at n p) m = ⊥
Follows (closed d) m = date_of m ≡ next_month d
Follows (release_due d) m = ⊥

-- 0 is binding, 1 advisory
abbrev pub standing_of : ℕ → Standing
standing_of n = cond (n == 0) Binding Advisory

module _ {S : Type 0} (m : FundMeaning S) where
  -- when an open is taken
  pub record MayTakeOpen (v : View S) (t : MonthTerms) (roster : List RosterEntry) (rows : List DayRow) : Type 0 where
    pub fits : DaysFit roster rows
    pub in_turn : MayOpen v.phase
    pub within : TermsWithin t
    pub next : Follows v.phase t.month
    pub stands : TakesStanding m v.book (standing_of t.standing)

  -- the first test that fails tells the fault
  abbrev pub RefusesOpen : View S → MonthTerms → List RosterEntry → List DayRow → SettlementFault → Type 0
  RefusesOpen v t roster rows UnfitTables = DaysFit roster rows → ⊥
  RefusesOpen v t roster rows OutOfTurn = DaysFit roster rows × (MayOpen v.phase → ⊥)
  RefusesOpen v t roster rows UnfitTerms = DaysFit roster rows × MayOpen v.phase × (TermsWithin t → ⊥)
  RefusesOpen v t roster rows NotNextMonth = DaysFit roster rows × MayOpen v.phase × TermsWithin t × (Follows v.phase t.month → ⊥)
  RefusesOpen v t roster rows UnfitLoads = ⊥
  RefusesOpen v t roster rows (UnknownResource d) = ⊥
  RefusesOpen v t roster rows (NoSuchDay d) = ⊥
  RefusesOpen v t roster rows (AlreadyRecorded d) = ⊥
  RefusesOpen v t roster rows (DayOverLimit d) = ⊥
  RefusesOpen v t roster rows (FlexibleInCategory0 d) = ⊥
  RefusesOpen v t roster rows (Book e) =
      DaysFit roster rows × MayOpen v.phase × TermsWithin t × Follows v.phase t.month × RefusesStanding m v.book (standing_of t.standing) e

  -- an open month, and the book in its standing
  abbrev pub opened : View S → MonthTerms → View S
  opened v t = record {
    opening = v.opening;
    phase = open_at t.month t.price;
    book = m.stood v.book (standing_of t.standing);
  }

  -- what an open answers, and what it leaves: it empties the day table, and a refusal changes nothing
  abbrev pub Opens : View S → MonthTerms → List RosterEntry → List DayRow → Result (Unit {0}) SettlementFault → View S → List DayRow → Type 0
  Opens v t roster rows (Ok x) w rows' = MayTakeOpen v t roster rows × (w ≡ opened v t) × (rows' ≡ replicate (length rows) None)
  Opens v t roster rows (Err e) w rows' = RefusesOpen v t roster rows e × (w ≡ v) × (rows' ≡ rows)
