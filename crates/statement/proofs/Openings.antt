-- A settlement's open and close are the definition's.
use Rattle.std.proofs.Common.{◌≡◌, List, length, replicate, Ok, Err, Result, refl, ap, ◌∙◌, subst, arith, rules, None}
use Rattle.std.proofs.lemmas.Bool.{le-leb, lt-leb}
use Rattle.assessment.specs.Figures.{DayRow}
use Rattle.fund.specs.BalanceBook.{balance_book, no_money}
use Rattle.fund.specs.Balances.{Balances, limit}
use Rattle.fund.specs.Meaning.{RefusesStanding}
use Rattle.fund.specs.Overlay.{Overlaid, over}
use Rattle.fund.specs.declared.fault.BookFault.{BookFault}
use Rattle.fund.specs.declared.fault.BookFault.TheVariants.{OverLimit}
use Rattle.pools.specs.declared.per_pool.PerPool.{PerPool}
use Rattle.pools.specs.declared.pool.Pool.TheVariants.{Generic, Flexible}
use Rattle.fund.specs.declared.standing.Standing.{Standing}
use Rattle.settlement.specs.Closing.{Closes}
use Rattle.settlement.specs.Opening.{started, Opens, standing_of}
use Rattle.settlement.specs.Tables.{DaysFit, AllFit}
use Rattle.settlement.specs.Views.{View}
use Rattle.settlement.specs.declared.fault.SettlementFault.{SettlementFault}
use Rattle.settlement.specs.declared.fault.SettlementFault.TheVariants.{UnfitTerms, Book}
use Rattle.settlement.specs.declared.tables.MonthTerms.{MonthTerms}
use Rattle.settlement.specs.declared.tables.RosterEntry.{RosterEntry}
use Rattle.settlement.specs.declared.tables.LineEntry.{LineEntry}
use Rattle.settlement.specs.declared.tables.PoolClose.{PoolClose}
use Rattle.statement.specs.Laws.{ClosedBy}
use Rattle.statement.specs.Settling.{MonthStatement, pool_book, shipped_rules, terms_within, opens, open_view, closed_month, fund_in}
use Rattle.statement.proofs.Limits.{refuted, decides_terms}
use Rattle.statement.proofs.Answering.{met, unmet}

abbrev start_view : View (Overlaid Balances)
start_view = started pool_book (over balance_book no_money)

never_refuses : (s : Overlaid Balances) (d : Standing) (e : BookFault) → RefusesStanding pool_book s d e → ⊥
never_refuses s d e h = search rules

module _ (t : MonthTerms) (roster : List RosterEntry) (rows rows' : List DayRow) (w : View (Overlaid Balances)) where
  -- the answer of a settlement's open, as the definition tells it
  abbrev pub OpensAs : Result (Unit {0}) SettlementFault → Type 0
  OpensAs (Ok x) = (opens t ≡ Ok tt) × (w ≡ open_view t) × (rows' ≡ replicate (length rows) None)
  OpensAs (Err e) = opens t ≡ Err e

  from_start : (a : Result (Unit {0}) SettlementFault) → DaysFit roster rows → Opens pool_book start_view t roster rows a w rows' → OpensAs a
  unfolding open_view
  from_start (Ok x) fit o = (met _ _ _ ((decides_terms t).1 o.0.within), o.1, o.2)
  from_start (Err UnfitTerms) fit o = unmet _ _ _ (refuted (terms_within t) (decides_terms t) o.0.2)
  from_start (Err (Book e)) fit o = absurd (never_refuses start_view.book (standing_of t.standing) e o.0.4)
  from_start (Err e) fit o = search rules

  pub opens_as : (v : View (Overlaid Balances)) (a : Result (Unit {0}) SettlementFault) → v ≡ start_view → DaysFit roster rows → Opens pool_book v t roster rows a w rows' → OpensAs a
  opens_as v a e fit o = from_start a fit (subst (λ (u : View (Overlaid Balances)). Opens pool_book u t roster rows a w rows') e o)

-- an opened month's book stands as the terms say
stood_as : (d : Standing) → pool_book.standing (pool_book.stood start_view.book d) ≡ d
stood_as d = search rules

pub open_standing : (t : MonthTerms) (v : View (Overlaid Balances)) → v ≡ open_view t → pool_book.standing v.book ≡ standing_of t.standing
unfolding open_view
open_standing t v e = ap (λ (u : View (Overlaid Balances)). pool_book.standing u.book) e ∙ stood_as (standing_of t.standing)

module _ (t : MonthTerms) (roster : List RosterEntry) (rows : List DayRow) (lines lines' : List LineEntry) (w : View (Overlaid Balances)) where
  -- what a statement tells of a taken close
  abbrev pub statement_of : PerPool PoolClose → MonthStatement
  statement_of p = record { terms = t; lines = lines'; pools = p; shown = record { generic = pool_book.shown w.book Generic; flexible = pool_book.shown w.book Flexible } }

  -- the answer of a settlement's close, as the definition tells it
  abbrev pub ClosesAs : Result (PerPool PoolClose) SettlementFault → Type 0
  ClosesAs (Ok p) = (closed_month t roster rows ≡ Ok (statement_of p)) × ClosedBy (statement_of p)
  ClosesAs (Err e) = closed_month t roster rows ≡ Err e

  from_open : (a : Result (PerPool PoolClose) SettlementFault) → AllFit roster rows lines → Closes pool_book shipped_rules (open_view t) roster rows lines a w lines' → ClosesAs a
  unfolding open_view closed_month
  from_open (Ok p) fit o = (
    met _ _ _ (le-leb _ _ o.0.generic) ∙ met _ _ _ (le-leb _ _ o.0.flexible) ∙ rw (o.1.0, o.1.1, o.1.2) refl,
    record { roster = roster; rows = rows; before = lines; after = w; closes = o; generic = refl; flexible = refl },
  )
  from_open (Err (Book (OverLimit Generic))) fit o = unmet _ _ _ (lt-leb (fund_in t roster rows Generic) limit (omega (arith, o.0.2)))
  from_open (Err (Book (OverLimit Flexible))) fit o = met _ _ _ (le-leb _ _ o.0.2.0) ∙ unmet _ _ _ (lt-leb (fund_in t roster rows Flexible) limit (omega (arith, o.0.2.1)))
  from_open (Err e) fit o = search rules

  pub closes_as : (v : View (Overlaid Balances)) (a : Result (PerPool PoolClose) SettlementFault) → v ≡ open_view t → AllFit roster rows lines → Closes pool_book shipped_rules v roster rows lines a w lines' → ClosesAs a
  closes_as v a e fit o = from_open a fit (subst (λ (u : View (Overlaid Balances)). Closes pool_book shipped_rules u roster rows lines a w lines') e o)
