-- A taken close, from its parts.
use Rattle.std.proofs.Common.{◌≡◌, ℕ, ◌≤◌, List, length, Ok, refl, ap, subst, ◌∙◌}
use Rattle.std.proofs.lemmas.List.{length-map}
use Rattle.assessment.specs.Days.{Rules}
use Rattle.assessment.specs.declared.trade_month.TradeMonth.{TradeMonth}
use Rattle.assessment.specs.Figures.{DayRow}
use Rattle.fund.specs.Balances.{limit}
use Rattle.fund.specs.Meaning.{FundMeaning}
use Rattle.pools.specs.PerPool.{entry_of}
use Rattle.pools.specs.declared.per_pool.PerPool.{PerPool}
use Rattle.pools.specs.declared.pool.Pool.{Pool}
use Rattle.pools.specs.declared.pool.Pool.TheVariants.{Generic, Flexible}
use Rattle.settlement.specs.Closing.{paid_entry, close_rate, pools_closed, fund_of, charged_entries, line_table, month_posted, ClosesPool, Funded, LinesClose, Closes}
use Rattle.settlement.specs.Tables.{AllFit}
use Rattle.assessment.specs.Calendar.{date_of}
use Rattle.settlement.specs.Views.{Phase, open_at, phase_closed}
use Rattle.settlement.specs.declared.tables.LineEntry.{LineEntry}
use Rattle.settlement.specs.declared.tables.PoolClose.{PoolClose}
use Rattle.settlement.specs.declared.tables.RosterEntry.{RosterEntry}
use Rattle.settlement.proofs.Rates.{payments_within}

-- a pool's close keeps the number of its lines
pub closed_long : (price shown : ℕ) (p : Pool) (c : PoolClose) (es es' : List LineEntry) → ClosesPool price shown p es (Ok c) es' → length es' ≡ length es
closed_long price shown p c es es' h = ap length h.2 ∙ length-map es (paid_entry (close_rate price shown es))

module _ {S : Type 0} (m : FundMeaning S) (r : Rules) (s : S) (t : TradeMonth) (price : ℕ) (roster : List RosterEntry) (rows : List DayRow) where
  -- each pool's postings are funded where both funds are within the limit
  pub pools_funded : (c : PerPool PoolClose) → fund_of m r s t price roster rows Generic ≤ limit → fund_of m r s t price roster rows Flexible ≤ limit → c ≡ pools_closed m r s t price roster rows → (p : Pool) → Funded m s p (entry_of c p)
  pools_funded c g f e Generic = rw e (record { room = g; covered = payments_within price (m.shown s Generic) (charged_entries r t price roster rows Generic) })
  pools_funded c g f e Flexible = rw e (record { room = f; covered = payments_within price (m.shown s Flexible) (charged_entries r t price roster rows Flexible) })

  -- the lines of both pools are closed, from each pool's close
  pub both_closed : (a b : PoolClose) (gs fs gs' fs' lines lines' : List LineEntry) → gs ≡ charged_entries r t price roster rows Generic → fs ≡ charged_entries r t price roster rows Flexible
      → ClosesPool price (m.shown s Generic) Generic gs (Ok a) gs' → ClosesPool price (m.shown s Flexible) Flexible fs (Ok b) fs' → length gs' ≡ length roster
      → lines' ≡ line_table gs' fs' (length gs') → LinesClose m r s t price roster rows lines (Ok (record { generic = a; flexible = b })) lines'
  both_closed a b gs fs gs' fs' lines lines' gs_are fs_are g f long is =
      let g = subst (λ es. ClosesPool price (m.shown s Generic) Generic es (Ok a) gs') gs_are g in
      let f = subst (λ es. ClosesPool price (m.shown s Flexible) Flexible es (Ok b) fs') fs_are f in
      (g.0, f.0, (λ i. record { generic = g.1 i; flexible = f.1 i }), is ∙ rw (long, g.2, f.2) refl)

  -- and the close of the open month is taken
  pub close_taken : (o : PerPool ℕ) (p after : Phase) (lines lines' : List LineEntry) (c : PerPool PoolClose) (u : S) → p ≡ open_at t price → AllFit roster rows lines → LinesClose m r s t price roster rows lines (Ok c) lines'
      → after ≡ phase_closed (date_of t) → u ≡ month_posted m s c → Closes m r (record { opening = o; phase = p; book = s }) roster rows lines (Ok c) (record { opening = o; phase = after; book = u }) lines'
  close_taken o p after lines lines' c u turn fit closed last posted =
      rw (turn, last, posted, closed.2, closed.3) (record { fits = fit; in_turn = tt; generic = closed.0; flexible = closed.1 }, (refl, refl, refl))
