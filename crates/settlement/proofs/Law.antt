-- The accountant's law: what every run keeps, call by call.
use Rattle.std.proofs.Common.{◌≡◌, ℕ, zero, suc, ◌+◌, ◌-◌, ◌*◌, ◌<◌, ◌≤◌, Bool, true, false, cond, eqb, List, [], ◌∷◌, map, length, set, replicate, Some, None, Ok, Err, Option, Result, sym, refl, ap, ◌∙◌, subst, arith}
use lib.ListN.{length-map}
use Rattle.std.specs.List.{range_with_len}
use Rattle.std.proofs.lemmas.List.FromFn.{length-range_with_len}
use Rattle.assessment.proofs.LineLaws.{days_few}
use Rattle.assessment.specs.Days.{Rules}
use Rattle.assessment.specs.declared.trade_month.TradeMonth.{TradeMonth}
use Rattle.assessment.specs.Figures.{DayFigures, DayRow}
use Rattle.assessment.specs.declared.line.Line.{Line}
use Rattle.fund.specs.Meaning.{FundMeaning, Lawful}
use Rattle.pools.specs.PerPool.{entry_of}
use Rattle.pools.specs.declared.per_pool.PerPool.{PerPool}
use Rattle.pools.specs.declared.pool.Pool.{Pool}
use Rattle.pools.specs.declared.pool.Pool.TheVariants.{Generic, Flexible}
use Rattle.fund.specs.declared.standing.Standing.{Standing}
use Rattle.fund.specs.declared.standing.Standing.TheVariants.{Binding, Advisory}
use Rattle.settlement.specs.Tables.{AllFit}
use Rattle.assessment.specs.Calendar.{date_of}
use Rattle.settlement.specs.Views.{View, Phase, fresh, open_at, closed, release_due, phase_closed}
use Rattle.settlement.specs.Opening.{started, standing_of, opened, Opens}
use Rattle.settlement.specs.Recording.{IsOpen, HasDay, figures_of, place_of, Records}
use Rattle.settlement.specs.Closing.{told, charged_entry, paid_entry, charged_entries, close_rate, paid_entries, pools_closed, pool_closed, pool_lines, lines_closed, line_at, FundWithin, month_posted, ClosesAt, Closes}
use Rattle.settlement.specs.Releasing.{IsDue, LoadsWithin, shares, released, ReleasesAt, Releases}
use Rattle.settlement.specs.Runs.{MonthClosed, Event, month_closed, fund_released, OpenRun, History, Handed, HandedIfTaken, noted, with_closed, after_open, after_record, after_close, after_release, Run, starts, opens, records, closes, releases}
use Rattle.settlement.specs.Accounts.{worked_lines, returned_lines, Each, PricedAt, BelowCeiling, Settled, charged, paid, given_out, EveryMonth, AccountantsLaw}
use Rattle.settlement.specs.declared.amounts.LineAmount.TheVariants.{Charges, Payments, EligibleQuantity}
use Rattle.settlement.specs.declared.fault.SettlementFault.{SettlementFault}
use Rattle.assessment.specs.declared.month_date.MonthDate.{MonthDate}
use Rattle.settlement.specs.declared.tables.RosterEntry.{RosterEntry}
use Rattle.settlement.specs.declared.tables.MonthTerms.{MonthTerms}
use Rattle.settlement.specs.declared.tables.LineEntry.{LineEntry}
use Rattle.settlement.specs.declared.tables.LoadEntry.{LoadEntry}
use Rattle.settlement.specs.declared.tables.PoolClose.{PoolClose}
use Rattle.settlement.proofs.Steps.{balanced, lighter}
use Rattle.settlement.proofs.Closings.{pools_funded}
use Rattle.settlement.proofs.Rates.{same_charges, same_quantity, rate_capped, payments_within, little_left}
use Rattle.settlement.proofs.Working.{line_law}
use Rattle.settlement.proofs.Ceilings.{priced, ceiling}
use Rattle.settlement.proofs.Shares.{shares_within}
use Rattle.settlement.proofs.Places.{Tallied, tallied_none, noting, tallied_more, line_worked}
use Rattle.settlement.proofs.Returned.{returned, length_table}
use Rattle.settlement.specs.declared.tables.SubmittedDay.{SubmittedDay}

-- what holds of the entry made for each index holds of every entry
each_counted : (P : LineEntry → Type 0) (g : LineEntry → LineEntry) (f : ℕ → LineEntry) (a n : ℕ) → ((i : ℕ) → i < a + n → P (g (f i))) → Each P (map g (map f (range_with_len a n)))
each_counted P g f a zero h = tt
each_counted P g f a (suc n) h = (h a (omega arith), each_counted P g f (a + 1) n (λ i lt. h i (omega arith)))

-- the lines of entries, which are charged and paid after they are made
lines_counted : (rate price : ℕ) (f g : ℕ → Line) (a n : ℕ) → ((i : ℕ) → i < a + n → f i ≡ g i) → map (λ (e : LineEntry). e.line) (map (paid_entry rate) (map (λ i. charged_entry price (f i)) (range_with_len a n))) ≡ map g (range_with_len a n)
lines_counted rate price f g a zero h = refl
lines_counted rate price f g a (suc n) h =
    let here = h a (omega arith) in
    let rest = lines_counted rate price f g (a + 1) n (λ i lt. h i (omega arith)) in
    cc

-- a closed month's terms against the entries of its lines
module _ (r : Rules) (t : TradeMonth) (price : ℕ) (roster : List RosterEntry) (rows : List DayRow) (p : Pool) where
  abbrev entries : List LineEntry
  entries = charged_entries r t price roster rows p

  length_entries : (shown : ℕ) → length (paid_entries price shown entries) ≡ length roster
  unfolding charged_entries
  length_entries shown = simp length-map (length-range_with_len 0 (length roster))

  all_priced : (shown : ℕ) → Each (PricedAt price (close_rate price shown entries)) (paid_entries price shown entries)
  unfolding charged_entries
  all_priced shown = each_counted _ _ _ 0 (length roster) (λ i lt. priced price (close_rate price shown entries) (line_at r t roster rows p i))

  all_below : (lines : List LineEntry) (shown : ℕ) → AllFit roster rows lines → Each (BelowCeiling price) (paid_entries price shown entries)
  unfolding charged_entries
  all_below lines shown fits =
      let rate = close_rate price shown entries in
      let cap = rate_capped price (shown + told Charges entries) (told EligibleQuantity entries) in
      each_counted _ _ _ 0 (length roster) (λ i lt. ceiling price rate _ cap (line_law r t roster rows p i fits.0 fits.2 (omega arith)) (priced price rate (line_at r t roster rows p i)))

entries_worked : (r : Rules) (o : OpenRun) (p : Pool) (shown : ℕ) → Tallied r o.month o.rows
    → map (λ (e : LineEntry). e.line) (paid_entries o.month.terms.price shown (charged_entries r o.month.terms.month o.month.terms.price o.month.roster o.rows p)) ≡ worked_lines r o.month p
unfolding charged_entries worked_lines
entries_worked r o p shown k = lines_counted _ _ _ _ 0 (length o.month.roster) (λ i lt. line_worked r o.month o.rows k p i (omega arith))

-- the phase is not open
abbrev Shut : Phase → Type 0
Shut ph = IsOpen ph → ⊥

closed_shut : (b : Bool) (d : MonthDate) → Shut (cond b (release_due d) (closed d))
closed_shut true d x = x
closed_shut false d x = x

-- a posted close, binding or not: what was paid and what is held against what was charged and what was held
moved : (b : Bool) (st : Standing) (charges payments before after : ℕ) → st ≡ cond b Binding Advisory → (st ≡ Binding → (after ≡ before + charges - payments) × (payments ≤ before + charges)) → (st ≡ Advisory → after ≡ before)
    → before + cond b charges 0 ≡ cond b payments 0 + after
moved true st charges payments before after e binds advises = omega (arith, binds e)
moved false st charges payments before after e binds advises = omega (arith, advises e)

-- the open month: the phase and the book's standing are by its terms, and the day table holds its records
record OpenNow {S : Type 0} (m : FundMeaning S) (r : Rules) (o : OpenRun) (ph : Phase) (s : S) : Type 0 where
  phase : ph ≡ open_at o.month.terms.month o.month.terms.price
  standing : m.standing s ≡ standing_of o.month.terms.standing
  tallied : Tallied r o.month o.rows

abbrev Current : {S : Type 0} → FundMeaning S → Rules → Option OpenRun → Phase → S → Type 0
Current m r None ph s = Shut ph
Current m r (Some o) ph s = OpenNow m r o ph s

-- what every run keeps
record Kept {S : Type 0} (m : FundMeaning S) (sound : S → Type 0) (r : Rules) (opening : Pool → ℕ) (past : List Event) (under : Option OpenRun) (v : View S) : Type 0 where
  keeps : sound v.book
  noted : (p : Pool) → entry_of v.opening p ≡ opening p
  fund : (p : Pool) → opening p + charged p past ≡ paid p past + given_out p past + m.binding v.book p
  months : EveryMonth r past
  current : Current m r under v.phase v.book

-- a month closed over this state of the book
module _ {S : Type 0} (m : FundMeaning S) (r : Rules) (s : S) (o : OpenRun) where
  abbrev closes_to : PerPool PoolClose
  closes_to = pools_closed m r s o.month.terms.month o.month.terms.price o.month.roster o.rows

  abbrev lines_to : Pool → List LineEntry
  lines_to p = pool_lines m r s o.month.terms.month o.month.terms.price o.month.roster o.rows p

  abbrev month_done : MonthClosed
  month_done = record {
    month = o.month;
    before = m.shown s;
    pools = closes_to;
    lines = lines_closed m r s o.month.terms.month o.month.terms.price o.month.roster o.rows;
  }

  pool_done : (p : Pool) → entry_of closes_to p ≡ pool_closed m r s o.month.terms.month o.month.terms.price o.month.roster o.rows p
  pool_done Generic = refl
  pool_done Flexible = refl

  settled : (lines : List LineEntry) → AllFit o.month.roster o.rows lines → Tallied r o.month o.rows → (p : Pool) → Settled r month_done p
  settled lines fits k p =
      let t = o.month.terms.month in
      let price = o.month.terms.price in
      let es = charged_entries r t price o.month.roster o.rows p in
      let shown = m.shown s p in
      let rate = close_rate price shown es in
      let back : returned_lines month_done p ≡ lines_to p = returned month_done lines_to (λ q. length_entries r t price o.month.roster o.rows q (m.shown s q)) refl p in
      let is = pool_done p in
      record {
        from_records = rw back (entries_worked r o p shown k);
        no_others = length_table _ _ (length o.month.roster);
        charges = rw (back, is) (sym (same_charges rate es));
        payments = rw (back, is) refl;
        one_rate = rw (back, is, same_charges rate es, same_quantity rate es) refl;
        priced = rw (back, is) (all_priced r t price o.month.roster o.rows p shown);
        capped = rw is (rate_capped price (shown + told Charges es) (told EligibleQuantity es));
        covered = rw (back, same_charges rate es) (payments_within price shown es);
        little_left = rw (back, is) (little_left price shown es);
        ceilings = rw back (all_below r t price o.month.roster o.rows p lines shown fits);
      }

module _ {S : Type 0} (m : FundMeaning S) (sound : S → Type 0) (r : Rules) (law : Lawful m sound) where
  abbrev Keeps : History → View S → Type 0
  Keeps h v = Kept m sound r h.opening h.past h.current v

  noted_at : (s : S) → sound s → (p : Pool) → entry_of (started m s).opening p ≡ m.binding s p
  noted_at s k Generic = (law.stood s Binding k tt).1.binding Generic
  noted_at s k Flexible = (law.stood s Binding k tt).1.binding Flexible

  kept_start : (s : S) → sound s → Kept m sound r (m.binding s) [] None (started m s)
  kept_start s k =
      let t = law.stood s Binding k tt in
      record { keeps = t.0; noted = noted_at s k; fund = λ p. omega (arith, t.1.binding p); months = tt; current = λ x. x }

  kept_open : (h : History) (v w : View S) (t : MonthTerms) (roster : List RosterEntry) (rows rows' : List DayRow) (a : Result (Unit {0}) SettlementFault)
      → Keeps h v → Opens m v t roster rows a w rows' → Keeps (after_open h t roster a rows') w
  kept_open h v w t roster rows rows' (Ok x) k c =
      let s = law.stood v.book (standing_of t.standing) k.keeps c.0.stands in
      let emptied : rows' ≡ replicate (31 * length roster) None = c.2 ∙ ap (λ n. replicate n None) c.0.fits.1 in
      let next : Kept m sound r h.opening h.past (Some (record { month = record { terms = t; roster = roster; records = [] }; rows = rows' })) (opened m v t) =
      record {
        keeps = s.0;
        noted = k.noted;
        fund = λ p. omega (arith, k.fund p, s.1.binding p);
        months = k.months;
        current = record { phase = refl; standing = s.1.standing; tallied = tallied_none r _ rows' refl emptied };
      } in
      rw c.1 next
  kept_open h v w t roster rows rows' (Err e) k c = rw c.1 k

  recorded : (opening : Pool → ℕ) (past : List Event) (under : Option OpenRun) (v : View S) (roster : List RosterEntry) (rows rows' : List DayRow) (d : SubmittedDay) (f : DayFigures)
      → Kept m sound r opening past under v → Handed under roster rows → Records r v.phase roster rows d.at d.submission (Ok f) rows' → Kept m sound r opening past (noted under d rows') v
  recorded opening past None v roster rows rows' d f k h c = absurd h
  recorded opening past (Some o) v roster rows rows' d f k h c =
      let at-month = k.current.phase in
      let month = o.month.terms.month in
      let dated : HasDay (open_at month o.month.terms.price) d.at.day = subst (λ ph. HasDay ph d.at.day) at-month c.0.dated in
      let figures : f ≡ figures_of r (open_at month o.month.terms.price) o.month.roster d.at d.submission =
      c.1 ∙ ap (λ ph. figures_of r ph roster d.at d.submission) at-month ∙ ap (λ x. figures_of r (open_at month o.month.terms.price) x d.at d.submission) h.0 in
      let stored : rows' ≡ set o.rows (place_of d.at) (Some (figures_of r (open_at month o.month.terms.price) o.month.roster d.at d.submission)) =
      c.2 ∙ ap (λ x. set x (place_of d.at) (Some f)) h.1 ∙ ap (λ x. set o.rows (place_of d.at) (Some x)) figures in
      let more = tallied_more r o.month o.rows d (omega (arith, c.0.known, ap length h.0)) dated.0 (omega (arith, dated.1, days_few month.year month.month)) (rw h.1 at c.0.free) k.current.tallied in
      record {
        keeps = k.keeps;
        noted = k.noted;
        fund = k.fund;
        months = k.months;
        current = record { phase = at-month; standing = k.current.standing; tallied = subst (λ x. Tallied r (noting o.month d) x) (sym stored) more };
      }

  kept_record : (h : History) (v : View S) (roster : List RosterEntry) (rows rows' : List DayRow) (d : SubmittedDay) (a : Result DayFigures SettlementFault)
      → Keeps h v → HandedIfTaken h.current roster rows a → Records r v.phase roster rows d.at d.submission a rows'
      → Keeps (after_record h d a rows') v
  kept_record h v roster rows rows' d (Ok f) k g c = recorded h.opening h.past h.current v roster rows rows' d f k g c
  kept_record h v roster rows rows' d (Err e) k g c = k

  -- the month is closed as its own tables tell
  done : (opening : Pool → ℕ) (past : List Event) (o : OpenRun) (v w : View S) (lines lines' : List LineEntry) (a : PerPool PoolClose)
      → Kept m sound r opening past (Some o) v → Closes m r v o.month.roster o.rows lines (Ok a) w lines'
      → Kept m sound r opening (month_closed (record { month = o.month; before = m.shown v.book; pools = a; lines = lines' }) ∷ past) None w
  done opening past o v w lines lines' a k c =
      let s = v.book in
      let t = o.month.terms.month in
      let price = o.month.terms.price in
      let x = closes_to m r s o in
      let at-month = k.current.phase in
      let after : ClosesAt m r (open_at t price) v o.month.roster o.rows a w lines' = subst (λ ph. ClosesAt m r ph v o.month.roster o.rows a w lines') at-month c.1 in
      let funded = pools_funded m r s t price o.month.roster o.rows x
      (subst (λ ph. FundWithin m r ph s o.month.roster o.rows Generic) at-month c.0.generic)
      (subst (λ ph. FundWithin m r ph s o.month.roster o.rows Flexible) at-month c.0.flexible)
      refl in
      let b = balanced m sound law s x k.keeps funded in
      let each = settled m r s o lines c.0.fits k.current.tallied in
      let next : Kept m sound r opening (month_closed (month_done m r s o) ∷ past) None (record { opening = v.opening; phase = phase_closed (date_of t); book = month_posted m s x }) =
      record {
        keeps = b.keeps;
        noted = k.noted;
        fund = λ p.
            let is = moved (eqb o.month.terms.standing 0) (m.standing s) (told Charges (returned_lines (month_done m r s o) p)) (told Payments (returned_lines (month_done m r s o) p)) (m.binding s p) (m.binding (month_posted m s x) p) k.current.standing
            (λ e. (omega (arith, b.binds e p, (each p).charges, (each p).payments), omega (arith, (each p).covered, (law.holds s k.keeps).agrees e p)))
            (λ e. b.advises e p) in
            omega (arith, k.fund p, is);
        months = (each, k.months);
        current = closed_shut (eqb t.month 12) (date_of t);
      } in
      rw (after.0, after.1, after.2) next

  closed_by : (opening : Pool → ℕ) (past : List Event) (under : Option OpenRun) (v w : View S) (roster : List RosterEntry) (rows : List DayRow) (lines lines' : List LineEntry) (a : PerPool PoolClose)
      → Kept m sound r opening past under v → Handed under roster rows → Closes m r v roster rows lines (Ok a) w lines' → Kept m sound r opening (with_closed under (m.shown v.book) a lines' past) None w
  closed_by opening past None v w roster rows lines lines' a k h c = absurd h
  closed_by opening past (Some o) v w roster rows lines lines' a k h c =
      done opening past o v w lines lines' a k (subst (λ y. Closes m r v o.month.roster y lines (Ok a) w lines') h.1 (subst (λ y. Closes m r v y rows lines (Ok a) w lines') h.0 c))

  kept_close : (h : History) (v w : View S) (roster : List RosterEntry) (rows : List DayRow) (lines lines' : List LineEntry) (a : Result (PerPool PoolClose) SettlementFault)
      → Keeps h v → HandedIfTaken h.current roster rows a → Closes m r v roster rows lines a w lines'
      → Keeps (after_close h (m.shown v.book) a lines') w
  kept_close h v w roster rows lines lines' (Ok a) k g c = closed_by h.opening h.past h.current v w roster rows lines lines' a k g c
  kept_close h v w roster rows lines lines' (Err e) k g c = rw c.1 k

  -- a release is due only while no month is open
  still_shut : (under : Option OpenRun) (d : MonthDate) (s t : S) → Current m r under (release_due d) s → Current m r under (closed d) t
  still_shut None d s t k = λ x. x
  still_shut (Some o) d s t k = absurd (subst IsDue k.phase tt)

  released_by : (ph : Phase) (opening : Pool → ℕ) (past : List Event) (under : Option OpenRun) (v w : View S) (es es' : List LoadEntry)
      → Kept m sound r opening past under v → v.phase ≡ ph → LoadsWithin es → ReleasesAt m ph v es w es' → Kept m sound r opening (fund_released es' ∷ past) under w
  released_by fresh opening past under v w es es' k e some c = absurd c
  released_by (open_at t price) opening past under v w es es' k e some c = absurd c
  released_by (closed d) opening past under v w es es' k e some c = absurd c
  released_by (release_due d) opening past under v w es es' k e some c =
      let s = v.book in
      let within = shares_within m s es some.3 in
      let l = lighter m sound law s (shares m s es) k.keeps within in
      let next : Kept m sound r opening (fund_released (shares m s es) ∷ past) under (record { opening = v.opening; phase = closed d; book = released m s (shares m s es) }) =
      record {
        keeps = l.keeps;
        noted = k.noted;
        fund = λ p. omega (arith, k.fund p, l.binding p, within p);
        months = k.months;
        current = still_shut under d s _ (subst (λ ph. Current m r under ph s) e k.current);
      } in
      rw (c.0, c.1) next

  kept_release : (h : History) (v w : View S) (es es' : List LoadEntry) (a : Result (Unit {0}) SettlementFault)
      → Keeps h v → Releases m v es a w es' → Keeps (after_release h a es') w
  kept_release h v w es es' (Ok x) k c = released_by v.phase h.opening h.past h.current v w es es' k refl c.1 c.2
  kept_release h v w es es' (Err e) k c = rw c.1 k

  kept : {h : History} {v : View S} → Run m sound r h v → Keeps h v
  kept (starts s k) = kept_start s k
  kept (opens t roster rows rows' a run c) = kept_open _ _ _ t roster rows rows' a (kept run) c
  kept (records roster rows rows' d a run g c) = kept_record _ _ roster rows rows' d a (kept run) g c
  kept (closes roster rows lines lines' a run g c) = kept_close _ _ _ roster rows lines lines' a (kept run) g c
  kept (releases es es' a run c) = kept_release _ _ _ es es' a (kept run) c

  pub accountants_law : (v : View S) → AccountantsLaw m sound r v
  accountants_law v h run = let k = kept run in record { fund = k.fund; noted = k.noted; months = k.months }
