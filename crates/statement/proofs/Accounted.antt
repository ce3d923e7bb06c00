-- A settled month file is a run of the settlement, so the accountant's law holds of its statement.
use Rattle.std.proofs.Common.{◌≡◌, ℕ, zero, suc, ◌+◌, ◌-◌, ◌*◌, ◌<◌, ◌≤◌, Bool, true, false, cond, ◌&&◌, eqb, ltb, leb, List, [], ◌∷◌, ◌++◌, length, replicate, Some, None, Ok, Err, Option, Result, sym, refl, ap, ◌∙◌, subst, arith, rules, length-append, length-set}
use lib.ListN.{length-replicate}
use Rattle.std.proofs.lemmas.Bool.{ltb-true, leb-true}
use Rattle.std.proofs.lemmas.Bool.Decides.{nat_tests}
use Rattle.assessment.specs.Figures.{DayRow}
use Rattle.fund.specs.BalanceBook.{balance_book, no_money}
use Rattle.fund.specs.Balances.{Balances, Within, limit}
use Rattle.fund.specs.BalanceBookLemmas.{balance_lawful}
use Rattle.fund.specs.Meaning.{Lawful, TakesStanding}
use Rattle.fund.specs.Overlay.{Overlaid, OverlaidSound, over}
use Rattle.pools.specs.PerPool.{entry_of}
use Rattle.fund.specs.declared.fault.BookFault.TheVariants.{OverLimit}
use Rattle.pools.specs.declared.pool.Pool.{Pool}
use Rattle.pools.specs.declared.pool.Pool.TheVariants.{Generic, Flexible}
use Rattle.fund.specs.declared.standing.Standing.{Standing}
use Rattle.fund.specs.declared.standing.Standing.TheVariants.{Binding}
use Rattle.fund.specs.Overlaid.{overlay_lawful}
use Rattle.settlement.proofs.Closings.{pools_funded}
use Rattle.settlement.proofs.Law.{accountants_law}
use Rattle.settlement.proofs.Steps.{balanced}
use Rattle.settlement.specs.Accounts.{Settled}
use Rattle.settlement.specs.Closing.{no_line}
use Rattle.settlement.specs.Opening.{TermsWithin, standing_of}
use Rattle.settlement.specs.Recording as recording
use Rattle.settlement.specs.Recording.{place_of, figures_of}
use Rattle.settlement.specs.Runs.{MonthClosed, Run, starts, opens, records, closes}
use Rattle.settlement.specs.Tables.{RosterFits, DaysFit, EachRowWithin, category_of}
use Rattle.settlement.specs.Views.{open_at}
use Rattle.settlement.specs.declared.fault.SettlementFault.{SettlementFault}
use Rattle.settlement.specs.declared.fault.SettlementFault.TheVariants.{Book}
use Rattle.settlement.specs.declared.tables.MonthTerms.{MonthTerms}
use Rattle.settlement.specs.declared.tables.RosterEntry.{RosterEntry}
use Rattle.statement.specs.Answers.{and_then}
use Rattle.statement.specs.Files.{Records, MonthPart, RosterPart, records_of, reader_fault, settlement_fault, month_part, roster_from}
use Rattle.statement.specs.Laws.{days_taken, month_told, StatementsKeepTheLaw}
use Rattle.statement.specs.Rosters.{enrolled}
use Rattle.statement.specs.Settling.{MonthStatement, DaysPart, terms_within, is_empty, pool_book, shipped_rules, open_view, open_book, no_days, recorded, days_from, fund_in, closed_lines, closed_pools, closed_book, closed_statement, closed_month, told_at, settled_from, settled_records, settled}
use Rattle.statement.specs.declared.fault.Located.{Located}
use Rattle.statement.specs.declared.fault.ReaderFault.{ReaderFault}
use Rattle.statement.specs.declared.fault.ReaderFault.TheVariants.{Misplaced}
use Rattle.statement.specs.declared.fault.StatementFault.{StatementFault}
use Rattle.statement.specs.declared.records.FileRecord.TheVariants.{Month, Resource, Day}
use Rattle.settlement.specs.declared.tables.SubmittedDay.{SubmittedDay}
use Rattle.statement.proofs.Answering.{required, parts, same_ok}
use Rattle.statement.proofs.Limits.{decides_terms, decides_between, decides_day, decides_flexible}
use Rattle.statement.proofs.Recorded.{rows_stay}
use Rattle.statement.proofs.Wholes.{empty_within}

-- a day that the definition takes is one that the settlement takes
is_free : (x : DayRow) → is_empty x ≡ true → x ≡ None
is_free x h = search rules

pub recorded_taken : (t : MonthTerms) (roster : List RosterEntry) (rows more : List DayRow) (d : SubmittedDay) → DaysFit roster rows → recorded t roster rows d ≡ Ok more
    → recording.Records shipped_rules (open_at t.month t.price) roster rows d.at d.submission (Ok (figures_of shipped_rules (open_at t.month t.price) roster d.at d.submission)) more
unfolding recorded
recorded_taken t roster rows more d fit h =
    let a = required _ _ _ more h in
    let b = required _ _ _ more a.1 in
    let c = required _ _ _ more b.1 in
    let e = required _ _ _ more c.1 in
    let f = required _ _ _ more e.1 in (
      record {
        fits = fit;
        in_turn = tt;
        known = ltb-true d.at.resource (length roster) a.0;
        dated = (decides_between 1 _ d.at.day).0 b.0;
        free = is_free _ c.0;
        within = (decides_day d.submission).0 e.0;
        allowed = (decides_flexible _ d.submission).0 f.0;
      },
      refl,
      sym (same_ok _ more f.1),
    )

-- the resources that the definition enrolls fit the settlement
category_more : (roster : List RosterEntry) (e : RosterEntry) (i : ℕ) → ((k : ℕ) → k < length roster → category_of roster k ≤ 3) → e.category ≤ 3 → category_of (roster ++ e ∷ []) i ≤ 3
category_more [] e zero h le = le
category_more [] e (suc i) h le = omega arith
category_more (x ∷ xs) e zero h le = h 0 (omega arith)
category_more (x ∷ xs) e (suc i) h le = category_more xs e i (λ k l. h (suc k) (omega arith)) le

still_fits : (roster more : List RosterEntry) (e : RosterEntry) → RosterFits roster → enrolled roster e ≡ Ok more → RosterFits more
still_fits roster more e fits h =
    let a = required (ltb (length roster) 64 && leb e.category 3) _ _ more h in
    let few : length roster < 64 = grind (arith, nat_tests) in
    let low : e.category ≤ 3 = grind (arith, nat_tests) in
    let is = same_ok _ more a.1 in
    subst RosterFits is (omega (arith, length-append roster (e ∷ [])), λ i l. category_more roster e i fits.1 low)

-- an open month with these days taken, as a run
abbrev MonthRuns : MonthTerms → List RosterEntry → List SubmittedDay → List DayRow → Type 0
MonthRuns t roster ds rows = Run pool_book (OverlaidSound Within) shipped_rules (record {
  opening = pool_book.binding (over balance_book no_money);
  past = [];
  current = Some (record { month = record { terms = t; roster = roster; records = ds }; rows = rows });
}) (open_view t)

takes_standing : (s : Overlaid Balances) (d : Standing) → TakesStanding pool_book s d
takes_standing s d = search rules

shows_none : (d : Standing) (p : Pool) → pool_book.shown (pool_book.stood (over balance_book no_money) d) p ≡ 0
shows_none d p = search rules

opened_runs : (t : MonthTerms) (roster : List RosterEntry) → RosterFits roster → TermsWithin t → MonthRuns t roster [] (no_days roster)
unfolding open_view
opened_runs t roster fits within =
    let long : length (no_days roster) ≡ 31 * length roster = length-replicate (31 * length roster) None in
    let sound : OverlaidSound Within (over balance_book no_money) = record { lower = record { generic = omega arith; flexible = omega arith }; showing = tt } in
    opens t roster (no_days roster) (no_days roster) (Ok tt) (starts (over balance_book no_money) sound) (
      record { fits = (fits, long); in_turn = tt; within = within; next = tt; stands = takes_standing (pool_book.stood (over balance_book no_money) Binding) (standing_of t.standing) },
      refl,
      ap (λ (n : ℕ). replicate n None) (sym long),
    )

-- the day table fits and is within its limits, and the days so far are a run
pub record Held (t : MonthTerms) (roster : List RosterEntry) (ds : List SubmittedDay) (rows : List DayRow) : Type 0 where
  pub fit : DaysFit roster rows
  pub within : EachRowWithin rows
  pub run : MonthRuns t roster ds rows

one_day : (t : MonthTerms) (roster : List RosterEntry) (ds : List SubmittedDay) (rows more : List DayRow) (d : SubmittedDay) → recorded t roster rows d ≡ Ok more → Held t roster ds rows → Held t roster (d ∷ ds) more
unfolding open_view
one_day t roster ds rows more d h k =
    let taken = recorded_taken t roster rows more d k.fit h in
    record {
      fit = (k.fit.0, ap length taken.2 ∙ length-set rows (place_of d.at) _ ∙ k.fit.1);
      within = rows_stay t roster rows more d (Ok (figures_of shipped_rules (open_at t.month t.price) roster d.at d.submission)) taken k.within;
      run = records roster rows more d (Ok (figures_of shipped_rules (open_at t.month t.price) roster d.at d.submission)) k.run (refl, refl) taken;
    }

-- a day, and the days after it
module _ (t : MonthTerms) (roster : List RosterEntry) (at : ℕ) (rs : Records) where
  abbrev pub after_day : Result (List DayRow) SettlementFault → Result DaysPart (Located StatementFault)
  after_day a = elim a [ Ok more ↦ days_from t roster more (at + 412) rs | Err f ↦ Err (settlement_fault f at) ]

  pub day_first : (days : DaysPart) (a : Result (List DayRow) SettlementFault) → after_day a ≡ Ok days → (more : List DayRow) × ((a ≡ Ok more) × (days_from t roster more (at + 412) rs ≡ Ok days))
  day_first days (Ok more) h = (more, (refl, h))
  day_first days (Err f) h = cc

-- the days that are left go on with the run
days_run : (t : MonthTerms) (roster : List RosterEntry) (rs : Records) (at : ℕ) (days : DaysPart) (ds : List SubmittedDay) (rows : List DayRow) → Held t roster ds rows → days_from t roster rows at rs ≡ Ok days → Held t roster (days_taken ds rs) days.rows
unfolding days_from days_taken
days_run t roster [] at days ds rows k h = subst (λ (x : DaysPart). Held t roster ds x.rows) (same_ok _ days h) k
days_run t roster (Err f ∷ rs) at days ds rows k h = cc
days_run t roster (Ok (Month m) ∷ rs) at days ds rows k h = cc
days_run t roster (Ok (Resource x) ∷ rs) at days ds rows k h = cc
days_run t roster (Ok (Day d) ∷ rs) at days ds rows k h =
    let a = day_first t roster at rs days (recorded t roster rows d) h in
    days_run t roster rs (at + 412) days (d ∷ ds) a.0 (one_day t roster ds rows a.0 d a.1.0 k) a.1.1

no_fund : (t : MonthTerms) (p : Pool) → pool_book.shown (open_book t) p ≡ 0
unfolding open_view
no_fund t p = shows_none (standing_of t.standing) p

pool_lawful : Lawful pool_book (OverlaidSound Within)
pool_lawful = overlay_lawful balance_book Within balance_lawful

open_sound : (t : MonthTerms) → OverlaidSound Within (open_book t)
unfolding open_view
open_sound t =
    let start : OverlaidSound Within (over balance_book no_money) = record { lower = record { generic = omega arith; flexible = omega arith }; showing = tt } in
    let stood = (pool_lawful.stood (over balance_book no_money) Binding start tt).0 in
    (pool_lawful.stood (pool_book.stood (over balance_book no_money) Binding) (standing_of t.standing) stood (takes_standing (pool_book.stood (over balance_book no_money) Binding) (standing_of t.standing))).0

-- the close ends the run, and the law holds of the month that it closed
module _ (t : MonthTerms) (roster : List RosterEntry) (ds : List SubmittedDay) (rows : List DayRow) where
  abbrev told : MonthStatement → MonthClosed
  told s = record { month = record { terms = t; roster = roster; records = ds }; before = pool_book.shown (open_book t); pools = s.pools; lines = s.lines }

  closed_law : Held t roster ds rows → fund_in t roster rows Generic ≤ limit → fund_in t roster rows Flexible ≤ limit → (p : Pool) → Settled shipped_rules (told (closed_statement t roster rows)) p
  unfolding open_view
  closed_law k g f =
      let before = replicate (2 * length roster) no_line in
      (accountants_law pool_book (OverlaidSound Within) shipped_rules pool_lawful _ _
      (closes roster rows before (closed_lines t roster rows) (Ok (closed_pools t roster rows)) k.run (refl, refl)
      (record { fits = (k.fit, length-replicate (2 * length roster) no_line, k.within); in_turn = tt; generic = g; flexible = f }, (refl, refl, refl)))).months.0

  closed_parts : (s : MonthStatement) → closed_month t roster rows ≡ Ok s → (fund_in t roster rows Generic ≤ limit) × (fund_in t roster rows Flexible ≤ limit) × (closed_statement t roster rows ≡ s)
  unfolding closed_month
  closed_parts s h =
      let a = required (leb (fund_in t roster rows Generic) limit) (Book (OverLimit Generic)) _ s h in
      let b = required (leb (fund_in t roster rows Flexible) limit) (Book (OverLimit Flexible)) _ s a.1 in
      (leb-true _ _ a.0, leb-true _ _ b.0, same_ok _ s b.1)

  month_law : (s : MonthStatement) → Held t roster ds rows → closed_month t roster rows ≡ Ok s → (p : Pool) → Settled shipped_rules (told s) p
  month_law s k h p =
      let c = closed_parts s h in
      subst (λ (x : MonthStatement). Settled shipped_rules (told x) p) c.2 (closed_law k c.0 c.1 p)

  entry_shown : (p : Pool) → entry_of (closed_statement t roster rows).shown p ≡ pool_book.shown (closed_book t roster rows) p
  entry_shown p = search rules

  month_balance : (s : MonthStatement) → closed_month t roster rows ≡ Ok s → (p : Pool) → entry_of s.shown p ≡ (entry_of s.pools p).charges - (entry_of s.pools p).payments
  month_balance s h p =
      let c = closed_parts s h in
      let funded = pools_funded pool_book shipped_rules (open_book t) t.month t.price roster rows (closed_pools t roster rows) c.0 c.1 refl in
      let after = (balanced pool_book (OverlaidSound Within) pool_lawful (open_book t) (closed_pools t roster rows) (open_sound t) funded).shown p in
      let is : entry_of (closed_statement t roster rows).shown p ≡ (entry_of (closed_pools t roster rows) p).charges - (entry_of (closed_pools t roster rows) p).payments =
      omega (arith, entry_shown p, after, no_fund t p) in
      subst (λ (x : MonthStatement). entry_of x.shown p ≡ (entry_of x.pools p).charges - (entry_of x.pools p).payments) c.2 is

  month_terms : (s : MonthStatement) → closed_month t roster rows ≡ Ok s → t ≡ s.terms
  month_terms s h = subst (λ (x : MonthStatement). t ≡ x.terms) (closed_parts s h).2 refl

pub told_ok : {A : Type 0} (at : ℕ) (r : Result A SettlementFault) (x : A) → told_at at r ≡ Ok x → r ≡ Ok x
told_ok at (Ok y) x h = let e = same_ok y x h in ap Ok e
told_ok at (Err f) x h = cc

-- from the terms and the resources of a file
from_part : (t : MonthTerms) (part : RosterPart) (s : MonthStatement) → RosterFits part.roster → settled_from t part ≡ Ok s → ((p : Pool) → Settled shipped_rules (month_told s part) p) × ((p : Pool) → entry_of s.shown p ≡ (entry_of s.pools p).charges - (entry_of s.pools p).payments)
unfolding settled_from
from_part t part s fits h =
    let a = parts _ _ s h in
    let b = parts _ _ s a.1.1 in
    let opened = required (terms_within t) _ _ _ (told_ok 0 _ a.0 a.1.0) in
    let start : Held t part.roster [] (no_days part.roster) = record {
      fit = (fits, length-replicate (31 * length part.roster) None);
      within = empty_within _ (31 * length part.roster) refl;
      run = opened_runs t part.roster fits ((decides_terms t).0 opened.0);
    } in
    let k = days_run t part.roster part.rest part.offset b.0 [] (no_days part.roster) start b.1.0 in
    let closed = told_ok b.0.offset _ s b.1.1 in
    let e = month_terms t part.roster (days_taken [] part.rest) b.0.rows s closed in
    (λ p. subst (λ (x : MonthTerms). Settled shipped_rules (told x part.roster (days_taken [] part.rest) b.0.rows s) p) e (month_law t part.roster (days_taken [] part.rest) b.0.rows s k closed p), month_balance t part.roster (days_taken [] part.rest) b.0.rows s closed)

-- a resource, and the records after it
abbrev pub numbered : Bool → RosterEntry → Result (Option RosterEntry) ReaderFault
numbered b e = cond b (Ok (Some e)) (Err Misplaced)

abbrev pub entered : ℕ → Records → Result (List RosterEntry) SettlementFault → Result RosterPart (Located StatementFault)
entered at rs a = elim a [ Ok more ↦ roster_from more (at + 16) rs | Err f ↦ Err (settlement_fault f at) ]

abbrev pub listing : List RosterEntry → ℕ → Records → Records → Result (Option RosterEntry) ReaderFault → Result RosterPart (Located StatementFault)
listing roster at whole rs a = elim a [
  | Ok o ↦ elim o [ Some e ↦ entered at rs (enrolled roster e) | None ↦ Ok (record { roster = roster; offset = at; rest = whole }) ]
  | Err f ↦ Err (reader_fault f at)
]

entered_first : (at : ℕ) (rs : Records) (part : RosterPart) (a : Result (List RosterEntry) SettlementFault) → entered at rs a ≡ Ok part → (more : List RosterEntry) × ((a ≡ Ok more) × (roster_from more (at + 16) rs ≡ Ok part))
entered_first at rs part (Ok more) h = (more, (refl, h))
entered_first at rs part (Err f) h = cc

pub listed_first : (roster : List RosterEntry) (at : ℕ) (whole rs : Records) (part : RosterPart) (e : RosterEntry) (b : Bool) → listing roster at whole rs (numbered b e) ≡ Ok part
    → (b ≡ true) × ((more : List RosterEntry) × ((enrolled roster e ≡ Ok more) × (roster_from more (at + 16) rs ≡ Ok part)))
listed_first roster at whole rs part e true h = (refl, entered_first at rs part (enrolled roster e) h)
listed_first roster at whole rs part e false h = cc

-- the resources of a file fit the settlement
pub listed_fits : (at : ℕ) (rs : Records) (part : RosterPart) (roster : List RosterEntry) → RosterFits roster → roster_from roster at rs ≡ Ok part → RosterFits part.roster
unfolding roster_from
listed_fits at [] part roster fits h = subst (λ (x : RosterPart). RosterFits x.roster) (same_ok _ part h) fits
listed_fits at (Err f ∷ rs) part roster fits h = cc
listed_fits at (Ok (Month m) ∷ rs) part roster fits h = cc
listed_fits at (Ok (Day d) ∷ rs) part roster fits h = subst (λ (x : RosterPart). RosterFits x.roster) (same_ok _ part h) fits
listed_fits at (Ok (Resource x) ∷ rs) part roster fits h =
    let a = listed_first roster at (Ok (Resource x) ∷ rs) rs part x.entry (eqb x.number (length roster)) h in
    listed_fits (at + 16) rs part a.1.0 (still_fits roster a.1.0 x.entry fits a.1.1.0) a.1.1.1

pub statements_keep_the_law : StatementsKeepTheLaw
unfolding settled settled_records
statements_keep_the_law bs s h =
    let a = parts (month_part (records_of bs)) _ s h in
    let b = parts (roster_from [] 36 a.0.rest) _ s a.1.1 in
    let fits = listed_fits 36 a.0.rest b.0 [] (omega arith, λ i l. omega arith) b.1.0 in
    let c = from_part a.0.terms b.0 s fits b.1.1 in
    record {
      part = b.0;
      read = ap (λ (r : Result MonthPart (Located StatementFault)). and_then r (λ m. roster_from [] 36 m.rest)) a.1.0 ∙ b.1.0;
      law = c.0;
      no_fund = no_fund s.terms;
      balance = c.1;
    }
