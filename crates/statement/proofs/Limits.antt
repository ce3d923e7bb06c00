-- The tests of a month's terms and of a day decide the limits that the settlement states.
use Rattle.std.proofs.Common.{◌≡◌, ℕ, ◌/◌, ◌^◌, ◌≤◌, Bool, false, leb, Decides, refl, rules}
use Rattle.std.proofs.lemmas.Bool.{leb-true, le-leb}
use Rattle.std.proofs.lemmas.Bool.Decides.{Decides-eqb, Decides-and, Decides-like, Decides-below_and, nat_tests}
use Rattle.assessment.specs.Calendar.{days_of, DateWithin, WindowsWithin}
use Rattle.assessment.specs.Records.{HourWithin, BidsWithin, FlexibleAllowed, bids_after}
use Rattle.assessment.specs.declared.trade_month.TradeMonth.{TradeMonth}
use Rattle.assessment.specs.declared.submission.HourBids.{HourBids}
use Rattle.assessment.specs.declared.submission.Showing.{Showing}
use Rattle.assessment.specs.declared.submission.DaySubmission.{DaySubmission}
use Rattle.settlement.specs.Opening.{TermsWithin}
use Rattle.settlement.specs.Recording.{DayWithin}
use Rattle.settlement.specs.declared.tables.MonthTerms.{MonthTerms}
use Rattle.statement.specs.Settling.{between, date_within, windows_within, terms_within, showing_within, hour_within, hours_within, day_within, flexible_allowed}

-- a test is false where what it decides is refuted
pub refuted : {P : Type 0} (b : Bool) → Decides b P → (P → ⊥) → b ≡ false
refuted b d n = search rules

decides_leb : (a b : ℕ) → Decides (leb a b) (a ≤ b)
decides_leb a b = (leb-true a b, le-leb a b)

pub decides_between : (low high n : ℕ) → Decides (between low high n) ((low ≤ n) × (n ≤ high))
decides_between low high n = search (rules, nat_tests)

decides_date : (m : TradeMonth) → Decides (date_within m) (DateWithin m)
decides_date m = search (rules, nat_tests)

decides_windows : (m : TradeMonth) → Decides (windows_within m) (WindowsWithin m)
decides_windows m = search (rules, nat_tests)

pub decides_terms : (t : MonthTerms) → Decides (terms_within t) (TermsWithin t)
unfolding terms_within
decides_terms t =
    Decides-like _ (λ x. ((x.0, x.1.0, x.1.1.0), x.1.1.1.0, x.1.1.1.1)) (λ x. (x.0.0, (x.0.1, (x.0.2, (x.1, x.2)))))
    (Decides-and _ _ (decides_date t.month)
    (Decides-and _ _ (Decides-eqb (t.month.holidays / 2 ^ days_of t.month) 0)
    (Decides-and _ _ (decides_windows t.month)
    (Decides-and _ _ (decides_leb t.price 500000) (decides_leb t.standing 1)))))

decides_showing : (s : Showing) → Decides (showing_within s) ((s.shown ≤ 2000000) × ((s.exempt ≤ 2000000) × (s.exempt ≤ s.shown)))
decides_showing s = search (rules, nat_tests)

decides_hour : (b : HourBids) → Decides (hour_within b) (HourWithin b)
unfolding hour_within
decides_hour b = search (rules, nat_tests)

decides_hours : (d : DaySubmission) → Decides (hours_within d 24) (BidsWithin d)
unfolding hours_within
decides_hours d =
    Decides-below_and (λ n. hour_within (bids_after d n)) (λ n. HourWithin (bids_after d n)) (hours_within d) (λ n. decides_hour (bids_after d n)) refl (λ n. refl) 24

pub decides_day : (d : DaySubmission) → Decides (day_within d) (DayWithin d)
unfolding day_within
decides_day d =
    Decides-like _
    (λ x. (((x.0.0, x.0.1.0), (x.1.0.0, x.1.0.1.0)), x.1.1, (x.0.1.1, x.1.0.1.1)))
    (λ x. ((x.0.0.0, (x.0.0.1, x.2.0)), ((x.0.1.0, (x.0.1.1, x.2.1)), x.1)))
    (Decides-and _ _ (decides_showing d.showings.generic) (Decides-and _ _ (decides_showing d.showings.flexible) (decides_hours d)))

pub decides_flexible : (category : ℕ) (d : DaySubmission) → Decides (flexible_allowed category d) (FlexibleAllowed category d)
unfolding flexible_allowed
decides_flexible category d = search (rules, nat_tests)
