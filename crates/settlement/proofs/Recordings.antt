-- A taken record, from its tests.
use Rattle.std.proofs.Common.{◌≡◌, ℕ, ◌≤◌, List, set, Ok, refl, ap, ◌∙◌, subst, Some}
use Rattle.assessment.specs.Calendar.{days_of}
use Rattle.assessment.specs.Days.{Rules, day_case, day_figures}
use Rattle.assessment.specs.Records.{FlexibleAllowed}
use Rattle.assessment.specs.declared.settings.MonthSettings.{MonthSettings}
use Rattle.assessment.specs.declared.settings.TradeDay.{TradeDay}
use Rattle.assessment.specs.declared.submission.DaySubmission.{DaySubmission}
use Rattle.assessment.specs.declared.day_record.DatedRecord.{DatedRecord}
use Rattle.assessment.specs.Figures.{DayFigures, DayRow}
use Rattle.settlement.specs.Recording.{place_of, InRoster, IsFree, DayWithin, Records}
use Rattle.settlement.specs.Tables.{category_of, DaysFit}
use Rattle.settlement.specs.Views.{Phase, open_at}
use Rattle.settlement.specs.declared.fault.ResourceDay.{ResourceDay}
use Rattle.settlement.specs.declared.tables.RosterEntry.{RosterEntry}

-- what is assessed is the day that was handed in
case_is : (x : DatedRecord) (s : MonthSettings) (k c : ℕ) (sub : DaySubmission) → (x.day.day ≡ k) × (x.day.settings ≡ s) → x.record.submission ≡ sub → x.record.category.number ≡ c → day_case x ≡ record { month = s.month; category = c; day = k; submission = sub }
case_is x s k c sub day submission category = cc (day.0, ap (λ (y : MonthSettings). y.month) day.1, submission, category)

-- a day of a month is within it
day_within : (d : TradeDay) (s : MonthSettings) (k : ℕ) → (d.day ≡ k) × (d.settings ≡ s) → (1 ≤ k) × (k ≤ days_of s.month)
day_within d s k is =
    let high : d.day ≤ days_of d.settings.month = subst (λ n. d.day ≤ n) d.settings.days_are d.in_month.1 in (
      subst (λ n. 1 ≤ n) is.0 d.in_month.0,
      subst (λ n. n ≤ days_of s.month) is.0 (subst (λ (y : MonthSettings). d.day ≤ days_of y.month) is.1 high),
    )

pub record_taken : (r : Rules) (p : Phase) (s : MonthSettings) (price : ℕ) (roster : List RosterEntry) (rows rows' : List DayRow) (at : ResourceDay) (sub : DaySubmission) (f : DayFigures) (row : DayRow) (x : DatedRecord)
    → p ≡ open_at s.month price → DaysFit roster rows → InRoster roster at → (x.day.day ≡ at.day) × (x.day.settings ≡ s) → IsFree rows at
    → x.record.submission ≡ sub → x.record.category.number ≡ category_of roster at.resource
    → f ≡ day_figures r (day_case x) → row ≡ Some f → rows' ≡ set rows (place_of at) row
    → Records r p roster rows at sub (Ok f) rows'
record_taken r p s price roster rows rows' at sub f row x e fit known day free submission category figures stored written =
    let allowed : FlexibleAllowed (category_of roster at.resource) sub = subst (FlexibleAllowed (category_of roster at.resource)) submission (subst (λ y. FlexibleAllowed y x.record.submission) category x.record.flexible) in
    rw (e, written, stored) (
      record { fits = fit; in_turn = tt; known = known; dated = day_within x.day s at.day day; free = free; within = subst DayWithin submission (x.record.showings, x.record.bids, x.record.exemptions); allowed = allowed },
      figures ∙ ap (day_figures r) (case_is x s at.day (category_of roster at.resource) sub day submission category),
      refl,
    )
