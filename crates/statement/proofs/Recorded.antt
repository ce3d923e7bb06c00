-- A settlement's record of a day is the definition's, and keeps every row within its limits.
use Rattle.std.proofs.Common.{◌≡◌, ℕ, false, List, length, set, Ok, Err, Result, sym, ap, ◌∙◌, subst, inl, inr, arith, rules, length-set, None, Some}
use native.Mathlib.Nat.{min-le_left, min-le_right}
use Rattle.std.proofs.lemmas.List.{get_or-set_same, get_or-set_other}
use Rattle.std.proofs.lemmas.Bool.{lt-ltb, le-ltb, cases_eq}
use Rattle.assessment.proofs.DayLaws.{day_law}
use Rattle.assessment.specs.Days.{DayCase, day_figures}
use Rattle.assessment.specs.Laws.{RulesOwed}
use Rattle.assessment.specs.Lines.{PoolWithin, RowWithin}
use Rattle.assessment.proofs.Pools.{each_pool}
use Rattle.pools.specs.PerPool.{entry_of}
use Rattle.assessment.specs.Figures.{DayFigures, DayRow}
use Rattle.settlement.specs.Recording as recording
use Rattle.settlement.specs.Recording.{place_of, figures_of}
use Rattle.settlement.specs.Tables.{DaysFit, EachRowWithin}
use Rattle.settlement.specs.Views.{open_at}
use Rattle.settlement.specs.declared.fault.ResourceDay.{ResourceDay}
use Rattle.settlement.specs.declared.fault.SettlementFault.{SettlementFault}
use Rattle.settlement.specs.declared.fault.SettlementFault.TheVariants.{UnknownResource, NoSuchDay, AlreadyRecorded, DayOverLimit, FlexibleInCategory0}
use Rattle.settlement.specs.declared.tables.MonthTerms.{MonthTerms}
use Rattle.settlement.specs.declared.tables.RosterEntry.{RosterEntry}
use Rattle.statement.specs.Answers.{Leaves}
use Rattle.statement.specs.Settling.{is_empty, shipped_rules, recorded}
use Rattle.settlement.specs.declared.tables.SubmittedDay.{SubmittedDay}
use Rattle.statement.proofs.Answering.{met, unmet}
use Rattle.statement.proofs.Limits.{refuted, decides_between, decides_day, decides_flexible}

not_empty : (x : DayRow) → (x ≡ None → ⊥) → is_empty x ≡ false
not_empty x n = search rules

pub recorded_is : (t : MonthTerms) (roster : List RosterEntry) (rows rows' : List DayRow) (d : SubmittedDay) (a : Result DayFigures SettlementFault)
    → DaysFit roster rows → recording.Records shipped_rules (open_at t.month t.price) roster rows d.at d.submission a rows' → Leaves a rows' (recorded t roster rows d)
unfolding recorded
recorded_is t roster rows rows' d (Ok f) fit h =
    met _ _ _ (lt-ltb d.at.resource (length roster) h.0.known)
    ∙ met _ _ _ ((decides_between 1 _ d.at.day).1 h.0.dated)
    ∙ met _ _ _ (ap is_empty h.0.free)
    ∙ met _ _ _ ((decides_day d.submission).1 h.0.within)
    ∙ met _ _ _ ((decides_flexible _ d.submission).1 h.0.allowed)
    ∙ ap Ok (ap (λ (x : DayFigures). set rows (place_of d.at) (Some x)) (sym h.1) ∙ sym h.2)
recorded_is t roster rows rows' d (Err (UnknownResource x)) fit h =
    unmet _ _ _ (le-ltb d.at.resource (length roster) (omega (arith, h.0.3)))
    ∙ ap (λ (y : ResourceDay). Err (UnknownResource y)) (sym h.0.0)
recorded_is t roster rows rows' d (Err (NoSuchDay x)) fit h =
    met _ _ _ (lt-ltb d.at.resource (length roster) h.0.3)
    ∙ unmet _ _ _ (refuted _ (decides_between 1 _ d.at.day) h.0.4)
    ∙ ap (λ (y : ResourceDay). Err (NoSuchDay y)) (sym h.0.0)
recorded_is t roster rows rows' d (Err (AlreadyRecorded x)) fit h =
    met _ _ _ (lt-ltb d.at.resource (length roster) h.0.3)
    ∙ met _ _ _ ((decides_between 1 _ d.at.day).1 h.0.4)
    ∙ unmet _ _ _ (not_empty _ h.0.5)
    ∙ ap (λ (y : ResourceDay). Err (AlreadyRecorded y)) (sym h.0.0)
recorded_is t roster rows rows' d (Err (DayOverLimit x)) fit h =
    met _ _ _ (lt-ltb d.at.resource (length roster) h.0.3)
    ∙ met _ _ _ ((decides_between 1 _ d.at.day).1 h.0.4)
    ∙ met _ _ _ (ap is_empty h.0.5)
    ∙ unmet _ _ _ (refuted _ (decides_day d.submission) h.0.6)
    ∙ ap (λ (y : ResourceDay). Err (DayOverLimit y)) (sym h.0.0)
recorded_is t roster rows rows' d (Err (FlexibleInCategory0 x)) fit h =
    met _ _ _ (lt-ltb d.at.resource (length roster) h.0.3)
    ∙ met _ _ _ ((decides_between 1 _ d.at.day).1 h.0.4)
    ∙ met _ _ _ (ap is_empty h.0.5)
    ∙ met _ _ _ ((decides_day d.submission).1 h.0.6)
    ∙ unmet _ _ _ (refuted _ (decides_flexible _ d.submission) h.0.7)
    ∙ ap (λ (y : ResourceDay). Err (FlexibleInCategory0 y)) (sym h.0.0)
recorded_is t roster rows rows' d (Err e) fit h = search rules

-- the rules that ship keep what every rule owes
rules_owed : RulesOwed shipped_rules
rules_owed = record {
  generic = record { economic = λ o e s. min-le_right o e; scheduled = λ o e s. min-le_right _ s; taken = λ o e s. omega (arith, min-le_left o e) };
  flexible = record { economic = λ o e s. min-le_right o e; scheduled = λ o e s. omega arith; taken = λ o e s. omega (arith, min-le_left o e) };
}

figures_within : (c : DayCase) (f : DayFigures) → f ≡ day_figures shipped_rules c → recording.DayWithin c.submission → RowWithin (Some f)
figures_within c f e w =
    let l = day_law shipped_rules c rules_owed in
    rw e (each_pool (λ p. PoolWithin (entry_of (day_figures shipped_rules c) p)) (l.generic_within, omega (arith, l.generic_capped)) (l.flexible_within, omega (arith, l.flexible_capped)))

set_within : (rows : List DayRow) (i : ℕ) (x : DayRow) → RowWithin x → EachRowWithin rows → EachRowWithin (set rows i x)
set_within rows i x w h k lt =
    elim (cases_eq k i) [
      | inl e ↦ rw e (subst RowWithin (sym (get_or-set_same rows i x None (omega (arith, length-set rows i x)))) w)
      | inr ne ↦ subst RowWithin (sym (get_or-set_other rows i k x None ne)) (h k (omega (arith, length-set rows i x)))
    ]

pub rows_stay : (t : MonthTerms) (roster : List RosterEntry) (rows rows' : List DayRow) (d : SubmittedDay) (a : Result DayFigures SettlementFault)
    → recording.Records shipped_rules (open_at t.month t.price) roster rows d.at d.submission a rows' → EachRowWithin rows → EachRowWithin rows'
rows_stay t roster rows rows' d (Ok f) h w =
    subst EachRowWithin (sym h.2) (set_within rows (place_of d.at) (Some f) (figures_within _ f h.1 h.0.within) w)
rows_stay t roster rows rows' d (Err e) h w = subst EachRowWithin (sym h.1) w
