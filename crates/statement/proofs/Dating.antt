-- One step of recording the days.
use Rattle.std.proofs.Common.{◌≡◌, ℕ, ◌+◌, ◌-◌, ◌<◌, ◌≤◌, List, [], ◌∷◌, length, take, drop, Ok, Err, Result, sym, refl, ap, ◌∙◌, arith}
use Rattle.std.proofs.lemmas.List.{drop-drop, take_rest}
use Rattle.assessment.specs.Figures.{DayRow}
use Rattle.settlement.specs.declared.fault.SettlementFault.{SettlementFault}
use Rattle.settlement.specs.declared.tables.MonthTerms.{MonthTerms}
use Rattle.settlement.specs.declared.tables.RosterEntry.{RosterEntry}
use Rattle.statement.specs.Files.{Records, records_of, reader_fault, settlement_fault}
use Rattle.statement.specs.Layout.{record_of}
use Rattle.statement.specs.Reading.{as_day}
use Rattle.statement.specs.Settling.{recorded, days_from, days_part}
use Rattle.statement.specs.declared.fault.ReaderFault.{ReaderFault}
use Rattle.statement.specs.declared.records.FileRecord.{FileRecord}
use Rattle.settlement.specs.declared.tables.SubmittedDay.{SubmittedDay}
use Rattle.statement.proofs.Parsed.{records_at, records_none, rest_day}

module _ (t : MonthTerms) (roster : List RosterEntry) (rows : List DayRow) where
  days_none : (at : ℕ) → days_from t roster rows at [] ≡ Ok (days_part rows at)
  unfolding days_from
  days_none at = refl

  days_fault : (at : ℕ) (r : Result FileRecord ReaderFault) (rs : Records) (f : ReaderFault) → as_day r ≡ Err f → days_from t roster rows at (r ∷ rs) ≡ Err (reader_fault f at)
  unfolding days_from
  days_fault at r rs f h = rw (h, days_from)

  days_refuse : (at : ℕ) (r : Result FileRecord ReaderFault) (rs : Records) (d : SubmittedDay) (f : SettlementFault) → as_day r ≡ Ok d → recorded t roster rows d ≡ Err f → days_from t roster rows at (r ∷ rs) ≡ Err (settlement_fault f at)
  unfolding days_from
  days_refuse at r rs d f h g = rw (h, days_from) (rw g)

  days_step : (more : List DayRow) (at : ℕ) (r : Result FileRecord ReaderFault) (rs : Records) (d : SubmittedDay) → as_day r ≡ Ok d → recorded t roster rows d ≡ Ok more → days_from t roster rows at (r ∷ rs) ≡ days_from t roster more (at + 412) rs
  unfolding days_from
  days_step more at r rs d h g = rw (h, days_from) (rw g)

  pub days_end : (bs : List ℕ) (at : ℕ) → length bs ≤ at → at ≤ length bs → days_from t roster rows at (records_of (drop at bs)) ≡ Ok (days_part rows (length bs))
  days_end bs at h g =
      let e : at ≡ length bs = omega arith in
      ap (days_from t roster rows at) (records_none bs at h) ∙ days_none at ∙ ap (λ (n : ℕ). Ok (days_part rows n)) e

  -- the record read at an offset of the file
  module _ (bs : List ℕ) (at : ℕ) (r : Result SubmittedDay ReaderFault) (lt : at < length bs) (is : r ≡ as_day (record_of (take (length bs - at) (drop at bs)))) where
    read : r ≡ as_day (record_of (drop at bs))
    read = is ∙ ap (λ xs. as_day (record_of xs)) (take_rest bs at)

    pub days_reader : (f : ReaderFault) → r ≡ Err f → days_from t roster rows at (records_of (drop at bs)) ≡ Err (reader_fault f at)
    days_reader f h = ap (days_from t roster rows at) (records_at bs at lt) ∙ days_fault at _ _ f (sym read ∙ h)

    pub days_refused : (d : SubmittedDay) (f : SettlementFault) → r ≡ Ok d → recorded t roster rows d ≡ Err f → days_from t roster rows at (records_of (drop at bs)) ≡ Err (settlement_fault f at)
    days_refused d f h g = ap (days_from t roster rows at) (records_at bs at lt) ∙ days_refuse at _ _ d f (sym read ∙ h) g

    pub days_more : (d : SubmittedDay) (more : List DayRow) → r ≡ Ok d → recorded t roster rows d ≡ Ok more → days_from t roster rows at (records_of (drop at bs)) ≡ days_from t roster more (at + 412) (records_of (drop (at + 412) bs))
    days_more d more h g =
        ap (days_from t roster rows at) (records_at bs at lt)
        ∙ days_step more at _ _ d (sym read ∙ h) g
        ∙ ap (days_from t roster more (at + 412)) (rest_day (drop at bs) (record_of (drop at bs)) d (sym read ∙ h) ∙ ap records_of (drop-drop 412 at bs))
