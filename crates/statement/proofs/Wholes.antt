-- A month file settled part by part.
use Rattle.std.proofs.Common.{◌≡◌, ℕ, ◌*◌, ◌<◌, List, [], ◌∷◌, length, drop, replicate, Ok, Err, Result, sym, refl, ap, ◌∙◌, subst, inl, inr, arith, rules, None}
use Rattle.std.proofs.lemmas.Bool.{cases_eq}
use Rattle.assessment.specs.Lines.{PoolWithin, RowWithin, no_figures}
use Rattle.assessment.proofs.Pools.{each_pool}
use Rattle.pools.specs.PerPool.{entry_of}
use Rattle.assessment.specs.Figures.{DayRow}
use Rattle.fund.specs.Balances.{Balances}
use Rattle.fund.specs.Overlay.{Overlaid}
use Rattle.settlement.specs.Tables.{EachRowWithin}
use Rattle.settlement.specs.Views.{View, open_at}
use Rattle.settlement.specs.declared.fault.SettlementFault.{SettlementFault}
use Rattle.settlement.specs.declared.tables.MonthTerms.{MonthTerms}
use Rattle.settlement.specs.declared.tables.RosterEntry.{RosterEntry}
use Rattle.statement.specs.Answers.{and_then}
use Rattle.statement.specs.Files.{Records, records_of, month_part, roster_from, reader_fault, settlement_fault}
use Rattle.statement.specs.Layout.{record_of}
use Rattle.statement.specs.Months.{roster_part, opened_month, days_recorded}
use Rattle.statement.specs.Open.{MonthSoFar}
use Rattle.statement.specs.Reading.{as_month}
use Rattle.statement.specs.Settling.{MonthStatement, opens, open_view, no_days, closed_month, told_at, settled_from, settled_records, settled}
use Rattle.statement.specs.declared.fault.Located.{Located}
use Rattle.statement.specs.declared.fault.ReaderFault.{ReaderFault}
use Rattle.statement.specs.declared.fault.ReaderFault.TheVariants.{EndsInside}
use Rattle.statement.specs.declared.fault.StatementFault.{StatementFault}
use Rattle.statement.specs.declared.records.FileRecord.{FileRecord}
use Rattle.statement.proofs.Copies.{all_same}
use Rattle.statement.proofs.Parsed.{records_none, records_some, rest_month}

pub open_phase : (t : MonthTerms) (v : View (Overlaid Balances)) → v ≡ open_view t → v.phase ≡ open_at t.month t.price
unfolding open_view
open_phase t v e = ap (λ (u : View (Overlaid Balances)). u.phase) e

-- an empty day table
pub empty_within : (rows : List DayRow) (n : ℕ) → rows ≡ replicate n None → EachRowWithin rows
empty_within rows n e = subst EachRowWithin (sym e) (λ k lt. subst RowWithin (sym (all_same {A = DayRow} None n k)) (each_pool (λ p. PoolWithin (entry_of no_figures p)) (omega arith, omega arith) (omega arith, omega arith)))

-- the month opened over an empty day table
pub opened_taken : (t : MonthTerms) (roster : List RosterEntry) (rows : List DayRow) (n : ℕ) → n ≡ 31 * length roster → opens t ≡ Ok tt → rows ≡ replicate n None → opened_month t roster ≡ Ok (record { terms = t; roster = roster; rows = rows })
opened_taken t roster rows n l o e = rw (o, e, l) refl

pub opened_refused : (t : MonthTerms) (roster : List RosterEntry) (f : SettlementFault) → opens t ≡ Err f → opened_month t roster ≡ Err (settlement_fault f 0)
opened_refused t roster f h = rw h refl

pub told_ok : {A : Type 0} (at : ℕ) (r : Result A SettlementFault) (x : A) → r ≡ Ok x → told_at at r ≡ Ok x
told_ok at r x h = rw h

pub told_err : {A : Type 0} (at : ℕ) (r : Result A SettlementFault) (f : SettlementFault) → r ≡ Err f → told_at at r ≡ Err (settlement_fault f at)
told_err at r f h = rw h

-- the month record
first_month : (rs : Records) (r : Result FileRecord ReaderFault) (t : MonthTerms) → as_month r ≡ Ok t → month_part (r ∷ rs) ≡ Ok (record { terms = t; rest = rs })
first_month rs r t h = rw (h, month_part)

first_fault : (rs : Records) (r : Result FileRecord ReaderFault) (f : ReaderFault) → as_month r ≡ Err f → month_part (r ∷ rs) ≡ Err (reader_fault f 0)
first_fault rs r f h = rw (h, month_part)

-- an empty file ends inside its first record
empty_fault : (bs : List ℕ) → length bs ≡ 0 → as_month (record_of bs) ≡ Err EndsInside
empty_fault bs e = rw e

module _ (bs : List ℕ) where
  pub month_read : (r : Result MonthTerms ReaderFault) (t : MonthTerms) → 0 < length bs → r ≡ as_month (record_of bs) → r ≡ Ok t → month_part (records_of bs) ≡ Ok (record { terms = t; rest = records_of (drop 36 bs) })
  month_read r t some v h =
      ap month_part (records_some bs some) ∙ first_month _ (record_of bs) t (sym v ∙ h)
      ∙ ap (λ (rs : Records). Ok (record { terms = t; rest = rs })) (rest_month bs (record_of bs) t (sym v ∙ h))

  pub settled_by : (t : MonthTerms) → month_part (records_of bs) ≡ Ok (record { terms = t; rest = records_of (drop 36 bs) }) → settled bs ≡ and_then (roster_from [] 36 (records_of (drop 36 bs))) (λ part. settled_from t part)
  unfolding settled settled_records
  settled_by t h = rw h refl

  month_none : length bs ≡ 0 → month_part (records_of bs) ≡ Err (reader_fault EndsInside 0)
  month_none e = ap month_part (records_none bs 0 (omega arith))

  pub month_refused : (r : Result MonthTerms ReaderFault) (f : ReaderFault) → r ≡ as_month (record_of bs) → r ≡ Err f → month_part (records_of bs) ≡ Err (reader_fault f 0)
  month_refused r f v h =
      elim (cases_eq (length bs) 0) [
        | inl e ↦ let x = empty_fault bs e in month_none e ∙ cc
        | inr ne ↦ ap month_part (records_some bs (omega arith)) ∙ first_fault _ (record_of bs) f (sym v ∙ h)
      ]

  pub settled_unread : (f : Located StatementFault) → month_part (records_of bs) ≡ Err f → settled bs ≡ Err f
  unfolding settled settled_records
  settled_unread f h = rw h

-- the month opened, its days recorded, and the close
chained : (x : Result (Unit {0}) (Located StatementFault)) (m : MonthSoFar) (g : MonthSoFar → Result MonthStatement (Located StatementFault)) → and_then x (λ _. g m) ≡ and_then (and_then x (λ _. Ok m)) g
chained x m g = search rules

pub settled_open : (t : MonthTerms) (bs : List ℕ) (roster : List RosterEntry) → settled_from t (roster_part bs roster) ≡ and_then (opened_month t roster) (λ m. and_then (days_recorded m bs) (λ days. told_at days.offset (closed_month m.terms m.roster days.rows)))
unfolding settled_from
settled_open t bs roster =
    chained (told_at 0 (opens t)) (record { terms = t; roster = roster; rows = no_days roster })
    (λ m. and_then (days_recorded m bs) (λ days. told_at days.offset (closed_month m.terms m.roster days.rows)))
