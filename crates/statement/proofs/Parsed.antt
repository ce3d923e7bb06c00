-- The records of a file, one after another.
use Rattle.std.proofs.Common.{◌≡◌, ℕ, zero, suc, ◌-◌, ◌<◌, ◌≤◌, List, [], ◌∷◌, length, take, drop, Some, Ok, Err, Result, sym, refl, ap, ◌∙◌, inl, inr, arith, rules, length-drop}
use Rattle.std.proofs.lemmas.List.{drop_all, take_rest}
use Rattle.std.proofs.lemmas.Bool.{eq-eqb, ne_eqb, cases_eq}
use Rattle.settlement.specs.declared.tables.MonthTerms.{MonthTerms}
use Rattle.settlement.specs.declared.tables.RosterEntry.{RosterEntry}
use Rattle.statement.specs.Files.{Records, records_from, records_of}
use Rattle.statement.specs.Layout.{record_of, size_of}
use Rattle.statement.specs.Reading.{as_month, as_resource, as_day}
use Rattle.statement.specs.declared.fault.ReaderFault.{ReaderFault}
use Rattle.statement.specs.declared.records.FileRecord.{FileRecord}
use Rattle.settlement.specs.declared.tables.SubmittedDay.{SubmittedDay}

size_some : (x : FileRecord) → 0 < size_of x
size_some x = search rules

-- what stands after a record
abbrev pub after : (FileRecord → Records) → Result FileRecord ReaderFault → Records
after f (Ok x) = Ok x ∷ f x
after f (Err e) = Err e ∷ []

after_same : (r : Result FileRecord ReaderFault) (f g : FileRecord → Records) → ((x : FileRecord) → f x ≡ g x) → after f r ≡ after g r
after_same r f g h = search rules

step : (k : ℕ) (bs : List ℕ) → 0 < length bs → records_from (suc k) bs ≡ after (λ x. records_from k (drop (size_of x) bs)) (record_of bs)
unfolding records_from
step k bs some = let ne : length bs ≡ 0 → ⊥ = λ e. omega arith in rw (ne_eqb (length bs) 0 ne) (turned (record_of bs))
  where
    turned : (r : Result FileRecord ReaderFault) → elim r [ Ok x ↦ Ok x ∷ records_from k (drop (size_of x) bs) | Err f ↦ Err f ∷ [] ] ≡ after (λ x. records_from k (drop (size_of x) bs)) r
    turned r = search rules

none : (k : ℕ) (bs : List ℕ) → length bs ≡ 0 → records_from k bs ≡ []
unfolding records_from
none zero bs e = refl
none (suc k) bs e = rw (eq-eqb (length bs) 0 e)

-- more turns than bytes make no difference
fuel : (k j : ℕ) (bs : List ℕ) → length bs ≤ k → length bs ≤ j → records_from k bs ≡ records_from j bs
fuel zero j bs a b = let e : length bs ≡ 0 = omega arith in none zero bs e ∙ sym (none j bs e)
fuel (suc k) zero bs a b = let e : length bs ≡ 0 = omega arith in none (suc k) bs e ∙ sym (none zero bs e)
fuel (suc k) (suc j) bs a b =
    elim (cases_eq (length bs) 0) [
      | inl e ↦ none (suc k) bs e ∙ sym (none (suc j) bs e)
      | inr ne ↦
          step k bs (omega arith)
          ∙ after_same (record_of bs) _ _ (λ x. fuel k j (drop (size_of x) bs) (omega (arith, length-drop (size_of x) bs, size_some x)) (omega (arith, length-drop (size_of x) bs, size_some x)))
          ∙ sym (step j bs (omega arith))
    ]

-- the records after the first
abbrev pub rest_of : List ℕ → Result FileRecord ReaderFault → Records
rest_of bs (Ok x) = records_of (drop (size_of x) bs)
rest_of bs (Err f) = []

after_is : (bs : List ℕ) (r : Result FileRecord ReaderFault) → after (λ x. records_of (drop (size_of x) bs)) r ≡ r ∷ rest_of bs r
after_is bs r = search rules

pub records_some : (bs : List ℕ) → 0 < length bs → records_of bs ≡ record_of bs ∷ rest_of bs (record_of bs)
unfolding records_of
records_some bs some =
    fuel (length bs) (suc (length bs)) bs (omega arith) (omega arith)
    ∙ step (length bs) bs some
    ∙ after_same (record_of bs) _ _ (λ x. fuel (length bs) (length (drop (size_of x) bs)) (drop (size_of x) bs) (omega (arith, length-drop (size_of x) bs)) (omega arith))
    ∙ after_is bs (record_of bs)

nothing : records_of [] ≡ []
unfolding records_of records_from
nothing = refl

pub records_none : (bs : List ℕ) (at : ℕ) → length bs ≤ at → records_of (drop at bs) ≡ []
records_none bs at h = ap records_of (drop_all at bs h) ∙ nothing

-- what follows each kind
pub rest_month : (bs : List ℕ) (r : Result FileRecord ReaderFault) (t : MonthTerms) → as_month r ≡ Ok t → rest_of bs r ≡ records_of (drop 36 bs)
rest_month bs r t h = search rules

pub rest_resource : (bs : List ℕ) (n : ℕ) (r : Result FileRecord ReaderFault) (e : RosterEntry) → as_resource n r ≡ Ok (Some e) → rest_of bs r ≡ records_of (drop 16 bs)
rest_resource bs n r e h = search rules

pub rest_day : (bs : List ℕ) (r : Result FileRecord ReaderFault) (d : SubmittedDay) → as_day r ≡ Ok d → rest_of bs r ≡ records_of (drop 412 bs)
rest_day bs r d h = search rules

-- the records from an offset on
pub records_at : (bs : List ℕ) (at : ℕ) → at < length bs → records_of (drop at bs) ≡ record_of (drop at bs) ∷ rest_of (drop at bs) (record_of (drop at bs))
records_at bs at lt = records_some (drop at bs) (omega (arith, length-drop at bs))

pub take_rest_length : (bs : List ℕ) (at : ℕ) → length (take (length bs - at) (drop at bs)) ≡ length bs - at
take_rest_length bs at = ap length (take_rest bs at) ∙ length-drop at bs
