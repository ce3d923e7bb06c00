-- The day table holds what the taken records say.
use Rattle.std.proofs.Common.{◌≡◌, ℕ, zero, suc, ◌+◌, ◌-◌, ◌*◌, ◌<◌, ◌≤◌, List, [], ◌∷◌, length, get_or, take, drop, set, replicate, sum_by, refl, ap, ◌∙◌, ⊎_elim, arith, length-drop, length-set, length-take, get_or-drop, get_or-take, drop-set-lt, None, Some}
use lib.ListN.{length-replicate}
use lib.Seq.{take-set-lt, take-set-le, drop-set-add}
use Rattle.std.proofs.lemmas.List.{take-replicate, drop-replicate}
use Rattle.std.proofs.lemmas.List.Sums.{sum_by-cons, sum_by-set}
use Rattle.std.proofs.lemmas.Bool.{cases_order, eq-eqb, ne_eqb}
use Rattle.assessment.specs.Days.{Rules}
use Rattle.assessment.specs.Lines.{no_figures, line_of}
use Rattle.assessment.specs.Lines as rows
use Rattle.assessment.specs.Figures.{DayFigures, DayRow}
use Rattle.pools.specs.declared.pool.Pool.{Pool}
use Rattle.pools.specs.declared.pool.Pool.TheVariants.{Generic, Flexible}
use Rattle.settlement.specs.Tables.{places_of}
use Rattle.settlement.specs.Recording.{place_of}
use Rattle.settlement.specs.Closing.{line_at}
use Rattle.settlement.specs.Runs.{MonthRun}
use Rattle.settlement.specs.Accounts.{figures_for, if_of, worked_line}
use Rattle.settlement.specs.declared.tables.SubmittedDay.{SubmittedDay}

-- a figure over the 31 places of a resource, and over its records
abbrev in_places : (DayFigures → ℕ) → List DayRow → ℕ → ℕ
in_places f table i = sum_by (λ x. f (rows.figures_in x)) (places_of table i)

abbrev in_records : Rules → MonthRun → (DayFigures → ℕ) → ℕ → ℕ
in_records r m f i = sum_by (λ d. if_of d i (f (figures_for r m d))) m.records

-- the table has 31 places a resource, and every figure that is 0 of an empty place is as its records say
pub record Tallied (r : Rules) (m : MonthRun) (table : List DayRow) : Type 0 where
  pub long : length table ≡ 31 * length m.roster
  pub agrees : (f : DayFigures → ℕ) → f no_figures ≡ 0 → (i : ℕ) → i < length m.roster → in_places f table i ≡ in_records r m f i

-- a write to one of the 31 places from b on changes a sum over them by what was there and what is written
window_set : {X : Type 0} (g : X → ℕ) (xs : List X) (b k p : ℕ) (y d : X) → p ≡ b + k → k < 31 → p < length xs → sum_by g (take 31 (drop b (set xs p y))) + g (get_or xs p d) ≡ sum_by g (take 31 (drop b xs)) + g y
window_set g xs b k p y d e h inside =
    let w : k < length (take 31 (drop b xs)) = simp (length-take, length-drop) (omega arith) in
    rw (e, drop-set-add, take-set-lt, ← get_or-drop b xs k d, ← get_or-take 31 (drop b xs) k d h) (sum_by-set g (take 31 (drop b xs)) k y d w)

-- and a write elsewhere leaves them
window_before : {X : Type 0} (xs : List X) (b p : ℕ) (y : X) → p < b → take 31 (drop b (set xs p y)) ≡ take 31 (drop b xs)
window_before xs b p y h = rw drop-set-lt

window_after : {X : Type 0} (xs : List X) (b k p : ℕ) (y : X) → p ≡ b + k → 31 ≤ k → take 31 (drop b (set xs p y)) ≡ take 31 (drop b xs)
window_after xs b k p y e h = rw (e, drop-set-add, take-set-le)

sum_empty : (g : DayRow → ℕ) → g None ≡ 0 → (n : ℕ) → sum_by g (replicate n None) ≡ 0
sum_empty g z zero = refl
sum_empty g z (suc n) = omega (arith, sum_by-cons g None (replicate n None), sum_empty g z n)

-- an emptied table, before any record
pub tallied_none : (r : Rules) (m : MonthRun) (table : List DayRow) → m.records ≡ [] → table ≡ replicate (31 * length m.roster) None → Tallied r m table
tallied_none r m table none e =
    let n = length m.roster in
    record {
      long = ap length e ∙ length-replicate (31 * n) None;
      agrees = λ f z i lt.
          let room : 31 ≤ 31 * n - 31 * i = omega arith in
          rw (e, none, drop-replicate, take-replicate) (sum_empty (λ x. f (rows.figures_in x)) z 31);
    }

-- the same month with one record more
abbrev pub noting : MonthRun → SubmittedDay → MonthRun
noting m d = record { terms = m.terms; roster = m.roster; records = d ∷ m.records }

-- a record to a free place
pub tallied_more : (r : Rules) (m : MonthRun) (table : List DayRow) (d : SubmittedDay) → d.at.resource < length m.roster → 1 ≤ d.at.day → d.at.day ≤ 31
    → get_or table (place_of d.at) None ≡ None → Tallied r m table → Tallied r (noting m d) (set table (place_of d.at) (Some (figures_for r m d)))
tallied_more r m table d known first last free t =
    let p = place_of d.at in
    let y = Some (figures_for r m d) in
    let long = t.long in
    record {
      long = rw length-set t.long;
      agrees = λ f z i lt.
          let b = 31 * i in
          let g = λ (x : DayRow). f (rows.figures_in x) in
          let more = sum_by-cons (λ (x : SubmittedDay). if_of x i (f (figures_for r m x))) d m.records in
          let ih = t.agrees f z i lt in
          ⊎_elim
          (λ e.
          let none : g (get_or table p None) ≡ 0 = ap g free ∙ z in
          let here : if_of d i (f (figures_for r m d)) ≡ f (figures_for r m d) = rw (eq-eqb d.at.resource i e) refl in
          omega (arith, window_set g table b (d.at.day - 1) p y None (omega arith) (omega arith) (omega arith)))
          (⊎_elim
          (λ l.
          let none : if_of d i (f (figures_for r m d)) ≡ 0 = rw (ne_eqb d.at.resource i (omega arith)) refl in
          rw (window_before table b p y (omega arith)) (omega arith))
          (λ l.
          let none : if_of d i (f (figures_for r m d)) ≡ 0 = rw (ne_eqb d.at.resource i (omega arith)) refl in
          rw (window_after table b (p - b) p y (omega arith) (omega arith)) (omega arith)))
          (cases_order d.at.resource i);
    }

same_line : (n : ℕ) {o o' a a' : ℕ} → o ≡ o' → a ≡ a' → line_of o a n ≡ line_of o' a' n
same_line n {o = o} {o' = o'} {a = a} {a' = a'} p q = ap (λ x. line_of x a n) p ∙ ap (λ x. line_of o' x n) q

-- a line of the table is the line of the records
pub line_worked : (r : Rules) (m : MonthRun) (table : List DayRow) → Tallied r m table → (p : Pool) (i : ℕ) → i < length m.roster → line_at r m.terms.month m.roster table p i ≡ worked_line r m p i
line_worked r m table t Generic i lt = same_line _ (t.agrees (λ f. f.generic.obligation) refl i lt) (t.agrees (λ f. f.generic.availability) refl i lt)
line_worked r m table t Flexible i lt = same_line _ (t.agrees (λ f. f.flexible.obligation) refl i lt) (t.agrees (λ f. f.flexible.availability) refl i lt)
