use Rattle.std.proofs.Common.{◌≡◌, ◌<◌, get_or, ℕ, arith, ◌+◌, refl, rules, Result, MatchResult, Ok, Err, None}
use Rattle.std.proofs.lemmas.List.FromFn.{fill_by_all}
use Rattle.std.proofs.lemmas.Result.{MatchResult-from_both, MatchResult-at_ok, MatchResult-at_err, IfOk-weaker, IfErr-weaker}
use Rattle.assessment.specs.Figures.{DayRow}
use Rattle.examples.specs.declared.refusal.Refusal.{Refusal}
use Rattle.examples.specs.Months.{row_on, rows_of, RowRefused}
use Rattle.assessment.proofs.Arrays.{each_made}
use Rattle.examples.proofs.stretch.PlannedMonth.rows.Goals as goal

pub returns : goal.returns
unfolding rows_of
returns c =
    let month = c.args.settings.now.month in
    let stretches = c.args.self.now.stretches.now in
    let row : ℕ → DayRow = λ k. row_on month stretches (k + 1) in
    let Works : ℕ → Result DayRow Refusal → Type 0 = λ k r. MatchResult r (λ x. x ≡ row k) (RowRefused month stretches (k + 1)) in
    let days = c.from_fn-rows.result in
    let each = each_made _ (λ f. (f.0.now ≡ c.args.self.now) × (f.1.now ≡ c.args.settings.now)) Works 31 (λ f g k r lt keeps called. search rules) _ _ (refl, refl) c.from_fn-rows.ensures.items in
    MatchResult-from_both c.try_map.result _ _
    (IfOk-weaker c.try_map.result _ _ (λ rows made. fill_by_all row rows 31 None made.long (λ k lt.
    let same = made.at k (Ok None) None lt in
    let is : get_or days k (Ok None) ≡ Ok (get_or rows k None) = search rules in
    MatchResult-at_ok _ _ _ is (each k (Ok None) lt))) c.try_map.ensures.ok)
    (IfErr-weaker c.try_map.result _ _ (λ e refused.
    let x = refused.0 in
    let i = refused.1.0 in
    let lt : i < 31 = omega (arith, refused.1.1, c.from_fn-rows.ensures.items.long) in
    let is : get_or days i x ≡ Err e = search rules in
    (i, lt, MatchResult-at_err _ _ _ is (each i x lt))) c.try_map.ensures.err)
