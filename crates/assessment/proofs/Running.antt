-- One step more of a sum over 1 to n.
use Rattle.std.proofs.Common.{◌≡◌, ℕ, zero, suc, ◌+◌, ◌*◌, ◌≤◌, Bool, cond, ◌||◌, ltb, sum_by, count_by, List, [], ◌∷◌, ◌∙◌, sym, refl, ap, add-zero, mul-add, add-one, arith}
use Rattle.std.proofs.lemmas.Bool.Decides.{nat_tests}
use Rattle.std.specs.List.{range_with_len, list_any}
use Rattle.std.proofs.lemmas.List.Sums.{sum_by-cons}
use Rattle.assessment.specs.Calendar.{days_of}
use Rattle.assessment.specs.declared.settings.MonthSettings.{MonthSettings}
use Rattle.assessment.specs.Sums.{sum_to, count_to}

pub sum_none : (f : ℕ → ℕ) → sum_to f 0 ≡ 0
unfolding sum_to
sum_none f = refl

pub sum_more : (f : ℕ → ℕ) (n : ℕ) → sum_to f (n + 1) ≡ sum_to f n + f (n + 1)
unfolding sum_to
sum_more f n = ap (sum_to f) (add-one n)

-- the numbers after a, listed
pub sum_listed : (f : ℕ → ℕ) (a n : ℕ) → sum_to f a + sum_by f (range_with_len (a + 1) n) ≡ sum_to f (a + n)
sum_listed f a zero = omega (arith, ap (sum_to f) (add-zero a))
sum_listed f a (suc n) =
    let next : a + 1 + n ≡ a + suc n = omega arith in
    omega (arith, sum_by-cons f (a + 1) (range_with_len (a + 1 + 1) n), sum_more f a, sum_listed f (a + 1) n, ap (sum_to f) next)

-- one of the numbers passes where more than none is counted
one_or_more : (b : Bool) (n : ℕ) → (b || ltb 0 n) ≡ ltb 0 (cond b 1 0 + n)
one_or_more b n = grind (arith, nat_tests)

any_counted : (p : ℕ → Bool) (xs : List ℕ) → list_any p xs ≡ ltb 0 (count_by p xs)
any_counted p [] = refl
any_counted p (x ∷ xs) = ap (λ b. p x || b) (any_counted p xs) ∙ one_or_more (p x) (count_by p xs) ∙ ap (ltb 0) (sym (sum_by-cons (λ i. cond (p i) 1 0) x xs))

pub count_listed : (p : ℕ → Bool) (n : ℕ) → count_by p (range_with_len 1 n) ≡ count_to p n
count_listed p n =
    let from_none : 0 + n ≡ n = omega arith in
    omega (arith, sum_listed (λ i. cond (p i) 1 0) 0 n, sum_none (λ i. cond (p i) 1 0), ap (count_to p) from_none)

-- 1 where the test is passed
abbrev pub one : (ℕ → Bool) → ℕ → ℕ
one p d = cond (p d) 1 0

-- the days of a month that pass a test
pub days_summed : (p : ℕ → Bool) (s : MonthSettings) (n : ℕ) → n ≡ sum_by (one p) (range_with_len 1 s.days) → n ≡ count_to p (days_of s.month)
days_summed p s n is = is ∙ count_listed p s.days ∙ ap (count_to p) s.days_are

pub any_listed : (p : ℕ → Bool) (n : ℕ) → list_any p (range_with_len 1 n) ≡ ltb 0 (count_to p n)
any_listed p n = any_counted p (range_with_len 1 n) ∙ ap (ltb 0) (count_listed p n)

pub sum_mono : (f g : ℕ → ℕ) → ((i : ℕ) → f i ≤ g i) → (n : ℕ) → sum_to f n ≤ sum_to g n
unfolding sum_to
sum_mono f g le zero = omega arith
sum_mono f g le (suc n) = omega (arith, sum_mono f g le n, le (n + 1))

pub sum_scaled : (f g : ℕ → ℕ) (k : ℕ) → ((i : ℕ) → f i ≤ k * g i) → (n : ℕ) → sum_to f n ≤ k * sum_to g n
unfolding sum_to
sum_scaled f g k le zero = omega arith
sum_scaled f g k le (suc n) = omega (arith, sum_scaled f g k le n, le (n + 1), mul-add k (sum_to g n) (g (n + 1)))

pub sum_at_least : (f g : ℕ → ℕ) (k : ℕ) → ((i : ℕ) → k * g i ≤ f i) → (n : ℕ) → k * sum_to g n ≤ sum_to f n
unfolding sum_to
sum_at_least f g k le zero = omega arith
sum_at_least f g k le (suc n) = omega (arith, sum_at_least f g k le n, le (n + 1), mul-add k (sum_to g n) (g (n + 1)))

pub at_most_one : (b : Bool) → cond b 1 0 ≤ 1
at_most_one b = grind (arith, nat_tests)

pub count_le : (p : ℕ → Bool) (n : ℕ) → count_to p n ≤ n
unfolding sum_to
count_le p zero = omega arith
count_le p (suc n) = omega (arith, count_le p n, at_most_one (p (n + 1)))
