-- A day's watts grow with the amount, and never pass the larger net showing.
use Rattle.std.proofs.Common.{◌≡◌, ℕ, ◌+◌, ◌*◌, ◌/◌, ◌<◌, ◌≤◌, ap, ◌∙◌, ⊎_elim, mul_comm, add-mul, add_comm, lt_of_mul-lt-mul_right, div-mul-le_self, le_of_mul-le-mul_right, arith}
use native.Mathlib.Nat.{div-le_of_le-mul, lt-div-mul-add}
use Rattle.std.proofs.lemmas.Bool.{cases_lt}
use Rattle.std.proofs.lemmas.Bool.Decides.{nat_tests}
use Rattle.std.proofs.lemmas.Nat.{mul-le}
use Rattle.assessment.specs.Days.{figure, weight}
use Rattle.assessment.specs.Totals.{Totals}

pub div_mono : (x y k : ℕ) → x ≤ y → x / k ≤ y / k
div_mono x y k h = grind arith

pub figure_mono : (x y : ℕ) (own other : Totals) (m : ℕ) → x ≤ y → figure x own other m ≤ figure y own other m
figure_mono x y own other m h =
    grind (arith, nat_tests, div_mono (1000 * x) (1000 * y) own.hours (omega arith), div_mono (1000 * x * other.hours * m) (1000 * y * other.hours * m) (weight own other) (grind arith))

weighed : (S f m : ℕ) → 1000 * S * f * m ≡ S * f * (1000 * m)
weighed S f m = grind arith

-- what is owed to k kW in each hour comes to 1000 k watts
pub figure_capped : (k : ℕ) (own other : Totals) (m : ℕ) → own.owed ≤ k * own.hours → m ≤ k → figure own.owed own other m ≤ 1000 * k
figure_capped k own other m owed h =
    let alone = div-le_of_le-mul own.hours {m = 1000 * own.owed} {n = 1000 * k} (omega (arith, mul_comm k own.hours)) in
    let shared = div-le_of_le-mul (weight own other) {m = 1000 * own.owed * other.hours * m} {n = 1000 * k} (rw (weighed own.owed other.hours m) (mul-le (own.owed * other.hours) (1000 * m) (weight own other) (1000 * k) (omega arith) (omega arith))) in
    grind (arith, nat_tests, alone, shared)

pub watts_within : (w x : ℕ) (own other : Totals) (m : ℕ) → own.owed ≤ 2000000 * own.hours → x ≤ own.owed → m ≤ 2000000 → w ≡ figure x own other m → (w ≤ figure own.owed own other m) × (w ≤ 2000000000)
watts_within w x own other m s h k is =
    let grows = figure_mono x own.owed own other m h in
    let cap : figure own.owed own other m ≤ 2000000000 = figure_capped 2000000 own other m s k in
    (omega arith, omega arith)

-- two parts of a whole, each rounded down
pub parts : (a b D m : ℕ) → 0 < D → a + b ≡ m * D → (a / D + b / D ≤ m) × (m < a / D + b / D + 2)
parts a b D m pos e =
    let low : (a / D + b / D) * D ≤ m * D = omega (arith, add-mul (a / D) (b / D) D, div-mul-le_self a D, div-mul-le_self b D) in
    let high : m * D < (a / D + b / D + 2) * D =
    omega (arith, add-mul (a / D + b / D) 2 D, add-mul (a / D) (b / D) D, lt-div-mul-add {a = a} pos, lt-div-mul-add {a = b} pos) in
    (le_of_mul-le-mul_right low pos, lt_of_mul-lt-mul_right D high)

-- both pools assessed, and something owed
divided : (x m : ℕ) (own other : Totals) → 0 < own.hours → 0 < other.hours → 0 < weight own other → figure x own other m ≡ 1000 * x * other.hours * m / weight own other
divided x m own other p q w = grind (arith, nat_tests)

swapped : (own other : Totals) → weight other own ≡ weight own other
swapped own other = add_comm (other.owed * own.hours) (own.owed * other.hours)

-- the two obligations of a day on which something is owed
abbrev Shared : Totals → Totals → ℕ → Type 0
Shared own other m =
    (figure own.owed own other m + figure other.owed other own m ≤ 1000 * m) ×
    (1000 * m < figure own.owed own other m + figure other.owed other own m + 2)

pub obligations_whole : (own other : Totals) (m : ℕ) → 0 < own.hours → 0 < other.hours → 0 < weight own other → Shared own other m
obligations_whole own other m p q w =
    let back : 0 < weight other own = omega arith in
    let all : 1000 * own.owed * other.hours * m + 1000 * other.owed * own.hours * m ≡ 1000 * m * weight own other =
    rw (weighed own.owed other.hours m, weighed other.owed own.hours m) (omega arith) in
    let two = parts (1000 * own.owed * other.hours * m) (1000 * other.owed * own.hours * m) (weight own other) (1000 * m) w all in
    let second : figure other.owed other own m ≡ 1000 * other.owed * own.hours * m / weight own other =
    divided other.owed m other own q p back ∙ ap (λ d. 1000 * other.owed * own.hours * m / d) (swapped own other) in
    rw (divided own.owed m own other p q w, second) two

nothing : (x m : ℕ) (own other : Totals) → 0 < own.hours → 0 < other.hours → weight own other ≡ 0 → figure x own other m ≡ 0
nothing x m own other p q w = grind (arith, nat_tests)

-- both pools assessed: together at most the larger net showing
pub obligations_shared : (own other : Totals) (m : ℕ) → 0 < own.hours → 0 < other.hours → figure own.owed own other m + figure other.owed other own m ≤ 1000 * m
obligations_shared own other m p q =
    ⊎_elim
    (λ w. (obligations_whole own other m p q w).0)
    (λ le. let none : weight own other ≡ 0 = omega arith in
    omega (arith, nothing own.owed m own other p q none, nothing other.owed m other own q p (swapped own other ∙ none)))
    (cases_lt 0 (weight own other))
