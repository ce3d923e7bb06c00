-- The laws of a day, for every pair of rules that keep what they owe.
use Rattle.std.proofs.Common.{◌≡◌, ℕ, ◌-◌, ◌*◌, ◌<◌, ◌≤◌, max, Bool, cond, ⊎_elim, le-mul_of_pos_right, arith}
use Rattle.std.proofs.lemmas.Bool.{cases_lt}
use Rattle.std.proofs.lemmas.Bool.Decides.{nat_tests}
use Rattle.assessment.specs.Records.{bids_after}
use Rattle.assessment.specs.Days.{Rules, DayCase, generic_net, flexible_net, generic_in, flexible_in, hour_of, hours_to, generic_to, flexible_to, weight, larger_net, day_figures}
use Rattle.assessment.specs.Totals.{Totals}
use Rattle.assessment.specs.Laws.{RulesOwed, DayLaw, LittleLost}
use Rattle.assessment.specs.declared.submission.HourBids.{HourBids}
use Rattle.pools.specs.declared.pool.Pool.{Pool}
use Rattle.pools.specs.declared.pool.Pool.TheVariants.{Generic, Flexible}
use Rattle.assessment.proofs.Running.{sum_mono, sum_scaled, sum_at_least}
use Rattle.assessment.proofs.Watts.{figure_mono, figure_capped, obligations_shared, obligations_whole}

-- in every hour no market gives more than is owed, and no more is owed than k kW
record HourLaw (k : ℕ) (t : Totals) : Type 0 where
  day_ahead_within : t.day_ahead ≤ t.owed
  real_time_within : t.real_time ≤ t.owed
  capped : t.owed ≤ k * t.hours

generic_owed : (p q : Bool) (G Φ : ℕ) → cond p (cond q (G - Φ) G) 0 ≤ max G Φ * cond p 1 0
generic_owed p q G Φ = grind (arith, nat_tests)

flexible_owed : (p : Bool) (G Φ : ℕ) → cond p Φ 0 ≤ max G Φ * cond p 1 0
flexible_owed p G Φ = grind (arith, nat_tests)

hour_law : (r : Rules) (c : DayCase) (p : Pool) (b : HourBids) (h : ℕ) → RulesOwed r → HourLaw (larger_net c.submission) (hour_of r c p b h)
hour_law r c Generic b h o = record {
  day_ahead_within = o.generic.taken _ _ _;
  real_time_within = o.generic.taken _ _ _;
  capped = generic_owed (generic_in r c h) (flexible_in r c h) (generic_net c) (flexible_net c);
}
hour_law r c Flexible b h o = record {
  day_ahead_within = o.flexible.taken _ _ _;
  real_time_within = o.flexible.taken _ _ _;
  capped = flexible_owed (flexible_in r c h) (generic_net c) (flexible_net c);
}

-- so over the day
total_law : (r : Rules) (c : DayCase) (p : Pool) → RulesOwed r → HourLaw (larger_net c.submission) (hours_to r c p 24)
total_law r c p o =
    let law = λ (h : ℕ). hour_law r c p (bids_after c.submission (h - 1)) h o in record {
      day_ahead_within = sum_mono _ _ (λ h. (law h).day_ahead_within) 24;
      real_time_within = sum_mono _ _ (λ h. (law h).real_time_within) 24;
      capped = sum_scaled _ _ (larger_net c.submission) (λ h. (law h).capped) 24;
    }

-- what is owed at least, in an hour and over the day
generic_least : (p q : Bool) (G Φ : ℕ) → (G - Φ) * cond p 1 0 ≤ cond p (cond q (G - Φ) G) 0
generic_least p q G Φ = grind (arith, nat_tests)

flexible_least : (p : Bool) (Φ : ℕ) → Φ * cond p 1 0 ≤ cond p Φ 0
flexible_least p Φ = grind (arith, nat_tests)

-- with both pools assessed, nothing is owed only where nothing is shown
none_shown : (r : Rules) (c : DayCase) → 0 < (generic_to r c 24).hours → 0 < (flexible_to r c 24).hours → weight (generic_to r c 24) (flexible_to r c 24) ≡ 0 → larger_net c.submission ≡ 0
none_shown r c p q w =
    let g = generic_to r c 24 in
    let f = flexible_to r c 24 in
    let G = sum_at_least _ _ (generic_net c - flexible_net c) (λ h. generic_least (generic_in r c h) (flexible_in r c h) (generic_net c) (flexible_net c)) 24 in
    let Φ = sum_at_least _ _ (flexible_net c) (λ h. flexible_least (flexible_in r c h) (flexible_net c)) 24 in
    let owed : g.owed ≤ g.owed * f.hours = le-mul_of_pos_right g.owed q in
    let due : f.owed ≤ f.owed * g.hours = le-mul_of_pos_right f.owed p in
    let more : generic_net c - flexible_net c ≤ (generic_net c - flexible_net c) * g.hours = le-mul_of_pos_right (generic_net c - flexible_net c) p in
    let shown : flexible_net c ≤ flexible_net c * f.hours = le-mul_of_pos_right (flexible_net c) q in
    omega (arith, G, Φ)

pub day_law : (r : Rules) (c : DayCase) → RulesOwed r → DayLaw r c
unfolding day_figures
day_law r c o =
    let g = generic_to r c 24 in
    let f = flexible_to r c 24 in
    let m = larger_net c.submission in
    let lg = total_law r c Generic o in
    let lf = total_law r c Flexible o in
    record {
      generic_within = omega (arith, figure_mono _ _ g f m lg.day_ahead_within);
      flexible_within = omega (arith, figure_mono _ _ f g m lf.day_ahead_within);
      generic_capped = figure_capped m g f m lg.capped (omega arith);
      flexible_capped = figure_capped m f g m lf.capped (omega arith);
      shared = λ both. obligations_shared g f m both.0 both.1;
      whole = λ both w. (obligations_whole g f m both.0 both.1 w).1;
    }

pub little_lost : (r : Rules) (c : DayCase) → LittleLost r c
unfolding day_figures
little_lost r c both =
    let g = generic_to r c 24 in
    let f = flexible_to r c 24 in
    let m = larger_net c.submission in
    ⊎_elim
    (λ w. (obligations_whole g f m both.0 both.1 w).1)
    (λ le. let none : weight g f ≡ 0 = omega arith in omega (arith, none_shown r c both.0 both.1 none))
    (cases_lt 0 (weight g f))
