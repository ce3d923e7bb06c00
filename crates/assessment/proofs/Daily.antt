-- The day's figures from its totals.
use Rattle.std.proofs.Common.{◌≡◌, ℕ}
use Rattle.assessment.specs.Days.{Rules, DayCase, generic_to, flexible_to, pool_figures, larger_net, day_figures}
use Rattle.assessment.specs.Totals.{Totals}
use Rattle.assessment.specs.Figures.{PoolFigures, DayFigures}

pub day_is : (r : Rules) (c : DayCase) (g f : Totals) (m : ℕ) (x y : PoolFigures) → g ≡ generic_to r c 24 → f ≡ flexible_to r c 24 → m ≡ larger_net c.submission → x ≡ pool_figures g f m → y ≡ pool_figures f g m → ◌≡◌ {A = DayFigures} (record { generic = x; flexible = y }) (day_figures r c)
unfolding day_figures
day_is r c g f m x y eg ef em ex ey = rw (ex, ey, eg, ef, em)
