-- What a pool comes to over the hours of a day: assessed hours, and sums of kW over them.
use Rattle.std.specs.Prelude.{ℕ, ◌+◌}
use Rattle.assessment.specs.Sums.{sum_to}
use Rattle.assessment.specs.declared.totals.PoolTotals.{PoolTotals}

-- the assessed hours, the kWh owed in them, and the kWh that each market gave
pub record Totals : Type 0 where
  pub hours : ℕ
  pub owed : ℕ
  pub day_ahead : ℕ
  pub real_time : ℕ

-- for inner contracts: the same from the code, whose totals keep their limits beside them
abbrev pub totals_of : PoolTotals → Totals
totals_of t = record { hours = t.hours; owed = t.owed; day_ahead = t.day_ahead; real_time = t.real_time }

-- for inner contracts: those of no hour
abbrev pub totals_none : Totals
totals_none = record { hours = 0; owed = 0; day_ahead = 0; real_time = 0 }

-- for inner contracts: two totals added, field by field
abbrev pub totals_add : Totals → Totals → Totals
totals_add a b = record {
  hours = a.hours + b.hours;
  owed = a.owed + b.owed;
  day_ahead = a.day_ahead + b.day_ahead;
  real_time = a.real_time + b.real_time;
}

-- field by field, the sum over hour endings 1 to n
abbrev pub totals_to : (ℕ → Totals) → ℕ → Totals
totals_to hour n = record {
  hours = sum_to (λ h. (hour h).hours) n;
  owed = sum_to (λ h. (hour h).owed) n;
  day_ahead = sum_to (λ h. (hour h).day_ahead) n;
  real_time = sum_to (λ h. (hour h).real_time) n;
}
