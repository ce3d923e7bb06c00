-- What holds of every day and every line, whatever the rules, the bids and the month.
use Rattle.std.specs.Prelude.{◌≡◌, ◌+◌, ◌*◌, ◌/◌, ◌<◌, ◌≤◌}
use Rattle.assessment.specs.Rules.{Owed}
use Rattle.assessment.specs.declared.line.Line.{Line}
use Rattle.assessment.specs.Figures.{MonthLines}
use Rattle.assessment.specs.declared.line.LineState.TheVariants.{Charged, Paid}
use Rattle.assessment.specs.Days.{Rules, DayCase, generic_to, flexible_to, weight, larger_net, day_figures}

-- two rules that keep what every rule owes
pub record RulesOwed (r : Rules) : Type 0 where
  pub generic : Owed r.generic
  pub flexible : Owed r.flexible

-- both pools have an hour that day
abbrev pub BothAssessed : Rules → DayCase → Type 0
BothAssessed r c = (0 < (generic_to r c 24).hours) × (0 < (flexible_to r c 24).hours)

-- No availability passes its obligation, and no obligation 1000 times the larger net showing. With both pools
-- assessed, the two obligations together come to no more than that, and lose less than two watts of it to rounding.
pub record DayLaw (r : Rules) (c : DayCase) : Type 0 where
  pub generic_within : (day_figures r c).generic.availability ≤ (day_figures r c).generic.obligation
  pub flexible_within : (day_figures r c).flexible.availability ≤ (day_figures r c).flexible.obligation
  pub generic_capped : (day_figures r c).generic.obligation ≤ 1000 * larger_net c.submission
  pub flexible_capped : (day_figures r c).flexible.obligation ≤ 1000 * larger_net c.submission
  pub shared : BothAssessed r c → (day_figures r c).generic.obligation + (day_figures r c).flexible.obligation ≤ 1000 * larger_net c.submission
  pub whole : BothAssessed r c → 0 < weight (generic_to r c 24) (flexible_to r c 24) → 1000 * larger_net c.submission < (day_figures r c).generic.obligation + (day_figures r c).flexible.obligation + 2

-- No more than that is lost even where nothing is owed: then both net showings are 0.
abbrev pub LittleLost : Rules → DayCase → Type 0
LittleLost r c = BothAssessed r c → 1000 * larger_net c.submission < (day_figures r c).generic.obligation + (day_figures r c).flexible.obligation + 2

-- No more is available than owed, nor owed than 62,000,000,000 W, nor assessed than 31 days, and no quantity passes
-- 58,590,000,000 W. A charged quantity is at most 94.5 per cent of the average capacity O / N, a paid one at most 1.5
-- per cent of it.
pub record LineLaw (l : Line) : Type 0 where
  pub within : l.availability ≤ l.obligation
  pub capped : l.obligation ≤ 62000000000
  pub few : l.days ≤ 31
  pub small : l.quantity ≤ 58590000000
  pub charged_within : l.state ≡ Charged → l.quantity ≤ 945 * l.obligation / (1000 * l.days)
  pub paid_within : l.state ≡ Paid → l.quantity ≤ 15 * l.obligation / (1000 * l.days)

-- both lines of a resource
pub record LinesLaw (l : MonthLines) : Type 0 where
  pub generic : LineLaw l.generic
  pub flexible : LineLaw l.flexible
