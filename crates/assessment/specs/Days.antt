-- A resource's day: the obligation and availability of each pool, in watts.
use Rattle.std.specs.Prelude.{ℕ, ◌+◌, ◌-◌, ◌*◌, ◌/◌, min, max, Bool, cond, ◌==◌}
use Rattle.assessment.specs.Rules.{Rule}
use Rattle.assessment.specs.Records.{bids_after}
use Rattle.assessment.specs.Totals.{Totals, totals_to}
use Rattle.assessment.specs.declared.trade_month.TradeMonth.{TradeMonth}
use Rattle.pools.specs.declared.pool.Pool.{Pool}
use Rattle.pools.specs.declared.pool.Pool.TheVariants.{Generic, Flexible}
use Rattle.assessment.specs.declared.submission.Bid.{Bid}
use Rattle.assessment.specs.declared.submission.HourBids.{HourBids}
use Rattle.assessment.specs.declared.submission.Showing.{Showing}
use Rattle.assessment.specs.declared.submission.DaySubmission.{DaySubmission}
use Rattle.assessment.specs.declared.day_record.DatedRecord.{DatedRecord}
use Rattle.assessment.specs.Figures.{PoolFigures, DayFigures}

-- the rules of the two pools
pub record Rules : Type 0 where
  pub generic : Rule
  pub flexible : Rule

-- two rules, the generic one first
abbrev pub both : Rule → Rule → Rules
both g f = record { generic = g; flexible = f }

-- what is assessed: a day of a month, and what a resource of a category submits for it
pub record DayCase : Type 0 where
  pub month : TradeMonth
  pub category : ℕ
  pub day : ℕ
  pub submission : DaySubmission

-- the same of a day that the code has checked
abbrev pub day_case : DatedRecord → DayCase
day_case d = record {
  month = d.day.settings.month;
  category = d.record.category.number;
  day = d.day.day;
  submission = d.record.submission;
}

-- net showing: showing less exemption
abbrev pub net : Showing → ℕ
net s = s.shown - s.exempt

-- G: the net generic showing
abbrev pub generic_net : DayCase → ℕ
generic_net c = net c.submission.showings.generic

-- Φ: the net flexible showing
abbrev pub flexible_net : DayCase → ℕ
flexible_net c = net c.submission.showings.flexible

-- whether the hour is generic: assessed by the generic rule
abbrev pub generic_in : Rules → DayCase → ℕ → Bool
generic_in r c h = r.generic.assesses c.month c.category c.day h

-- whether it is flexible
abbrev pub flexible_in : Rules → DayCase → ℕ → Bool
flexible_in r c h = r.flexible.assesses c.month c.category c.day h

-- in a flexible hour the net flexible showing is owed
abbrev pub flexible_due : Rules → DayCase → ℕ → ℕ
flexible_due r c h = cond (flexible_in r c h) (flexible_net c) 0

-- in a generic hour the net generic showing; if the hour is flexible too, less the flexible one
abbrev pub generic_due : Rules → DayCase → ℕ → ℕ
generic_due r c h = cond (generic_in r c h) (cond (flexible_in r c h) (generic_net c - flexible_net c) (generic_net c)) 0

-- towards its obligation the flexible rule takes first; the pair is economic and self-scheduled
abbrev pub flexible_taken : Rules → ℕ → Bid → ℕ × ℕ
flexible_taken r due b = r.flexible.takes due b.economic b.self_scheduled

-- towards its own the generic rule takes from what remains; `first` is the flexible obligation
abbrev pub generic_taken : Rules → ℕ → ℕ → Bid → ℕ × ℕ
generic_taken r due first b =
    r.generic.takes due (b.economic - (flexible_taken r first b).0) (b.self_scheduled - (flexible_taken r first b).1)

-- economic and self-scheduled together
abbrev pub in_all : ℕ × ℕ → ℕ
in_all taken = taken.0 + taken.1

-- an hour of the flexible pool at these bids: assessed or not, what is owed, and what each market gives
abbrev pub flexible_hour : Rules → DayCase → HourBids → ℕ → Totals
flexible_hour r c b h = record {
  hours = cond (flexible_in r c h) 1 0;
  owed = flexible_due r c h;
  day_ahead = in_all (flexible_taken r (flexible_due r c h) b.day_ahead);
  real_time = in_all (flexible_taken r (flexible_due r c h) b.real_time);
}

-- the same hour of the generic pool
abbrev pub generic_hour : Rules → DayCase → HourBids → ℕ → Totals
generic_hour r c b h = record {
  hours = cond (generic_in r c h) 1 0;
  owed = generic_due r c h;
  day_ahead = in_all (generic_taken r (generic_due r c h) (flexible_due r c h) b.day_ahead);
  real_time = in_all (generic_taken r (generic_due r c h) (flexible_due r c h) b.real_time);
}

-- the flexible pool over the first n hours, at the bids submitted
abbrev pub flexible_to : Rules → DayCase → ℕ → Totals
flexible_to r c n = totals_to (λ h. flexible_hour r c (bids_after c.submission (h - 1)) h) n

-- the generic pool, likewise
abbrev pub generic_to : Rules → DayCase → ℕ → Totals
generic_to r c n = totals_to (λ h. generic_hour r c (bids_after c.submission (h - 1)) h) n

-- for inner contracts: an hour of the pool named
abbrev pub hour_of : Rules → DayCase → Pool → HourBids → ℕ → Totals
hour_of r c Generic b h = generic_hour r c b h
hour_of r c Flexible b h = flexible_hour r c b h

-- for inner contracts: the first n hours of the pool named
abbrev pub hours_to : Rules → DayCase → Pool → ℕ → Totals
hours_to r c p n = totals_to (λ h. hour_of r c p (bids_after c.submission (h - 1)) h) n

-- D: the two sums, each weighed by the other pool's hours
abbrev pub weight : Totals → Totals → ℕ
weight own other = own.owed * other.hours + other.owed * own.hours

-- An amount of kWh as the day's watts; `own` are the totals of its pool, `other` those of the other one. An unassessed pool
-- has none. A pool assessed alone has the mean over its hours. Of two pools each has its part of the larger net showing, M.
abbrev pub figure : ℕ → Totals → Totals → ℕ → ℕ
figure amount own other largest =
    cond (own.hours == 0) 0
    (cond (other.hours == 0) (1000 * amount / own.hours)
    (cond (weight own other == 0) 0 (1000 * amount * other.hours * largest / weight own other)))

-- the smaller market counts, over the day and pool by pool
abbrev pub pool_figures : Totals → Totals → ℕ → PoolFigures
pool_figures own other largest = record {
  obligation = figure own.owed own other largest;
  availability = min (figure own.day_ahead own other largest) (figure own.real_time own other largest);
}

-- M: the larger net showing
abbrev pub larger_net : DaySubmission → ℕ
larger_net s = max (net s.showings.generic) (net s.showings.flexible)

-- the day's figures under two rules
unfoldable pub day_figures : Rules → DayCase → DayFigures
day_figures r c = record {
  generic = pool_figures (generic_to r c 24) (flexible_to r c 24) (larger_net c.submission);
  flexible = pool_figures (flexible_to r c 24) (generic_to r c 24) (larger_net c.submission);
}
