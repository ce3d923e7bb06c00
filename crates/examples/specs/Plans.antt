-- A planned day: its bids by hour, what is submitted for it, and its figures by the two rules that ship.
use Rattle.std.specs.Prelude.{ℕ, ◌+◌, ◌<◌, ◌≤◌, cond, List, map, ◌==◌, nat_le}
use Rattle.std.specs.List.{range_with_len}
use Rattle.assessment.specs.Calendar.{days_of}
use Rattle.assessment.specs.Records.{Breaks}
use Rattle.assessment.specs.Rules.{generic_rule, flexible_rule}
use Rattle.assessment.specs.Days.{both, day_figures}
use Rattle.assessment.specs.declared.trade_month.TradeMonth.{TradeMonth}
use Rattle.assessment.specs.declared.submission.Bid.{Bid}
use Rattle.assessment.specs.declared.submission.HourBids.{HourBids}
use Rattle.assessment.specs.declared.submission.DaySubmission.{DaySubmission}
use Rattle.assessment.specs.Figures.{DayFigures}
use Rattle.examples.specs.declared.plan.Offer.{Offer}
use Rattle.examples.specs.declared.plan.Offer.TheVariants.{EveryHour, AllBut, Until}
use Rattle.examples.specs.declared.plan.Plan.{Plan}
use Rattle.examples.specs.declared.refusal.Refusal.{Refusal}
use Rattle.examples.specs.declared.refusal.Refusal.TheVariants.{NoSuchMonth, NoSuchDay, NoSuchCategory, PastLimits, RowsPastLimits, TooLarge}

-- nothing is bid
abbrev pub no_bid : Bid
no_bid = record { economic = 0; self_scheduled = 0 }

-- the bid in an hour ending
abbrev pub bid_in : Offer → ℕ → Bid
bid_in (EveryHour bid) h = bid
bid_in (AllBut out bid) h = cond (h == out) no_bid bid
bid_in (Until end before after) h = cond (nat_le h end) before after

-- alike in both markets
abbrev pub alike : Bid → HourBids
alike bid = record { day_ahead = bid; real_time = bid }

-- the 24 hours of a day: the first entry is hour ending 1
unfoldable pub hours_of : Offer → List HourBids
hours_of offer = map (λ passed. alike (bid_in offer (passed + 1))) (range_with_len 0 24)

-- what a plan submits; nothing is exempt
abbrev pub submission_of : Plan → DaySubmission
submission_of p = record {
  showings = record {
    generic = record { shown = p.shown.generic; exempt = 0 };
    flexible = record { shown = p.shown.flexible; exempt = 0 };
  };
  hours = hours_of p.offer;
}

-- the figures of a planned day
abbrev pub planned : TradeMonth → ℕ → Plan → DayFigures
planned m d p = day_figures (both generic_rule flexible_rule) (record { month = m; category = p.category; day = d; submission = submission_of p })

-- why a planned day has no figures
abbrev pub DayRefused : TradeMonth → ℕ → Plan → Refusal → Type 0
DayRefused m d p NoSuchMonth = ⊥
DayRefused m d p NoSuchDay = (1 ≤ d) × (d ≤ days_of m) → ⊥
DayRefused m d p NoSuchCategory = 3 < p.category
DayRefused m d p (PastLimits b) = Breaks p.category (submission_of p) b
DayRefused m d p RowsPastLimits = ⊥
DayRefused m d p TooLarge = ⊥
