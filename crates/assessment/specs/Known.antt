-- Figures known from outside, each beside the same figure worked out by the definitions.
use Rattle.std.specs.Prelude.{◌≡◌, ℕ, Bool, true, ◌&&◌, List, [], ◌∷◌, replicate, ◌==◌}
use Rattle.assessment.specs.Calendar.{days_of, weekday_of, work_days}
use Rattle.assessment.specs.Rules.{generic_rule, flexible_rule}
use Rattle.assessment.specs.Days.{both, day_figures}
use Rattle.assessment.specs.Lines.{line_of, letter}
use Rattle.assessment.specs.declared.trade_month.TradeMonth.{TradeMonth}
use Rattle.assessment.specs.declared.submission.DaySubmission.{DaySubmission}
use Rattle.assessment.specs.Figures.{DayFigures}
use Rattle.assessment.specs.declared.line.LineState.TheVariants.{Charged, Neutral, Paid}

-- June 2018 without marks; the windows are hours 1 to 5, 3 to 7 and 16 to 20
abbrev pub june_2018 : TradeMonth
june_2018 = record {
  year = 2018;
  month = 6;
  holidays = 0;
  generic_start = 1;
  category2_start = 3;
  category3_start = 16;
}

-- 2 MW generic and 1 MW flexible shown, 1 MW self-scheduled in every hour of both markets
abbrev pub overlapping : DaySubmission
overlapping = record {
  showings = record {
    generic = record { shown = 2000; exempt = 0 };
    flexible = record { shown = 1000; exempt = 0 };
  };
  hours = replicate 24 (record {
    day_ahead = record { economic = 0; self_scheduled = 1000 };
    real_time = record { economic = 0; self_scheduled = 1000 };
  });
}

-- that day on Monday the 4th, by a resource of category 2
abbrev pub overlapping_day : DayFigures
overlapping_day = day_figures (both generic_rule flexible_rule) (record { month = june_2018; category = 2; day = 4; submission = overlapping })

-- a figure worked out by the definitions, and the figure known
pub record Known : Type 0 where
  pub worked : ℕ
  pub figure : ℕ

-- an entry of the table
abbrev pub known : ℕ → ℕ → Known
known worked figure = record { worked = worked; figure = figure }

-- June 2018's days, the weekday of its first (5 is Friday) and its work days, the overlapping day, and a line's states at its bounds
abbrev pub known_figures : List Known
known_figures =
    known (days_of june_2018) 30
    ∷ known (weekday_of june_2018 1) 5
    ∷ known (work_days june_2018) 21
    ∷ known overlapping_day.generic.obligation 1166666
    ∷ known overlapping_day.flexible.obligation 833333
    ∷ known overlapping_day.generic.availability 833333
    ∷ known overlapping_day.flexible.availability 0
    ∷ known (letter (line_of 200000 188999 21).state) (letter Charged)
    ∷ known (letter (line_of 200000 189000 21).state) (letter Neutral)
    ∷ known (letter (line_of 200000 197000 21).state) (letter Neutral)
    ∷ known (letter (line_of 200000 197001 21).state) (letter Paid)
    ∷ known (line_of 200000 197001 21).quantity 0
    ∷ []

-- the two figures of each entry are equal
abbrev pub agree : List Known → Bool
agree [] = true
agree (k ∷ ks) = k.worked == k.figure && agree ks

-- every figure of the table is the known one
abbrev pub KnownFiguresAgree : Type 0
KnownFiguresAgree = agree known_figures ≡ true
