-- The limits of a resource's day, and which breach is reported.
use Rattle.std.specs.Prelude.{◌≡◌, ℕ, ◌<◌, ◌≤◌, List, slice_index, slice_index_or}
use Rattle.assessment.specs.declared.submission.HourBids.{HourBids}
use Rattle.assessment.specs.declared.submission.Showing.{Showing}
use Rattle.assessment.specs.declared.submission.DaySubmission.{DaySubmission}
use Rattle.assessment.specs.declared.submission.DayBreach.{DayBreach}
use Rattle.assessment.specs.declared.submission.DayBreach.TheVariants.{KilowattsOverLimit, ExemptionOverShowing, FlexibleInCategory0}

-- 2,000,000 kW is the most that may be shown or exempt
abbrev pub ShowingWithin : Showing → Type 0
ShowingWithin s = (s.shown ≤ 2000000) × (s.exempt ≤ 2000000)

-- and the most of each of an hour's four bids
abbrev pub HourWithin : HourBids → Type 0
HourWithin b =
    (b.day_ahead.economic ≤ 2000000) × (b.day_ahead.self_scheduled ≤ 2000000) ×
    (b.real_time.economic ≤ 2000000) × (b.real_time.self_scheduled ≤ 2000000)

-- no bid in either market; it stands in for an hour that a list lacks
abbrev pub no_bids : HourBids
no_bids = record {
  day_ahead = record { economic = 0; self_scheduled = 0 };
  real_time = record { economic = 0; self_scheduled = 0 };
}

-- the bids of an hour from four numbers: day-ahead, then real-time, each economic and then self-scheduled
abbrev pub bids_told : List ℕ → HourBids
bids_told ns = record {
  day_ahead = record { economic = slice_index ns 0; self_scheduled = slice_index ns 1 };
  real_time = record { economic = slice_index ns 2; self_scheduled = slice_index ns 3 };
}

-- the bids after n hours: those of hour ending n + 1
abbrev pub bids_after : DaySubmission → ℕ → HourBids
bids_after d n = slice_index_or d.hours n no_bids

-- all 24 hours, assessed or not
abbrev pub BidsWithin : DaySubmission → Type 0
BidsWithin d = (n : ℕ) → n < 24 → HourWithin (bids_after d n)

-- both showings
abbrev pub ShowingsWithin : DaySubmission → Type 0
ShowingsWithin d = ShowingWithin d.showings.generic × ShowingWithin d.showings.flexible

-- no exemption passes its showing
abbrev pub ExemptionsWithin : DaySubmission → Type 0
ExemptionsWithin d = (d.showings.generic.exempt ≤ d.showings.generic.shown) × (d.showings.flexible.exempt ≤ d.showings.flexible.shown)

-- category 0 shows no flexible capacity
abbrev pub FlexibleAllowed : ℕ → DaySubmission → Type 0
FlexibleAllowed category d = category ≡ 0 → d.showings.flexible.shown ≡ 0

-- a breach is reported only where the tests before it passed
abbrev pub Breaks : ℕ → DaySubmission → DayBreach → Type 0
Breaks category d KilowattsOverLimit = ShowingsWithin d × BidsWithin d → ⊥
Breaks category d ExemptionOverShowing = ShowingsWithin d × BidsWithin d × (ExemptionsWithin d → ⊥)
Breaks category d FlexibleInCategory0 = ShowingsWithin d × BidsWithin d × ExemptionsWithin d × (FlexibleAllowed category d → ⊥)
