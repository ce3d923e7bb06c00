-- Recording a resource's day.
use Rattle.std.specs.Prelude.{◌≡◌, ℕ, ◌+◌, ◌-◌, ◌*◌, ◌<◌, ◌≤◌, List, length, Ok, Err, Result, slice_index_or, slice_set, None, Some}
use Rattle.assessment.specs.Calendar.{days_of}
use Rattle.assessment.specs.Records.{ShowingsWithin, BidsWithin, ExemptionsWithin, FlexibleAllowed}
use Rattle.assessment.specs.Days.{Rules, day_figures}
use Rattle.assessment.specs.Lines.{no_figures}
use Rattle.assessment.specs.declared.submission.DaySubmission.{DaySubmission}
use Rattle.assessment.specs.declared.submission.DayBreach.{DayBreach}
use Rattle.assessment.specs.declared.submission.DayBreach.TheVariants.{KilowattsOverLimit, ExemptionOverShowing}
use Rattle.assessment.specs.declared.submission.DayBreach.TheVariants as breach
use Rattle.assessment.specs.Figures.{DayFigures, DayRow}
use Rattle.settlement.specs.Tables.{category_of, DaysFit}
use Rattle.settlement.specs.Views.{Phase, fresh, open_at, closed, release_due}
use Rattle.settlement.specs.declared.fault.ResourceDay.{ResourceDay}
use Rattle.settlement.specs.declared.fault.SettlementFault.{SettlementFault}
use Rattle.settlement.specs.declared.fault.SettlementFault.TheVariants.{UnfitTables, OutOfTurn, UnfitTerms, NotNextMonth, UnfitLoads, UnknownResource, NoSuchDay, AlreadyRecorded, DayOverLimit, FlexibleInCategory0, Book}
use Rattle.settlement.specs.declared.tables.RosterEntry.{RosterEntry}

-- the place of a resource's day in the day table
abbrev pub place_of : ResourceDay → ℕ
place_of at = 31 * at.resource + (at.day - 1)

-- a month is open
abbrev pub IsOpen : Phase → Type 0
IsOpen fresh = ⊥
IsOpen (open_at m p) = Unit {0}
IsOpen (closed d) = ⊥
IsOpen (release_due d) = ⊥

-- the open month has the day
abbrev pub HasDay : Phase → ℕ → Type 0
HasDay fresh d = ⊥
HasDay (open_at m p) d = (1 ≤ d) × (d ≤ days_of m)
HasDay (closed e) d = ⊥
HasDay (release_due e) d = ⊥

-- the roster has the resource
abbrev pub InRoster : List RosterEntry → ResourceDay → Type 0
InRoster roster at = at.resource < length roster

-- the day's place is empty
abbrev pub IsFree : List DayRow → ResourceDay → Type 0
IsFree rows at = slice_index_or rows (place_of at) None ≡ None

-- kilowatts within their limit, exemptions within their showings
abbrev pub DayWithin : DaySubmission → Type 0
DayWithin d = ShowingsWithin d × BidsWithin d × ExemptionsWithin d

-- what the two rules make of the day in the open month; where none is open there are no figures
abbrev pub figures_of : Rules → Phase → List RosterEntry → ResourceDay → DaySubmission → DayFigures
figures_of r fresh roster at d = no_figures
figures_of r (open_at m p) roster at d = day_figures r (record { month = m; category = category_of roster at.resource; day = at.day; submission = d })
figures_of r (closed e) roster at d = no_figures
figures_of r (release_due e) roster at d = no_figures

-- for inner contracts: the fault of each breach of a day's limits
abbrev pub fault_for : DayBreach → ResourceDay → SettlementFault
fault_for KilowattsOverLimit at = DayOverLimit at
fault_for ExemptionOverShowing at = DayOverLimit at
fault_for breach.FlexibleInCategory0 at = FlexibleInCategory0 at

-- when a day is taken
pub record MayTakeDay (p : Phase) (roster : List RosterEntry) (rows : List DayRow) (at : ResourceDay) (d : DaySubmission) : Type 0 where
  pub fits : DaysFit roster rows
  pub in_turn : IsOpen p
  pub known : InRoster roster at
  pub dated : HasDay p at.day
  pub free : IsFree rows at
  pub within : DayWithin d
  pub allowed : FlexibleAllowed (category_of roster at.resource) d

-- the first test that fails tells the fault; from 16 on it is about the day
abbrev pub RefusesDay : Phase → List RosterEntry → List DayRow → ResourceDay → DaySubmission → SettlementFault → Type 0
RefusesDay p roster rows at d UnfitTables = DaysFit roster rows → ⊥
RefusesDay p roster rows at d OutOfTurn = DaysFit roster rows × (IsOpen p → ⊥)
RefusesDay p roster rows at d UnfitTerms = ⊥
RefusesDay p roster rows at d NotNextMonth = ⊥
RefusesDay p roster rows at d UnfitLoads = ⊥
RefusesDay p roster rows at d (UnknownResource x) = (x ≡ at) × DaysFit roster rows × IsOpen p × (InRoster roster at → ⊥)
RefusesDay p roster rows at d (NoSuchDay x) = (x ≡ at) × DaysFit roster rows × IsOpen p × InRoster roster at × (HasDay p at.day → ⊥)
RefusesDay p roster rows at d (AlreadyRecorded x) = (x ≡ at) × DaysFit roster rows × IsOpen p × InRoster roster at × HasDay p at.day × (IsFree rows at → ⊥)
RefusesDay p roster rows at d (DayOverLimit x) =
    (x ≡ at) × DaysFit roster rows × IsOpen p × InRoster roster at × HasDay p at.day × IsFree rows at × (DayWithin d → ⊥)
RefusesDay p roster rows at d (FlexibleInCategory0 x) =
    (x ≡ at) × DaysFit roster rows × IsOpen p × InRoster roster at × HasDay p at.day × IsFree rows at × DayWithin d × (FlexibleAllowed (category_of roster at.resource) d → ⊥)
RefusesDay p roster rows at d (Book e) = ⊥

-- what a record answers, and what it leaves: the day's figures in the day's place
abbrev pub Records : Rules → Phase → List RosterEntry → List DayRow → ResourceDay → DaySubmission → Result DayFigures SettlementFault → List DayRow → Type 0
Records r p roster rows at d (Ok f) rows' =
    MayTakeDay p roster rows at d × (f ≡ figures_of r p roster at d) × (rows' ≡ slice_set rows (place_of at) (Some f))
Records r p roster rows at d (Err e) rows' = RefusesDay p roster rows at d e × (rows' ≡ rows)
