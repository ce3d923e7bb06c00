-- The roster and the tables that are handed in with a month's calls.
use Rattle.std.specs.Prelude.{◌≡◌, ℕ, ◌*◌, ◌%◌, ◌<◌, ◌≤◌, List, length, get_or, take, drop, slice_index_or, cond, ◌==◌, None}
use Rattle.assessment.specs.Lines.{RowWithin}
use Rattle.assessment.specs.Figures.{DayRow}
use Rattle.pools.specs.declared.pool.Pool.{Pool}
use Rattle.pools.specs.declared.pool.Pool.TheVariants.{Generic, Flexible}
use Rattle.settlement.specs.declared.tables.RosterEntry.{RosterEntry}
use Rattle.settlement.specs.declared.tables.LineEntry.{LineEntry}

-- stands in for a resource that a roster lacks
abbrev pub nobody : RosterEntry
nobody = record { identifier = 0; category = 0 }

-- the category of the resource at a place of the roster
abbrev pub category_of : List RosterEntry → ℕ → ℕ
category_of roster i = (get_or roster i nobody).category

-- a roster has at most 512 resources, each of a category up to 3
abbrev pub RosterFits : List RosterEntry → Type 0
RosterFits roster = (length roster ≤ 512) × ((i : ℕ) → i < length roster → category_of roster i ≤ 3)

-- a day table has 31 places a resource
abbrev pub DaysFit : List RosterEntry → List DayRow → Type 0
DaysFit roster rows = RosterFits roster × (length rows ≡ 31 * length roster)

-- the 31 places of a resource
abbrev pub places_of : List DayRow → ℕ → List DayRow
places_of rows i = take 31 (drop (31 * i) rows)

-- every row is within a day result's limits
abbrev pub EachRowWithin : List DayRow → Type 0
EachRowWithin rows = (k : ℕ) → k < length rows → RowWithin (slice_index_or rows k None)

-- what a close is handed fits: two entries a resource in the line table, and every row within a day result's limits
abbrev pub AllFit : List RosterEntry → List DayRow → List LineEntry → Type 0
AllFit roster rows lines = DaysFit roster rows × (length lines ≡ 2 * length roster) × EachRowWithin rows

-- the pool of a place of the line table: two places a resource, generic first
abbrev pub pool_at : ℕ → Pool
pool_at place = cond (place % 2 == 0) Generic Flexible
