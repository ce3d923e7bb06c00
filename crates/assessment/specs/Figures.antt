-- The names of a pool's and a day's figures, of a place of a day table, and of a resource's two lines.
use Rattle.std.specs.Prelude.{ℕ, Option}
use Rattle.assessment.specs.declared.day_result.Figures.{Figures}
use Rattle.assessment.specs.declared.line.Line.{Line}
use Rattle.pools.specs.declared.per_pool.PerPool.{PerPool}

-- obligation and availability in one pool, in watts
abbrev pub PoolFigures : Type 0
PoolFigures = Figures ℕ

-- the same in each pool
abbrev pub DayFigures : Type 0
DayFigures = PerPool PoolFigures

-- the figures of a recorded day, or none in an empty place
abbrev pub DayRow : Type 0
DayRow = Option DayFigures

-- a line in each pool
abbrev pub MonthLines : Type 0
MonthLines = PerPool Line
