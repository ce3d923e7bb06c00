-- What is read from a day's figures and from a month's lines.
use Rattle.std.specs.Prelude.{◌≡◌, ℕ, ◌*◌, ◌/◌, ◌^◌, ◌≤◌, cond, ◌==◌}
use Rattle.assessment.specs.Figures.{PoolFigures, DayFigures}
use Rattle.assessment.specs.Lines.{plus}
use Rattle.assessment.specs.declared.line.Line.{Line}
use Rattle.examples.specs.declared.refusal.Refusal.{Refusal}
use Rattle.examples.specs.declared.refusal.Refusal.TheVariants.{TooLarge}
use Rattle.pools.specs.PerPool.{entry_of}
use Rattle.examples.specs.declared.reading.Part.{Part}
use Rattle.examples.specs.declared.reading.Part.TheVariants as part
use Rattle.examples.specs.declared.reading.DayReading.{DayReading}
use Rattle.examples.specs.declared.reading.DayReading.TheVariants as day
use Rattle.examples.specs.declared.reading.LineReading.{LineReading}
use Rattle.examples.specs.declared.reading.LineReading.TheVariants as line

-- the part of an obligation that was available, in millionths; 0 of nothing
abbrev pub millionths : ℕ → ℕ → ℕ
millionths availability obligation = cond (obligation == 0) 0 (availability * 1000000 / obligation)

-- a product that passes 64 bits
abbrev pub TooMany : ℕ → Type 0
TooMany availability = 2 ^ 64 ≤ availability * 1000000

-- why a share could not be read
abbrev pub ShareRefused : ℕ → Refusal → Type 0
ShareRefused availability e = (e ≡ TooLarge) × TooMany availability

-- watts on average over the days assessed
abbrev pub average : ℕ → ℕ → ℕ
average watts days = cond (days == 0) 0 (watts / days)

-- a day's watts in a pool, or in both together
abbrev pub in_part : DayFigures → Part → PoolFigures
in_part f (part.Of pool) = entry_of f pool
in_part f part.Combined = plus f.generic f.flexible

-- what each reading tells of them
abbrev pub from_day : PoolFigures → DayReading → ℕ
from_day w day.Obligation = w.obligation
from_day w day.Availability = w.availability
from_day w day.Share = millionths w.availability w.obligation

-- what each reading tells of a line
abbrev pub from_line : Line → LineReading → ℕ
from_line l line.Obligation = l.obligation
from_line l line.Availability = l.availability
from_line l line.Share = millionths l.availability l.obligation
from_line l line.Days = l.days
from_line l line.Average = average l.obligation l.days
from_line l line.Quantity = l.quantity
