-- What each reading counts: watts, days, or a share.
use Rattle.examples.specs.declared.measure.Measure.{Measure}
use Rattle.examples.specs.declared.measure.Measure.TheVariants as measure
use Rattle.examples.specs.declared.reading.DayReading.{DayReading}
use Rattle.examples.specs.declared.reading.DayReading.TheVariants as day
use Rattle.examples.specs.declared.reading.LineReading.{LineReading}
use Rattle.examples.specs.declared.reading.LineReading.TheVariants as line

-- of a day's readings
abbrev pub day_measure : DayReading → Measure
day_measure day.Obligation = measure.Watts
day_measure day.Availability = measure.Watts
day_measure day.Share = measure.Share

-- of a line's readings
abbrev pub line_measure : LineReading → Measure
line_measure line.Obligation = measure.Watts
line_measure line.Availability = measure.Watts
line_measure line.Share = measure.Share
line_measure line.Days = measure.Days
line_measure line.Average = measure.Watts
line_measure line.Quantity = measure.Watts
