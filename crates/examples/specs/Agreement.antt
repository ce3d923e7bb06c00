-- When a worked figure agrees with the exact one and with the published one.
use Rattle.std.specs.Prelude.{ℕ, ◌+◌, ◌-◌, ◌^◌, min, Bool, true, cond, ◌&&◌, is_some, Some, None, Option, ◌==◌, nat_lt}
use Rattle.examples.specs.declared.comparison.Published.{Published}
use Rattle.examples.specs.declared.comparison.Comparison.{Comparison}
use Rattle.examples.specs.declared.comparison.Tally.{Tally}

-- how far apart two numbers are
abbrev pub distance : ℕ → ℕ → ℕ
distance a b = (a - b) + (b - a)

-- less than one unit of the last digit published apart
abbrev pub close : ℕ → ℕ → ℕ → Bool
close figure published unit = nat_lt (distance figure published) unit

-- a figure that was not published agrees with any
abbrev pub as_published : ℕ → Option Published → Bool
as_published figure None = true
as_published figure (Some p) = close figure p.value p.unit

-- equal to the exact figure, and close to the published one
abbrev pub meets : Comparison → Bool
meets c = c.figure == c.exact && as_published c.figure c.published

-- one more where the test holds, up to what the counter can hold
abbrev pub raised_if : ℕ → Bool → ℕ
raised_if n test = cond test (min (n + 1) (2 ^ 32 - 1)) n

-- a tally with one comparison more
abbrev pub counted_with : Tally → Comparison → Tally
counted_with t c = record {
  compared = raised_if t.compared true;
  agreeing = raised_if t.agreeing (meets c);
  published = raised_if t.published (is_some c.published);
}
