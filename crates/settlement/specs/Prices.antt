-- Prices and rates.
use Rattle.std.specs.Prelude.{◌≡◌, ℕ, ◌*◌, ◌/◌, ◌<◌, Result, MatchResult}
use Rattle.pools.specs.declared.out_of_range.OutOfRange.{OutOfRange}
use Rattle.settlement.specs.declared.price.Price.{Price}

-- a number is read as the price of so many cents; one above 500,000 is no price, and is handed back
abbrev pub IsPriced : ℕ → Result Price OutOfRange → Type 0
IsPriced cents r = MatchResult r (λ p. p.cents ≡ cents) (λ e. (e.0 ≡ cents) × (500000 < cents))

-- the cents for a quantity in watts, at a price or rate in cents per megawatt
abbrev pub cents_at : ℕ → ℕ → ℕ
cents_at rate quantity = rate * quantity / 1000000
