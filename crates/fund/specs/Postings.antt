-- Postings, what they come to, and the balance that they leave.
use Rattle.std.specs.Prelude.{ℕ, ◌+◌, ◌-◌, ◌≤◌, List, sum_by}
use Rattle.fund.specs.Balances.{limit, in_pool}
use Rattle.pools.specs.declared.pool.Pool.{Pool}
use Rattle.fund.specs.declared.posting.Direction.{Direction}
use Rattle.fund.specs.declared.posting.Direction.TheVariants.{In, Out}
use Rattle.fund.specs.declared.posting.Posting.{Posting}
use Rattle.fund.specs.declared.posting.Side.{Side}

-- An amount, if the two directions are the same, else 0.
abbrev pub in_direction : Direction → Direction → ℕ → ℕ
in_direction In In n = n
in_direction In Out n = 0
in_direction Out In n = 0
in_direction Out Out n = n

-- The amount of a posting, if it is of that pool and direction, else 0.
abbrev pub counted : Side → Posting → ℕ
counted side x = in_direction side.direction x.side.direction (in_pool side.pool x.side.pool x.amount)

-- What the postings of one direction in one pool come to.
unfoldable pub posted : Direction → Pool → List Posting → ℕ
posted d p xs = sum_by (counted (record { pool = p; direction = d })) xs

-- A pool's balance is what came in less what went out.
abbrev pub balance : List Posting → Pool → ℕ
balance xs p = posted In p xs - posted Out p xs

-- No more went out of the pool than came in, and what is left is within the limit.
abbrev pub Kept : List Posting → Pool → Type 0
Kept xs p = (posted Out p xs ≤ posted In p xs) × (posted In p xs ≤ posted Out p xs + limit)
