-- Amounts of money, in cents, for each of the two pools.
use Rattle.std.specs.Prelude.{ℕ, ◌≤◌}
use Rattle.pools.specs.declared.pool.Pool.{Pool}
use Rattle.pools.specs.declared.pool.Pool.TheVariants.{Generic, Flexible}
use Rattle.pools.specs.declared.per_pool.PerPool.{PerPool}

-- The most cents that a balance may have.
abbrev pub limit : ℕ
limit = 7000000000000

-- An amount for each pool.
abbrev pub Balances : Type 0
Balances = PerPool ℕ

-- Both amounts are within the limit.
pub record Within (b : Balances) : Type 0 where
  pub generic : b.generic ≤ limit
  pub flexible : b.flexible ≤ limit

-- An amount, if the two pools are the same, else 0.
abbrev pub in_pool : Pool → Pool → ℕ → ℕ
in_pool Generic Generic n = n
in_pool Generic Flexible n = 0
in_pool Flexible Generic n = 0
in_pool Flexible Flexible n = n
