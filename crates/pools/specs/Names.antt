-- How pools are printed.
use Rattle.std.specs.Prelude.{ℕ}
use Rattle.pools.specs.declared.pool.Pool.{Pool}
use Rattle.pools.specs.declared.pool.Pool.TheVariants.{Generic, Flexible}

-- The letters G and F.
abbrev pub pool_letter : Pool → ℕ
pool_letter Generic = 71
pool_letter Flexible = 70
