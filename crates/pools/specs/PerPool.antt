-- A table with an entry for each pool.
use Rattle.pools.specs.declared.pool.Pool.{Pool}
use Rattle.pools.specs.declared.pool.Pool.TheVariants.{Generic, Flexible}
use Rattle.pools.specs.declared.per_pool.PerPool.{PerPool}

-- The pool's entry.
abbrev pub entry_of : {T : Type 0} → PerPool T → Pool → T
entry_of t Generic = t.generic
entry_of t Flexible = t.flexible

-- The same table, but for the pool's entry.
abbrev pub with_entry : {T : Type 0} → PerPool T → Pool → T → PerPool T
with_entry t Generic e = record { generic = e; flexible = t.flexible }
with_entry t Flexible e = record { generic = t.generic; flexible = e }
