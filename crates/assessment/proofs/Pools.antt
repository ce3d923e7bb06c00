-- Facts of both pools, and tables by pool.
use Rattle.std.proofs.Common.{◌≡◌, ap, ◌∙◌}
use Rattle.pools.specs.declared.per_pool.PerPool.{PerPool}
use Rattle.pools.specs.declared.pool.Pool.{Pool}
use Rattle.pools.specs.declared.pool.Pool.TheVariants.{Generic, Flexible}

-- a fact of both pools is one of each
pub each_pool : (P : Pool → Type 0) → P Generic → P Flexible → (p : Pool) → P p
each_pool P g f Generic = g
each_pool P g f Flexible = f

-- tables with the same entries are the same
pub same_entries : {T : Type 0} (a b : PerPool T) → a.generic ≡ b.generic → a.flexible ≡ b.flexible → a ≡ b
same_entries {T} a b g f = ap (λ (x : T). record { generic = x; flexible = a.flexible }) g ∙ ap (λ (y : T). record { generic = b.generic; flexible = y }) f
