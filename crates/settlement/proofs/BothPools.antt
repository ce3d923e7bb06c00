-- The two pools in order.
use Rattle.std.proofs.Common.{◌<◌, List, [], ◌∷◌, arith}
use Rattle.pools.specs.declared.pool.Pool.{Pool}
use Rattle.pools.specs.declared.pool.Pool.TheVariants.{Generic, Flexible}
use Rattle.settlement.specs.Accounts.{pool_place}

abbrev pub pools : List Pool
pools = Generic ∷ Flexible ∷ []

pub side_small : (p : Pool) → pool_place p < 2
side_small Generic = omega arith
side_small Flexible = omega arith
