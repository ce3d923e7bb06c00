-- What writing one pool's amount makes of the amounts.
use Rattle.std.specs.Prelude.{◌≡◌, ℕ, ◌≤◌, refl}
use Rattle.fund.specs.Balances.{Balances, Within, limit}
use Rattle.fund.specs.Meaning.{with_at}
use Rattle.pools.specs.PerPool.{entry_of, with_entry}
use Rattle.pools.specs.declared.pool.Pool.{Pool}
use Rattle.pools.specs.declared.pool.Pool.TheVariants.{Generic, Flexible}

pub entry_within : (b : Balances) → Within b → (q : Pool) → entry_of b q ≤ limit
entry_within b k Generic = k.generic
entry_within b k Flexible = k.flexible

pub within_with : (b : Balances) (p : Pool) (n : ℕ) → Within b → n ≤ limit → Within (with_entry b p n)
within_with b Generic n k h = record { generic = h; flexible = k.flexible }
within_with b Flexible n k h = record { generic = k.generic; flexible = h }

pub entry_with : (b : Balances) (p : Pool) (n : ℕ) (q : Pool) → entry_of (with_entry b p n) q ≡ with_at (entry_of b) p n q
entry_with b Generic n Generic = refl
entry_with b Generic n Flexible = refl
entry_with b Flexible n Generic = refl
entry_with b Flexible n Flexible = refl
