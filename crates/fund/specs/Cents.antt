-- Balances as amounts of money.
use Rattle.fund.specs.Balances.{Balances}
use Rattle.fund.specs.declared.balance.Balance.{Balance}
use Rattle.pools.specs.declared.per_pool.PerPool.{PerPool}

-- The cents in a table of balances.
abbrev pub cents_of : PerPool Balance → Balances
cents_of t = record { generic = t.generic.cents; flexible = t.flexible.cents }
