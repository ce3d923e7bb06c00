-- The laws of the balance book.
use Rattle.std.specs.Prelude.{ℕ, ◌≤◌, refl}
use Rattle.std.proofs.Common.{arith}
use Rattle.fund.specs.Balances.{Balances, Within, limit}
use Rattle.fund.specs.BalancesLemmas.{entry_within, within_with, entry_with}
use Rattle.fund.specs.BalanceBook.{balance_book}
use Rattle.fund.specs.Meaning.{Lawful, Posted}
use Rattle.fund.specs.MeaningLemmas.{unmoved, stood_binding}
use Rattle.pools.specs.PerPool.{with_entry}
use Rattle.pools.specs.declared.pool.Pool.{Pool}

posted_to : (s : Balances) (p : Pool) (n : ℕ) → Within s → n ≤ limit → Within (with_entry s p n) × Posted balance_book s (with_entry s p n) p n
posted_to s p n k h = (within_with s p n k h, record { shown = entry_with s p n; binding = entry_with s p n; standing = refl; size = refl; takes_advisory = refl; free = omega arith })

pub balance_lawful : Lawful balance_book Within
balance_lawful = record {
  holds = λ s k. record { sized = omega arith; shown = entry_within s k; binding = entry_within s k; agrees = λ e q. refl };
  stood = λ s d k t. (k, stood_binding balance_book s d refl refl (λ q. refl) t);
  posted_in = λ s p a k t. posted_to s p _ k t.room;
  posted_out = λ s p a k t. posted_to s p _ k (omega (arith, entry_within s k p));
  ruled_off = λ s k. (k, record { unmoved = unmoved balance_book s; free = omega arith });
}
