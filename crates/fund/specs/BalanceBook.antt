-- What the balance book means: its state is the two balances, and eight places are always free.
use Rattle.std.specs.Prelude.{◌+◌, ◌-◌, false}
use Rattle.fund.specs.Balances.{Balances}
use Rattle.pools.specs.PerPool.{entry_of, with_entry}
use Rattle.fund.specs.Cents.{cents_of}
use Rattle.fund.specs.Meaning.{FundMeaning}
use Rattle.fund.specs.declared.standing.Standing.TheVariants.{Binding}
use Rattle.fund.specs.declared.balance_book.BalanceBook.{BalanceBook}

-- Its state.
abbrev pub balances_of : BalanceBook → Balances
balances_of b = cents_of b.balances

-- It starts with no money.
abbrev pub no_money : Balances
no_money = record { generic = 0; flexible = 0 }

-- Nothing is refused for want of a place, and ruling off has nothing to do.
abbrev pub balance_book : FundMeaning Balances
balance_book = record {
  binding = entry_of;
  shown = entry_of;
  standing = λ s. Binding;
  size = λ s. 8;
  free = λ s. 8;
  takes_advisory = λ s. false;
  stood = λ s d. s;
  posted_in = λ s p a. with_entry s p (entry_of s p + a);
  posted_out = λ s p a. with_entry s p (entry_of s p - a);
  ruled_off = λ s. s;
}
