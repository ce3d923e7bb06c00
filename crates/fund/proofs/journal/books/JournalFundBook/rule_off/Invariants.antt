use Rattle.std.proofs.Common.{◌≡◌, ℕ, zero, suc, List, [], ◌++◌}
use Rattle.fund.specs.Pages.{pages, brought}
use Rattle.fund.specs.Journal.{pages_of}
use Rattle.pools.specs.declared.pool.Pool.TheVariants.{Generic, Flexible}
use Rattle.pools.specs.declared.per_pool.PerPool.{PerPool}
use Rattle.fund.specs.declared.posting.Posting.{Posting}
use Rattle.fund.proofs.journal.books.JournalFundBook.rule_off.Given as goal

-- what is brought forward of the first i pools
abbrev pub forward_to : PerPool ℕ → ℕ → List Posting
forward_to b zero = []
forward_to b (suc zero) = brought Generic b.generic
forward_to b (suc (suc i)) = brought Generic b.generic ++ brought Flexible b.flexible

abbrev pub invariant-loop-pool : goal.invariant-loop-pool
invariant-loop-pool l = pages_of l.self ≡ pages (forward_to l.balances l.pool-index) l.fn.self.size
