use Rattle.std.proofs.Common.{◌≡◌}
use Rattle.fund.specs.Laws.{with_room}
use Rattle.pools.specs.PerPool.{entry_of}
use Rattle.settlement.specs.Closing.{posted}
use Rattle.settlement.proofs.Steps.{in_turn}
use Rattle.settlement.proofs.postings.post_month.Given as goal

abbrev pub invariant-loop-pool : goal.invariant-loop-pool
invariant-loop-pool g l =
    let m = g.B.FundBook.means in
    g.B.FundBook.state l.book ≡ in_turn (λ s p. posted m s p (entry_of l.pools p)) (with_room m (g.B.FundBook.state l.fn.book) 4) l.pool-index
