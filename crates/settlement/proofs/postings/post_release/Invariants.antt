use Rattle.std.proofs.Common.{◌≡◌}
use Rattle.fund.specs.Laws.{with_room}
use Rattle.settlement.specs.Closing.{posted_out}
use Rattle.settlement.specs.Releasing.{load_told}
use Rattle.settlement.specs.declared.amounts.LoadAmount.TheVariants.{Share}
use Rattle.settlement.proofs.Steps.{in_turn}
use Rattle.settlement.proofs.postings.post_release.Given as goal

abbrev pub invariant-loop-pool : goal.invariant-loop-pool
invariant-loop-pool g l =
    let m = g.B.FundBook.means in
    g.B.FundBook.state l.book ≡ in_turn (λ s p. posted_out m s p (load_told (Share p) l.loads)) (with_room m (g.B.FundBook.state l.fn.book) 2) l.pool-index
