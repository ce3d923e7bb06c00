use Rattle.std.proofs.Common.{arith}
use Rattle.pools.specs.declared.pool.Pool.TheVariants.{Generic}
use Rattle.settlement.proofs.Steps.{release_steps, next_fits}
use Rattle.settlement.proofs.postings.post_release.Goals as goal

pub post_out-requires-clause-covered : goal.post_out-requires-clause-covered
post_out-requires-clause-covered g c =
    let m = g.B.FundBook.means in
    let law = g.met.B.FundBook.lawful in
    let h = next_fits m _ law (release_steps m _ law c.args.loads.now) _ (g.met.B.FundBook.real c.args.book.now) (omega arith) c.requires c.loop-pool.pool-index Generic c.loop-pool-test.true in
    rw (c.loop-pool.invariant, c.total.ensures) h.1
