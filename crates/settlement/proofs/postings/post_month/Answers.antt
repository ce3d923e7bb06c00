use Rattle.std.proofs.Common.{◌≡◌, ap, ◌∙◌, arith}
use Rattle.pools.specs.declared.pool.Pool.TheVariants.{Generic}
use Rattle.settlement.specs.Closing.{month_posted}
use Rattle.settlement.proofs.Steps.{close_steps, next_fits}
use Rattle.settlement.proofs.postings.post_month.Goals as goal

pub post_pool-requires : goal.post_pool-requires
post_pool-requires g c =
    let m = g.B.FundBook.means in
    let law = g.met.B.FundBook.lawful in
    let h = next_fits m _ law (close_steps m _ law c.args.pools) _ (g.met.B.FundBook.real c.args.book.now) (omega arith) c.requires c.loop-pool.pool-index Generic c.loop-pool-test.true in
    record { places = omega (arith, ap m.free c.loop-pool.invariant, h.0); funded = rw (c.loop-pool.invariant, c.get.ensures) h.1 }

pub returns : goal.returns
unfolding month_posted
returns g c =
    let last : c.loop-pool.pool-index ≡ 2 = omega arith in
    c.loop-pool.invariant ∙ rw last
