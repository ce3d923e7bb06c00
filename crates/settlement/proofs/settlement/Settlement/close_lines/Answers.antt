use Rattle.std.proofs.Common.{arith}
use Rattle.assessment.specs.Pairs.{rules_of}
use Rattle.pools.specs.declared.pool.Pool.TheVariants.{Generic, Flexible}
use Rattle.settlement.proofs.Closings.{closed_long, both_closed}
use Rattle.settlement.proofs.settlement.Settlement.close_lines.Goals as goal

pub close_pool-requires : goal.close_pool-requires
close_pool-requires g c = c.work_out.ensures.small Generic

pub close_pool-requires-2 : goal.close_pool-requires-2
close_pool-requires-2 g c = c.work_out.ensures.small Flexible

pub write_table-requires : goal.write_table-requires
write_table-requires g c Generic = omega (arith, c.requires.fit, closed_long _ _ Generic _ _ _ c.in_ok-close_pool.ensures, c.work_out.ensures.long Generic)
write_table-requires g c Flexible = omega (arith, c.requires.fit, closed_long _ _ Flexible _ _ _ c.in_ok-close_pool-2.ensures, c.work_out.ensures.long Flexible)

pub returns : goal.returns
returns g c =
    let t = c.args.tables.now in
    let r = rules_of g.G.AvailabilityRule.means g.F.AvailabilityRule.means c.args.self.now.rules in
    both_closed g.B.FundBook.means r (g.B.FundBook.state c.args.self.now.book) t.month.now.settings.month t.month.now.price.cents t.roster.now t.rows.now _ _ _ _ _ _ c.args.lines.now _
    (c.work_out.ensures.is Generic) (c.work_out.ensures.is Flexible) c.in_ok-close_pool.ensures c.in_ok-close_pool-2.ensures (omega (arith, closed_long _ _ Generic _ _ _ c.in_ok-close_pool.ensures, c.work_out.ensures.long Generic))
    c.write_table.ensures
