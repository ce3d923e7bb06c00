use Rattle.std.proofs.Common.{length, ap, ◌∙◌, arith}
use Rattle.std.proofs.lemmas.List.FromFn.{fill_by_all}
use Rattle.pools.specs.declared.pool.Pool.TheVariants.{Generic, Flexible}
use Rattle.settlement.specs.Closing.{no_line, line_table}
use Rattle.settlement.proofs.pays.write_table.Goals as goal

pub bounds-deref-place : goal.bounds-deref-place
bounds-deref-place c = omega (arith, c.requires Generic, c.loop-place.auto.lines, ap length c.deref.ensures.0)

pub bounds-deref-place-in-Flexible : goal.bounds-deref-place-in-Flexible
bounds-deref-place-in-Flexible c = omega (arith, c.requires Flexible, c.loop-place.auto.lines, ap length c.deref-in-Flexible.ensures.0)

pub returns : goal.returns
unfolding line_table
returns c = fill_by_all _ c.loop-place.lines _ no_line (c.loop-place.auto.lines ∙ c.requires Generic) (λ k lt. c.loop-place.invariant k (omega arith))
