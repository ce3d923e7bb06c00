use Rattle.std.proofs.Common.{◌≡◌, ◌*◌, ◌<◌, length, get_or, refl, sym, ap, ◌∙◌, ⊎_elim, arith, length-drop, rules}
use Rattle.std.proofs.lemmas.List.{length_push}
use Rattle.arrayvec.specs.ArrayVec.{array_vec_len}
use Rattle.assessment.specs.Lines.{lines_of}
use Rattle.assessment.specs.Pairs.{rules_of}
use Rattle.pools.specs.PerPool.{entry_of}
use Rattle.pools.specs.declared.pool.Pool.{Pool}
use Rattle.pools.specs.declared.pool.Pool.TheVariants.{Generic}
use Rattle.settlement.specs.Closing.{charged_entries}
use Rattle.settlement.proofs.BothPools.{pools}
use Rattle.settlement.proofs.Working.{next_resource, next_places, not_pushed, pushed_more, lines_more, count, charged_small}
use Rattle.settlement.proofs.workings.MonthTables.work_out.Goals as goal

pub push-requires : goal.push-requires
push-requires g c =
    let i = c.loop-entry.invariant in
    let n = length c.loop-entry.yielded in
    let who = next_resource c.args.self.now.roster.now _ n _ (sym i.resources ∙ c.in-Some.ensures.steps.0) in
    let p = get_or pools c.loop-pool.pool-index Generic in
    let here = c.loop-pool.invariant p ∙ not_pushed c.loop-pool.pool-index (omega arith) (entry_of c.loop-entry.entries p).items _ in
    let few : array_vec_len c.entry.result.now < 512 = omega (arith, ap array_vec_len c.entry.ensures.value, ap length here, count _ _ _ (i.lines p), who.0) in
    (omega arith, few)

pub loop-pool-preserved : goal.loop-pool-preserved
loop-pool-preserved g c =
    pushed_more c.loop-pool.pool-index (omega arith) c.loop-pool.entries c.push.new.self _ _ c.loop-pool.invariant (c.push.ensures.items ∙ rw (c.entry.ensures.value, c.charged.ensures, c.get.ensures) refl)

pub loop-entry-preserved : goal.loop-entry-preserved
loop-entry-preserved g c =
    let i = c.loop-entry.invariant in
    let n = length c.loop-entry.yielded in
    let step = c.in-Some.ensures.steps in
    let t = c.args.self.now in
    let who = next_resource t.roster.now _ n _ (sym i.resources ∙ step.0) in
    let part = next_places t.rows.now _ _ n (step.1.1.1 ∙ i.size) (sym i.places ∙ step.1.1.0) in
    let r = rules_of g.G.AvailabilityRule.means g.F.AvailabilityRule.means c.args.rules.now in
    let lines : c.unwrap-lines.result ≡ lines_of r t.month.now.settings.month c.in-Some.entry.now.category c.in-Some.rows.now = search rules in
    rw (length_push c.loop-entry.yielded) (record {
      few = omega (arith, who.0);
      size = step.1.0 ∙ i.size;
      resources = who.2;
      places = part.1;
      lines = lines_more _ c.loop-entry.entries c.loop-pool.entries n c.loop-pool.pool-index (omega arith) i.lines (λ p. c.loop-pool.invariant p ∙ rw (lines, who.1, part.0) refl);
    })

pub returns : goal.returns
unfolding charged_entries
returns g c =
    let t = c.args.self.now in
    let i = c.loop-entry.invariant in
    let n = length c.loop-entry.yielded in
    let r = rules_of g.G.AvailabilityRule.means g.F.AvailabilityRule.means c.args.rules.now in
    let all : n ≡ length t.roster.now =
    ⊎_elim (λ h. omega (arith, ap length i.resources, length-drop n t.roster.now, h.1.0, i.few)) (λ h. omega (arith, ap length i.places, length-drop (31 * n) t.rows.now, h.1.1.0, i.size, i.few, t.fit.1)) c.in-None.ensures.steps in
    let is : (p : Pool) → (entry_of c.loop-entry.entries p).items ≡ charged_entries r t.month.now.settings.month t.month.now.price.cents t.roster.now t.rows.now p = λ p. rw (← all) (i.lines p) in
    record { is = is; long = λ p. count _ _ _ (is p); small = λ p. charged_small r t.month.now.settings.month t.month.now.price.cents t.roster.now t.rows.now p _ t.fit t.within (is p) }
