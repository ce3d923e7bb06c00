use Rattle.std.proofs.Common.{◌≤◌, rules, tests}
use Rattle.std.proofs.lemmas.Iterator.{cases_from_all, YieldsList-from_slice}
use Rattle.settlement.specs.Releasing.{no_load}
use Rattle.settlement.specs.declared.tables.LoadEntry.{LoadEntry}
use Rattle.assessment.proofs.Deciding.{tells_each}
use Rattle.settlement.proofs.releases.each_load_within.Goals as goal

pub returns : goal.returns
returns c =
    let P = λ (e : LoadEntry). e.load ≤ 1000000 in
    let cases = cases_from_all _ _ _ P (λ (e : LoadEntry). P e → ⊥) c.all.ensures.ran (YieldsList-from_slice c.args.loads.now c.iter.ensures.rest) (λ x q k. search (rules, tests)) (λ x q k. search (rules, tests)) in
    tells_each P _ c.args.loads.now no_load cases
