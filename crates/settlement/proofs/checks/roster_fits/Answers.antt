use Rattle.std.proofs.Common.{◌≤◌, rules, tests}
use Rattle.std.proofs.lemmas.Iterator.{cases_from_all, YieldsList-from_slice}
use Rattle.settlement.specs.Tables.{nobody}
use Rattle.settlement.specs.declared.tables.RosterEntry.{RosterEntry}
use Rattle.assessment.proofs.Deciding.{tells_each, tells_both}
use Rattle.settlement.proofs.checks.roster_fits.Goals as goal

pub returns-then-roster-le-MOST_RESOURCES : goal.returns-then-roster-le-MOST_RESOURCES
returns-then-roster-le-MOST_RESOURCES c =
    let P = λ (e : RosterEntry). e.category ≤ 3 in
    let cases = cases_from_all _ _ _ P (λ (e : RosterEntry). P e → ⊥) c.all.ensures.ran (YieldsList-from_slice c.args.roster.now c.iter.ensures.rest) (λ x q k. search (rules, tests)) (λ x q k. search (rules, tests)) in
    tells_both _ _ c.if-roster-le-MOST_RESOURCES.true (tells_each P _ c.args.roster.now nobody cases)
