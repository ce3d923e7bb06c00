use Rattle.std.proofs.Common.{Ok, rules}
use Rattle.settlement.specs.Runs.{opens}
use Rattle.settlement.proofs.settlement.Settlement.open.Goals as goal

pub returns-clause-runs : goal.returns-clause-runs
returns-clause-runs g c = λ h run. opens c.args.terms.now c.args.roster.now c.args.rows.now _ (Ok tt) run (search rules)
