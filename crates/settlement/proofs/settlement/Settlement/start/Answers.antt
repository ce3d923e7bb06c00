use Rattle.std.proofs.Common.{◌≡◌, sym, subst, rules}
use Rattle.assessment.specs.Pairs.{rules_of}
use Rattle.settlement.specs.Opening.{started}
use Rattle.settlement.specs.Runs.{Run, no_history, starts}
use Rattle.settlement.specs.Views.{View}
use Rattle.settlement.proofs.settlement.Settlement.start.Goals as goal

pub returns-clause-runs : goal.returns-clause-runs
returns-clause-runs g c =
    let m = g.B.FundBook.means in
    let s = g.B.FundBook.state c.args.book in
    let r = rules_of g.G.AvailabilityRule.means g.F.AvailabilityRule.means c.args.rules in
    let is : ◌≡◌ {A = View g.B.FundBook.State} _ (started m s) = search rules in
    subst (Run m g.B.FundBook.sound r (no_history (m.binding s))) (sym is) (starts s (g.met.B.FundBook.real c.args.book))
