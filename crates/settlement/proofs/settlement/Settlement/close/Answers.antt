use Rattle.std.proofs.Common.{Ok, refl, ap, ◌∙◌}
use Rattle.assessment.specs.Pairs.{rules_of}
use Rattle.settlement.specs.Runs.{closes}
use Rattle.settlement.specs.Views.{phase_of, phase_closed}
use Rattle.settlement.proofs.Closings.{pools_funded, close_taken}
use Rattle.settlement.proofs.settlement.Settlement.close.Goals as goal

pub post_month-requires : goal.post_month-requires
post_month-requires g c =
    let r = rules_of g.G.AvailabilityRule.means g.F.AvailabilityRule.means c.args.self.now.rules in
    let closed = c.in_ok-pools.ensures in
    pools_funded g.B.FundBook.means r _ _ _ c.args.roster.now c.args.rows.now _ closed.0 closed.1 closed.2

pub returns : goal.returns
returns g c =
    let r = rules_of g.G.AvailabilityRule.means g.F.AvailabilityRule.means c.args.self.now.rules in
    let does = close_taken g.B.FundBook.means r _ _ _ c.args.roster.now c.args.rows.now c.args.self.now.opening _ _ c.args.lines.now _ _ _ (ap phase_of c.in-Open.is) c.if-not-all_fit.ensures c.in_ok-pools.ensures (c.after_close-self.ensures ∙ ap phase_closed c.from.ensures) c.post_month.ensures in
    record { does = does; same = tt; rules = refl; runs = λ h run handed. closes c.args.roster.now c.args.rows.now c.args.lines.now c.close_lines.new.lines (Ok c.in_ok-pools.pools) run handed does }
