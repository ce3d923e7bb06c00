use Rattle.std.proofs.Common.{Ok, refl, ap, rules}
use Rattle.settlement.specs.Runs.{records}
use Rattle.settlement.specs.Views.{phase_of}
use Rattle.settlement.proofs.Recordings.{record_taken}
use Rattle.settlement.proofs.settlement.Settlement.record.Goals as goal

pub returns : goal.returns
returns g c =
    let does = record_taken _ _ c.in-Open.month.settings _ c.args.roster.now c.args.rows.now _ c.args.day.now.at c.args.day.now.submission _ _ (record { day = c.in_ok-trade_day.trade_day; «record» = c.in_ok-record.record }) (ap phase_of c.in-Open.is) c.if-not-days_fit.ensures (search rules) (search rules) (search rules) (search rules) (search rules) c.assess_day-result.ensures.is c.row.ensures refl in
    record { does = does; runs = λ h run handed. records c.args.roster.now c.args.rows.now _ c.args.day.now (Ok c.assess_day-result.result.figures) run handed does }
