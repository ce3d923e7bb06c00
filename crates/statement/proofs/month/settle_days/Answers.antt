use Rattle.statement.specs.Months.{closed_of}
use Rattle.statement.proofs.Answering.{stops, goes_on}
use Rattle.statement.proofs.Wholes.{settled_open}
use Rattle.statement.proofs.month.settle_days.Goals as goal

pub returns-in_err-month-clause-value : goal.returns-in_err-month-clause-value
returns-in_err-month-clause-value c =
    let s = settled_open c.args.terms c.args.file.now c.args.roster in
    rw s (stops _ closed_of _ _ c.open.result _ _ c.in_err-month.was c.open.ensures.value c.from_residual.ensures.1)

pub returns-in_err-record_days-clause-value : goal.returns-in_err-record_days-clause-value
returns-in_err-record_days-clause-value c =
    let s = settled_open c.args.terms c.args.file.now c.args.roster in
    rw s (goes_on _ closed_of _ _ c.open.result _ _ c.in_ok-month.was c.open.ensures.value
    (stops _ closed_of _ _ c.record_days.result _ _ c.in_err-record_days.was c.record_days.ensures.value c.from_residual-in_err-record_days.ensures.1))

pub returns-clause-value : goal.returns-clause-value
returns-clause-value c =
    let s = settled_open c.args.terms c.args.file.now c.args.roster in
    rw s (goes_on _ closed_of _ _ c.open.result _ c.close.result c.in_ok-month.was c.open.ensures.value
    (goes_on _ closed_of _ _ c.record_days.result _ _ c.in_ok-record_days.was c.record_days.ensures.value c.close.ensures.value))
