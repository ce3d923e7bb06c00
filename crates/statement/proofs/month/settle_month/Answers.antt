use Rattle.std.proofs.Common.{◌≡◌, ◌≤◌, length, drop, Ok, sym, ◌∙◌, arith}
use Rattle.std.proofs.lemmas.Result.{IfOk-at_ok}
use Rattle.statement.specs.Files.{records_of, month_part}
use Rattle.statement.specs.Months.{roster_part, closed_of}
use Rattle.statement.specs.Settling.{settled_from}
use Rattle.statement.specs.declared.fault.StatementFault.TheVariants.{Reader}
use Rattle.statement.proofs.Answering.{placed_ok, refused_at, stops, goes_on}
use Rattle.statement.proofs.Wholes.{month_read, month_refused, settled_unread, settled_by}
use Rattle.statement.proofs.month.settle_month.Goals as goal
use Rattle.statement.proofs.month.settle_month.Goals.{In_ok-terms}

-- the month record, once it is read
read : (c : In_ok-terms) → month_part (records_of c.args.file.now) ≡ Ok (record { terms = c.in_ok-terms.terms; rest = records_of (drop 36 c.args.file.now) })
read c =
    let bs = c.args.file.now in
    let o = placed_ok c.month_record.result 0 _ (sym c.at_offset.ensures ∙ c.in_ok-terms.was) in
    let w : 36 ≤ length bs = IfOk-at_ok _ o c.month_record.ensures.within in
    month_read bs c.month_record.result c.in_ok-terms.terms (omega arith) c.month_record.ensures.value o

pub returns-in_err-terms-clause-value : goal.returns-in_err-terms-clause-value
returns-in_err-terms-clause-value c =
    refused_at _ c.month_record.result 0 Reader _ (sym c.at_offset.ensures ∙ c.in_err-terms.was) c.from_residual.ensures.1
    (λ f is. settled_unread c.args.file.now _ (month_refused c.args.file.now c.month_record.result f c.month_record.ensures.value is))

pub returns-in_err-roster-clause-value : goal.returns-in_err-roster-clause-value
returns-in_err-roster-clause-value c =
    let bs = c.args.file.now in
    let m = settled_by bs c.in_ok-terms.terms (read (goal.at.returns-in_err-roster-clause-value c).In_ok-terms) in
    rw m (stops (roster_part bs) closed_of _ (λ part. settled_from c.in_ok-terms.terms part) c.read_roster.result _ _ c.in_err-roster.was c.read_roster.ensures.value c.from_residual-in_err-roster.ensures.1)

pub returns-clause-value : goal.returns-clause-value
returns-clause-value c =
    let bs = c.args.file.now in
    let m = settled_by bs c.in_ok-terms.terms (read (goal.at.returns-clause-value c).In_ok-terms) in
    rw m (goes_on (roster_part bs) closed_of _ (λ part. settled_from c.in_ok-terms.terms part) c.read_roster.result _ c.settle_days.result c.in_ok-roster.was c.read_roster.ensures.value c.settle_days.ensures.value)
