use Rattle.std.proofs.Common.{◌≡◌, ◌+◌, ◌≤◌, length, drop, Ok, sym, ◌∙◌, arith}
use Rattle.std.proofs.lemmas.Result.{IfOk-at_ok}
use Rattle.statement.specs.Files.{records_of}
use Rattle.statement.specs.Settling.{days_from}
use Rattle.statement.specs.declared.fault.StatementFault.TheVariants.{Reader, Settlement}
use Rattle.statement.proofs.Answering.{placed_ok, refused_at, leaves_ok, leaves_err}
use Rattle.statement.proofs.Dating.{days_end, days_reader, days_refused, days_more}
use Rattle.statement.proofs.Parsed.{take_rest_length}
use Rattle.statement.proofs.month.MonthInProgress.record_days.Goals as goal
use Rattle.statement.proofs.month.MonthInProgress.record_days.Goals.{In_ok-day, In_ok-at_offset}

-- the day that stands here
day : (c : In_ok-day) → c.day_record.result ≡ Ok c.in_ok-day.day
day c = placed_ok c.day_record.result c.loop-at.at _ (sym c.at_offset.ensures ∙ c.in_ok-day.was)

-- once it is recorded, the days after it are left
more : (c : In_ok-at_offset) → c.day_record.result ≡ Ok c.in_ok-day.day
    → (c.loop-at.at + 412 ≤ length c.args.file.now)
    × (days_from c.args.self.now.terms c.args.self.now.roster c.loop-at.rows c.loop-at.at (records_of (drop c.loop-at.at c.args.file.now)) ≡ days_from c.args.self.now.terms c.args.self.now.roster c.record.new.rows (c.loop-at.at + 412) (records_of (drop (c.loop-at.at + 412) c.args.file.now)))
more c o =
    let m = c.args.self.now in
    let q = placed_ok c.record.result c.loop-at.at _ (sym c.at_offset-in-loop-at.ensures ∙ c.in_ok-at_offset.was) in
    let w = IfOk-at_ok _ o c.day_record.ensures.within in
    (omega (arith, w, take_rest_length c.args.file.now c.loop-at.at), days_more m.terms m.roster c.loop-at.rows c.args.file.now c.loop-at.at c.day_record.result (omega arith) c.day_record.ensures.value c.in_ok-day.day c.record.new.rows o (leaves_ok c.record.result _ _ _ q c.record.ensures.value))

pub returns-in_err-day-clause-value : goal.returns-in_err-day-clause-value
returns-in_err-day-clause-value c =
    let m = c.args.self.now in
    refused_at _ c.day_record.result c.loop-at.at Reader _ (sym c.at_offset.ensures ∙ c.in_err-day.was) c.from_residual.ensures.1
    (λ f is. c.loop-at.invariant.rest ∙ days_reader m.terms m.roster c.loop-at.rows c.args.file.now c.loop-at.at c.day_record.result (omega arith) c.day_record.ensures.value f is)

pub returns-in_err-at_offset-clause-value : goal.returns-in_err-at_offset-clause-value
returns-in_err-at_offset-clause-value c =
    let m = c.args.self.now in
    let o = day (goal.at.returns-in_err-at_offset-clause-value c).In_ok-day in
    refused_at _ c.record.result c.loop-at.at Settlement _ (sym c.at_offset-in-loop-at.ensures ∙ c.in_err-at_offset.was) c.from_residual-in_err-at_offset.ensures.1
    (λ f is. c.loop-at.invariant.rest ∙ days_refused m.terms m.roster c.loop-at.rows c.args.file.now c.loop-at.at c.day_record.result (omega arith) c.day_record.ensures.value c.in_ok-day.day f o (leaves_err c.record.result _ _ f is c.record.ensures.value))

pub loop-at-preserved : goal.loop-at-preserved
loop-at-preserved c =
    let at = goal.at.loop-at-preserved c in
    let k = more at.In_ok-at_offset (day at.In_ok-day) in
    record {
      within = k.0;
      fit = (c.loop-at.invariant.fit.0, c.record.auto.rows ∙ c.loop-at.invariant.fit.1);
      each = c.record.ensures.rows;
      rest = c.loop-at.invariant.rest ∙ k.1;
    }

pub returns-clause-value : goal.returns-clause-value
returns-clause-value c =
    let m = c.args.self.now in
    c.loop-at.invariant.rest ∙ days_end m.terms m.roster c.loop-at.rows c.args.file.now c.loop-at.at (omega arith) (omega arith)

-- the last day of the file
pub returns-in_ok-at_offset-clause-value : goal.returns-in_ok-at_offset-clause-value
returns-in_ok-at_offset-clause-value c =
    let at = goal.at.returns-in_ok-at_offset-clause-value c in
    let m = c.args.self.now in
    let k = more at.In_ok-at_offset (day at.In_ok-day) in
    c.loop-at.invariant.rest ∙ k.1 ∙ days_end m.terms m.roster c.record.new.rows c.args.file.now (c.loop-at.at + 412) (omega arith) k.0
