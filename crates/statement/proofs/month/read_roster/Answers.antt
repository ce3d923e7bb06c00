use Rattle.std.proofs.Common.{◌≡◌, ◌+◌, ◌-◌, length, take, drop, Ok, sym, ap, ◌∙◌, arith}
use Rattle.std.proofs.lemmas.Result.{IfOk-at_ok}
use Rattle.statement.specs.Layout.{record_of}
use Rattle.statement.specs.Reading.{as_resource}
use Rattle.statement.specs.declared.fault.StatementFault.TheVariants.{Reader, Settlement}
use Rattle.statement.proofs.Answering.{placed_ok, refused_at, leaves_ok, leaves_err}
use Rattle.statement.proofs.Parsed.{take_rest_length}
use Rattle.statement.proofs.Rostering.{roster_end, roster_reader, roster_days, roster_refused, roster_more}
use Rattle.statement.proofs.month.read_roster.Goals as goal
use Rattle.statement.proofs.month.read_roster.Goals.{After-roster_record, else-loop-at-test, then-loop-at-test+in_ok-entry+in-Some+in_ok-at_offset-in-Some+else-at-end-at-gt16}

-- the record that stands here
read : (c : After-roster_record) → c.roster_record.result ≡ as_resource (length c.loop-at.roster) (record_of (take (length c.args.file.now - c.loop-at.at) (drop c.loop-at.at c.args.file.now)))
read c = rw c.entries-number.ensures.value at c.roster_record.ensures.value

pub returns-in_err-entry-clause-value : goal.returns-in_err-entry-clause-value
returns-in_err-entry-clause-value c =
    let is = read (goal.at.returns-in_err-entry-clause-value c).After-roster_record in
    refused_at _ c.roster_record.result c.loop-at.at Reader _ (sym c.at_offset.ensures ∙ c.in_err-entry.was) c.from_residual.ensures.1
    (λ f no. c.loop-at.invariant.same ∙ roster_reader c.loop-at.roster c.args.file.now c.loop-at.at c.roster_record.result (omega arith) is f no)

pub returns-in_err-at_offset-in-Some-clause-value : goal.returns-in_err-at_offset-in-Some-clause-value
returns-in_err-at_offset-in-Some-clause-value c =
    let is = read (goal.at.returns-in_err-at_offset-in-Some-clause-value c).After-roster_record in
    let o = placed_ok c.roster_record.result c.loop-at.at _ (sym c.at_offset.ensures ∙ c.in_ok-entry.was) ∙ ap Ok c.in-Some.is in
    refused_at _ c.push.result c.loop-at.at Settlement _ (sym c.at_offset-in-Some.ensures ∙ c.in_err-at_offset-in-Some.was) c.from_residual-in_err-at_offset-in-Some.ensures.1
    (λ f no. c.loop-at.invariant.same ∙ roster_refused c.loop-at.roster c.args.file.now c.loop-at.at c.roster_record.result (omega arith) is c.in-Some.entry f o (leaves_err c.push.result _ _ f no c.push.ensures))

pub returns-in-None-clause-value : goal.returns-in-None-clause-value
returns-in-None-clause-value c =
    let is = read (goal.at.returns-in-None-clause-value c).After-roster_record in
    let o = placed_ok c.roster_record.result c.loop-at.at _ (sym c.at_offset.ensures ∙ c.in_ok-entry.was) ∙ ap Ok c.in-None.is in
    rw (← c.loop-at.invariant.place) (c.loop-at.invariant.same ∙ roster_days c.loop-at.roster c.args.file.now c.loop-at.at c.roster_record.result (omega arith) is o)

pub loop-at-preserved : goal.loop-at-preserved
loop-at-preserved c =
    let is = read (goal.at.loop-at-preserved c).After-roster_record in
    let o = placed_ok c.roster_record.result c.loop-at.at _ (sym c.at_offset.ensures ∙ c.in_ok-entry.was) ∙ ap Ok c.in-Some.is in
    let q = placed_ok c.push.result c.loop-at.at _ (sym c.at_offset-in-Some.ensures ∙ c.in_ok-at_offset-in-Some.was) in
    let n = roster_more c.loop-at.roster c.args.file.now c.loop-at.at c.roster_record.result (omega arith) is c.in-Some.entry c.push.new.self o (leaves_ok c.push.result _ _ _ q c.push.ensures) c.loop-at.invariant.place in
    let w = IfOk-at_ok _ o c.roster_record.ensures.within in
    record {
      place = n.0;
      within = omega (arith, n.0, w, take_rest_length c.args.file.now c.loop-at.at);
      same = c.loop-at.invariant.same ∙ n.1;
    }

pub returns-clause-value : goal.returns-clause-value
returns-clause-value c =
    elim c.loop-at-test.branch [
      | else-loop-at-test w ↦ rw (w.roster-is, ← c.loop-at.invariant.place) (c.loop-at.invariant.same ∙ roster_end c.loop-at.roster c.args.file.now c.loop-at.at (omega arith))
      | then-loop-at-test+in_ok-entry+in-Some+in_ok-at_offset-in-Some+else-at-end-at-gt16 w ↦
          let o = placed_ok w.roster_record.result c.loop-at.at _ (sym w.at_offset.ensures ∙ w.in_ok-entry.was) ∙ ap Ok w.in-Some.is in
          let q = placed_ok w.push.result c.loop-at.at _ (sym w.at_offset-in-Some.ensures ∙ w.in_ok-at_offset-in-Some.was) in
          let n = roster_more c.loop-at.roster c.args.file.now c.loop-at.at w.roster_record.result (omega arith) (rw w.entries-number.ensures.value at w.roster_record.ensures.value) w.in-Some.entry w.push.new.self o (leaves_ok w.push.result _ _ _ q w.push.ensures) c.loop-at.invariant.place in
          rw (w.roster-is, ← n.0) (c.loop-at.invariant.same ∙ n.1 ∙ roster_end w.push.new.self c.args.file.now (c.loop-at.at + 16) (omega arith))
    ]
