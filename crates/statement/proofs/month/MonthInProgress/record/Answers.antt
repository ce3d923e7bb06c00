use Rattle.statement.proofs.Recorded.{recorded_is, rows_stay}
use Rattle.statement.proofs.Wholes.{open_phase}
use Rattle.statement.proofs.month.MonthInProgress.record.Goals as goal

pub returns : goal.returns
returns c =
    let m = c.args.self.now in
    let does = rw (c.entries.ensures.value, open_phase m.terms _ m.opened) at c.record.ensures.does in
    record {
      value = recorded_is m.terms m.roster c.args.rows.now c.record.new.rows c.args.day.now c.record.result c.requires.fit does;
      rows = rows_stay m.terms m.roster c.args.rows.now c.record.new.rows c.args.day.now c.record.result does c.requires.rows;
    }
