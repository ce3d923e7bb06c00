use Rattle.std.proofs.Common.{rules, tests, None}
use Rattle.std.proofs.lemmas.Iterator.{cases_from_all, YieldsList-from_slice}
use Rattle.assessment.specs.Figures.{DayRow}
use Rattle.assessment.specs.Lines.{RowWithin}
use Rattle.assessment.proofs.Deciding.{tells_each}
use Rattle.settlement.proofs.checks.rows_within.Goals as goal

pub returns : goal.returns
returns c =
    let cases = cases_from_all _ _ _ RowWithin (λ (row : DayRow). RowWithin row → ⊥) c.all.ensures.ran (YieldsList-from_slice c.args.rows.now c.iter.ensures.rest) (λ x q k. search (rules, tests)) (λ x q k. search (rules, tests)) in
    tells_each RowWithin _ c.args.rows.now None cases
