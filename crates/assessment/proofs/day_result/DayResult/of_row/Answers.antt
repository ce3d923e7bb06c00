use Rattle.std.proofs.Common.{◌≡◌, sym, subst, rules}
use Rattle.assessment.specs.Lines.{figures_in, FiguresWithin}
use Rattle.assessment.proofs.day_result.DayResult.of_row.Goals as goal

pub returns-then-not-each_within : goal.returns-then-not-each_within
returns-then-not-each_within c w =
    let is : c.unwrap_or_default-figures.result ≡ figures_in c.args.row = search rules in
    c.if-not-each_within.ensures (subst FiguresWithin (sym is) w)
