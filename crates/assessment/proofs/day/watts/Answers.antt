use Rattle.std.proofs.Common.{◌≡◌, ◌*◌, ◌/◌, arith}
use Rattle.std.proofs.lemmas.Bool.Decides.{nat_tests}
use Rattle.assessment.specs.Days.{figure, weight}
use Rattle.assessment.specs.Totals.{totals_of}
use Rattle.assessment.proofs.Watts.{watts_within}
use Rattle.assessment.proofs.day.watts.Goals as goal

pub returns-else-weight-eq0 : goal.returns-else-weight-eq0
returns-else-weight-eq0 c =
    let own = totals_of c.args.own in
    let other = totals_of c.args.other in
    let is : 1000 * c.args.amount * other.hours * c.args.largest.kilowatts / weight own other ≡ figure c.args.amount own other c.args.largest.kilowatts = grind (arith, nat_tests) in
    let within = watts_within _ c.args.amount own other c.args.largest.kilowatts c.args.own.capped c.requires c.args.largest.within is in
    record { is = is; grows = within.0; capped = within.1 }
