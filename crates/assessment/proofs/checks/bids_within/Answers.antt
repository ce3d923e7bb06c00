use Rattle.std.proofs.Common.{◌≡◌, length, rules, tests}
use Rattle.std.proofs.lemmas.Iterator.{cases_from_all, YieldsList-from_slice}
use Rattle.assessment.specs.Records.{HourWithin, no_bids}
use Rattle.assessment.proofs.Deciding.{tells_each}
use Rattle.assessment.proofs.checks.bids_within.Goals as goal

pub returns : goal.returns
returns c =
    let hours = c.args.submission.now.hours in
    let h = cases_from_all _ _ _ HourWithin (λ x. HourWithin x → ⊥) c.all.ensures.ran (YieldsList-from_slice hours cc) (λ x q k. search (rules, tests)) (λ x q k. search (rules, tests)) in
    let day : length hours ≡ 24 = search rules in
    let told = tells_each HourWithin c.all.result hours no_bids h in
    rw day at told
