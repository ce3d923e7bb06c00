use Rattle.std.proofs.Common.{◌≤◌, length, refl, ap, ◌∙◌, arith}
use Rattle.std.proofs.lemmas.Bool.{le-ltb}
use Rattle.std.proofs.lemmas.List.{take_rest}
use Rattle.statement.specs.Layout.{words_of, hours_told, day_of}
use Rattle.statement.proofs.Fields.{hours_read}
use Rattle.statement.proofs.Parsed.{take_rest_length}
use Rattle.statement.proofs.reader.read_day.Goals as goal

pub returns-clause-value : goal.returns-clause-value
unfolding day_of words_of
returns-clause-value c =
    let bs = c.args.rest.now in
    let whole : 408 ≤ length bs = omega (arith, c.in_ok-bids.ensures.0, take_rest_length bs 24) in
    let h = c.hours.ensures ∙ ap hours_told (c.in_ok-bids.ensures.1 ∙ ap (words_of 96) (take_rest bs 24)) ∙ hours_read bs 24 in
    rw (le-ltb _ _ whole, h, c.in_ok-resource.ensures.1) refl
