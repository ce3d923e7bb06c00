use Rattle.std.proofs.Common.{◌≡◌, ◌/◌, length, refl, rules}
use Rattle.assessment.proofs.Arrays.{all_made}
use Rattle.statement.specs.Layout.{hour_told, hours_told}
use Rattle.statement.proofs.Fields.{four_at}
use Rattle.statement.proofs.reader.hours.Goals as goal

pub returns : goal.returns
unfolding hours_told
returns c =
    let bids = c.args.bids.now in
    all_made _ (λ f. f.0.now ≡ c.as_chunks.result.0.now) (hour_told bids) 24 (λ f h k x lt keeps called. search (rules, four_at (length bids / 4) k)) _ _ refl c.from_fn.ensures.items
