use Rattle.std.proofs.Common.{◌≡◌, ◌+◌, refl, rules}
use Rattle.examples.specs.Plans.{alike, bid_in, hours_of}
use Rattle.assessment.proofs.Arrays.{all_made}
use Rattle.examples.proofs.plan.Offer.hours.Goals as goal

pub returns : goal.returns
unfolding hours_of
returns c = all_made _ (λ f. f.0.now ≡ c.args.self) (λ k. alike (bid_in c.args.self (k + 1))) 24 (λ f g k bids lt keeps called. search rules) _ _ refl c.from_fn.ensures.items
