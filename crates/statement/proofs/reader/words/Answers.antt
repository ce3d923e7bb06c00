use Rattle.std.proofs.Common.{◌≡◌, ◌*◌, ◌/◌, length, refl, rules, arith}
use Rattle.assessment.proofs.Arrays.{all_made}
use Rattle.statement.specs.Layout.{word_at, words_of}
use Rattle.statement.proofs.Fields.{in_four}
use Rattle.statement.proofs.reader.words.Goals as goal

pub returns : goal.returns
unfolding words_of
returns g c =
    let bytes = c.args.bytes.now in
    (omega arith, all_made _ (λ f. f.0.now ≡ c.as_chunks.result.0.now) (λ k. word_at bytes (4 * k)) g.row.N (λ f h k w lt keeps called. search (rules, in_four (length bytes / 4) k)) _ _ refl c.from_fn.ensures.items)
