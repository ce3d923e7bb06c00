use Rattle.std.proofs.Common.{arith, rules}
use Rattle.std.proofs.lemmas.Str.Parse.{parse_plain, not_in_digits}
use Rattle.scripts.proofs.Numerals.{own}
use Rattle.scripts.proofs.numbers.wide_number.Goals as goal

pub returns-in-Ok : goal.returns-in-Ok
returns-in-Ok c = search (rules, parse_plain own 64 c.args.word.now _ c.parse.ensures.value.0)

pub returns-in-Err : goal.returns-in-Err
returns-in-Err c = search (rules, parse_plain own 64 c.args.word.now _ c.parse.ensures.value.0)

pub returns-in-43 : goal.returns-in-43
returns-in-43 c = λ d. not_in_digits own c.args.word.now 43 d.0 (λ i. omega (arith, i)) 0 d.1 (search rules)
