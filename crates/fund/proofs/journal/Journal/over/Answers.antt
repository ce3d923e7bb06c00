use Rattle.std.proofs.Common.{arith, rules}
use Rattle.fund.specs.JournalLemmas.{blank_sound}
use Rattle.fund.proofs.journal.Journal.over.Goals as goal

pub invariant_of-result : goal.invariant_of-result
invariant_of-result c = record { sound = blank_sound _ _ (search rules) (search rules); roomy = omega arith }
