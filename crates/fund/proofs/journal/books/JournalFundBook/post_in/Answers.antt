use Rattle.std.proofs.Common.{arith, rules}
use Rattle.fund.specs.JournalLemmas.{posted_one}
use Rattle.fund.specs.declared.posting.Direction.TheVariants.{In}
use Rattle.fund.proofs.journal.books.JournalFundBook.post_in.Goals as goal

pub write-requires : goal.write-requires
write-requires c = (posted_one In _ _ _ c.args.self.now.sound (omega arith) (search rules)).0
