use Rattle.settlement.proofs.Law.{accountants_law}
use Rattle.settlement.proofs.settlement.Settlement.account.Goals as goal

pub returns-clause-law : goal.returns-clause-law
returns-clause-law g c = accountants_law g.B.FundBook.means g.B.FundBook.sound _ g.met.B.FundBook.lawful _
