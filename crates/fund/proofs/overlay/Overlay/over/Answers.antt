use Rattle.fund.specs.Overlaid.{overlay_lawful}
use Rattle.fund.proofs.overlay.Overlay.over.Goals as goal

pub returns-clause-twice : goal.returns-clause-twice
returns-clause-twice g c = overlay_lawful _ _ (overlay_lawful _ _ g.met.B.FundBook.lawful)
