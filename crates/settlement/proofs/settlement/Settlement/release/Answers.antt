use Rattle.std.proofs.Common.{Ok, refl, ap, rules}
use Rattle.settlement.specs.Runs.{releases}
use Rattle.settlement.specs.Views.{phase_of}
use Rattle.settlement.proofs.Sharing.{shares_held, release_taken}
use Rattle.settlement.proofs.settlement.Settlement.release.Goals as goal

pub post_release-requires : goal.post_release-requires
post_release-requires g c =
    shares_held g.B.FundBook.means _ g.met.B.FundBook.lawful _ _ (g.met.B.FundBook.real c.args.self.now.book) (search rules) c.args.loads.now _ c.of-balances.result _ (search rules) (search rules) (search rules) c.share_out.ensures

pub returns : goal.returns
returns g c =
    let does = release_taken g.B.FundBook.means _ g.met.B.FundBook.lawful _ _ (g.met.B.FundBook.real c.args.self.now.book) (search rules) c.args.loads.now _ c.of-balances.result _ (search rules) (search rules) (search rules) c.share_out.ensures c.args.self.now.opening _ c.in-ReleaseDue.december _ (ap phase_of c.in-ReleaseDue.is) c.post_release.ensures in
    record { does = does; same = tt; rules = refl; runs = λ h run. releases c.args.loads.now c.share_out.new.loads (Ok tt) run does }
