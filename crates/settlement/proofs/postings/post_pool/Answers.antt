use Rattle.std.proofs.Common.{ap, arith}
use Rattle.settlement.proofs.Steps.{shown_in}
use Rattle.settlement.proofs.postings.post_pool.Goals as goal

pub post_out-requires-clause-covered : goal.post_out-requires-clause-covered
post_out-requires-clause-covered g c =
    let m = g.B.FundBook.means in
    let held = shown_in m _ g.met.B.FundBook.lawful _ c.args.pool c.args.close.charges (g.met.B.FundBook.real c.args.book.now) (omega (arith, c.requires.places)) c.requires.funded.room in
    omega (arith, ap (λ s. m.shown s c.args.pool) c.post_in.ensures, held, c.requires.funded.covered)
