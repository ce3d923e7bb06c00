use Rattle.std.proofs.Common.{arith}
use Rattle.settlement.specs.Releasing.{no_load}
use Rattle.settlement.proofs.Writing.{mapped}
use Rattle.settlement.proofs.releases.Release.share_out.Goals as goal

pub returns : goal.returns
returns c = mapped _ _ _ no_load c.loop-i.auto.loads (λ k lt. c.loop-i.invariant.done k (omega arith))
