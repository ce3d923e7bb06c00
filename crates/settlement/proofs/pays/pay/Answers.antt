use Rattle.std.proofs.Common.{◌≡◌, length, ap, ◌∙◌, arith}
use Rattle.arrayvec.proofs.ArrayVecLemmas.{items-with_items}
use Rattle.settlement.specs.Closing.{no_line}
use Rattle.settlement.proofs.Writing.{mapped}
use Rattle.settlement.proofs.pays.pay.Goals as goal

pub returns : goal.returns
returns c =
    let same : length c.loop-i.entry-items ≡ length c.args.entries.now.items = c.loop-i.auto.entry-items ∙ ap length c.deref_mut-entry-items.ensures.value in
    items-with_items c.args.entries.now c.loop-i.entry-items same ∙ mapped _ _ _ no_line same (λ k lt. rw (← c.deref_mut-entry-items.ensures.value) (c.loop-i.invariant.done k (omega arith)))
