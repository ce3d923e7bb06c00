use Rattle.std.proofs.Common.{◌≡◌, ℕ, ◌<◌, ◌≤◌, length, get_or}
use Rattle.settlement.specs.Closing.{line_tells, no_line}
use Rattle.settlement.specs.declared.amounts.LineAmount.TheVariants.{EligibleQuantity}
use Rattle.settlement.proofs.pays.eligible_quantities.Given as goal

abbrev pub invariant-loop-i : goal.invariant-loop-i
invariant-loop-i l =
    (length l.quantities ≡ 512) ×
    ((k : ℕ) → k < l.i → get_or l.quantities k 0 ≡ line_tells EligibleQuantity (get_or l.entries.items k no_line)) ×
    ((k : ℕ) → l.i ≤ k → get_or l.quantities k 0 ≡ 0)
