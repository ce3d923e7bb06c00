use Rattle.std.proofs.Common.{◌≡◌, ℕ, ◌<◌, ◌≤◌, get_or}
use Rattle.settlement.specs.Closing.{paid_entry, no_line}
use Rattle.settlement.proofs.pays.pay.Given as goal

abbrev pub invariant-loop-i : goal.invariant-loop-i
invariant-loop-i l =
    record {
      done : (k : ℕ) → k < l.i → get_or l.entry-items k no_line ≡ paid_entry l.rate.cents (get_or l.initial.entry-items k no_line);
      rest : (k : ℕ) → l.i ≤ k → get_or l.entry-items k no_line ≡ get_or l.initial.entry-items k no_line;
    }
