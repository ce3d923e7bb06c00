use Rattle.std.proofs.Common.{◌≡◌, ℕ, ◌<◌, get_or}
use Rattle.settlement.specs.Closing.{line_place, no_line}
use Rattle.settlement.proofs.pays.write_table.Given as goal

abbrev pub invariant-loop-place : goal.invariant-loop-place
invariant-loop-place l = (k : ℕ) → k < l.place → get_or l.lines k no_line ≡ line_place l.entries.generic.items l.entries.flexible.items k
