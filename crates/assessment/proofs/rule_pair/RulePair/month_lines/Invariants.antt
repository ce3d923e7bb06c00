use Rattle.std.proofs.Common.{ℕ, ◌<◌, get_or, None}
use Rattle.assessment.specs.Lines.{RowWithin}
use Rattle.assessment.proofs.Monthly.{Summed}
use Rattle.pools.specs.PerPool.{entry_of}
use Rattle.pools.specs.declared.pool.Pool.{Pool}
use Rattle.assessment.proofs.rule_pair.RulePair.month_lines.Given as goal

abbrev pub invariant-loop-row : goal.invariant-loop-row
invariant-loop-row g l = record {
  pools : (p : Pool) → Summed p l.rows l.row-index (entry_of l.sums p).watts;
  within : (k : ℕ) → k < l.row-index → RowWithin (get_or l.rows k None);
}
