use Rattle.std.proofs.Common.{◌≡◌, ◌*◌, ◌≤◌, map, length, drop}
use Rattle.std.specs.List.{range_with_len}
use Rattle.std.specs.Iterator.Adapters.{zip_first, zip_second}
use Rattle.std.specs.Slice.Iter.{iter_rest, chunks_exact_rest, chunks_exact_size}
use Rattle.assessment.specs.Pairs.{rules_of}
use Rattle.pools.specs.PerPool.{entry_of}
use Rattle.pools.specs.declared.pool.Pool.{Pool}
use Rattle.settlement.specs.Closing.{charged_entry, line_at}
use Rattle.settlement.proofs.Working.{pushed}
use Rattle.settlement.proofs.workings.MonthTables.work_out.Given as goal

abbrev pub invariant-loop-entry : goal.invariant-loop-entry
invariant-loop-entry g l =
    let rules = rules_of g.G.AvailabilityRule.means g.F.AvailabilityRule.means l.rules in
    let n = length l.yielded in
    record {
      few : n ≤ length l.self.roster.now;
      size : chunks_exact_size (zip_second l.entry-iterator) ≡ 31;
      resources : iter_rest (zip_first l.entry-iterator) ≡ drop n l.self.roster.now;
      places : chunks_exact_rest (zip_second l.entry-iterator) ≡ drop (31 * n) l.self.rows.now;
      lines : (p : Pool) → (entry_of l.entries p).items ≡ map (λ k. charged_entry l.self.month.now.price.cents (line_at rules l.self.month.now.settings.month l.self.roster.now l.self.rows.now p k)) (range_with_len 0 n);
    }

abbrev pub invariant-loop-pool : goal.invariant-loop-pool
invariant-loop-pool g l = (p : Pool) → (entry_of l.entries p).items ≡ pushed l.pool-index p (entry_of l.initial.entries p).items (charged_entry l.price.cents (entry_of l.lines p))
