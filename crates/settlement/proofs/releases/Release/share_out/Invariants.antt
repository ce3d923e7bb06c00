use Rattle.std.proofs.Common.{◌≡◌, ℕ, ◌<◌, ◌≤◌, get_or}
use Rattle.settlement.specs.Releasing.{shared, no_load}
use Rattle.settlement.proofs.releases.Release.share_out.Given as goal

abbrev pub invariant-loop-i : goal.invariant-loop-i
invariant-loop-i l =
    record {
      done : (k : ℕ) → k < l.i → get_or l.loads k no_load ≡ shared l.self.balances.generic l.self.balances.flexible l.self.load (get_or l.initial.loads k no_load);
      rest : (k : ℕ) → l.i ≤ k → get_or l.loads k no_load ≡ get_or l.initial.loads k no_load;
    }
