use Rattle.std.proofs.Common.{◌≡◌, ◌≤◌, ◌<◌, ℕ, zero, suc, [], ◌∷◌, slice_index_or, arith, rules}
use Rattle.fund.specs.Balances.{limit}
use Rattle.fund.specs.Pages.{Fit, Pages, PagesSound, pages, with_brought}
use Rattle.fund.specs.JournalLemmas.{blank_sound, brings_first, from_sound}
use Rattle.pools.specs.declared.pool.Pool.{Pool}
use Rattle.pools.specs.declared.pool.Pool.TheVariants.{Generic, Flexible}
use Rattle.pools.specs.declared.per_pool.PerPool.{PerPool}
use Rattle.pools.specs.PerPool.{entry_of}
use Rattle.fund.proofs.journal.books.JournalFundBook.rule_off.Invariants.{forward_to}
use Rattle.fund.proofs.journal.books.JournalFundBook.rule_off.Goals as goal

pub invariant_of-self : goal.invariant_of-self
invariant_of-self c = let j = c.args.self.now in record { sound = blank_sound _ _ c.clear.ensures.items j.sound.sized; roomy = omega arith }

-- the next pool's balance, brought forward too
next : (b : PerPool ℕ) (n i a : ℕ) (s : Pages) → s ≡ pages (forward_to b i) n → a ≡ entry_of b (slice_index_or (Generic ∷ Flexible ∷ []) i Generic) → Fit n → ((q : Pool) → entry_of b q ≤ limit) → i < 2 → PagesSound (with_brought s (slice_index_or (Generic ∷ Flexible ∷ []) i Generic) a)
next b n zero a s e w h few lt = rw (e, w) (brings_first n b.generic h (few Generic))
next b n (suc zero) a s e w h few lt = rw (e, w) (from_sound n (entry_of b) h few)
next b n (suc (suc i)) a s e w h few lt = absurd (omega arith)

pub bring_forward-requires : goal.bring_forward-requires
bring_forward-requires c =
    let j = c.args.self.now in
    next c.of-balances.result j.size c.loop-pool.pool-index _ _ c.loop-pool.invariant c.get.ensures j.sound.sized (λ q. elim q [ Generic ↦ search rules | Flexible ↦ search rules ]) c.loop-pool-test.true
