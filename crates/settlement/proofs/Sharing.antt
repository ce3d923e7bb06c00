-- What a release gives the loads, from the book that it stood binding.
use Rattle.std.proofs.Common.{◌≡◌, ℕ, ◌≤◌, List, map, Ok, ap, ◌∙◌, arith}
use Rattle.fund.specs.Meaning.{FundMeaning, Lawful, Taken, stands}
use Rattle.pools.specs.PerPool.{entry_of}
use Rattle.pools.specs.declared.per_pool.PerPool.{PerPool}
use Rattle.pools.specs.declared.pool.Pool.{Pool}
use Rattle.pools.specs.declared.pool.Pool.TheVariants.{Generic, Flexible}
use Rattle.fund.specs.declared.standing.Standing.TheVariants.{Binding}
use Rattle.settlement.specs.Releasing.{load_told, shared, shares, shares_posted, released, LoadsWithin, Releases}
use Rattle.settlement.specs.Views.{Phase, closed, release_due}
use Rattle.assessment.specs.declared.month_date.MonthDate.{MonthDate}
use Rattle.settlement.specs.declared.amounts.LoadAmount.TheVariants.{Load, Share}
use Rattle.settlement.specs.declared.tables.LoadEntry.{LoadEntry}
use Rattle.settlement.proofs.Shares.{shares_within}

module _ {S : Type 0} (m : FundMeaning S) (sound : S → Type 0) (law : Lawful m sound) (s t : S) (real : sound s) (stood : Taken m s t (stands Binding)) where
  -- the loads got their shares of the balances of the book that was stood binding
  module _ (es es' : List LoadEntry) (b : PerPool ℕ) (n : ℕ) (held : (p : Pool) → entry_of b p ≡ m.binding t p) (fit : LoadsWithin es) (whole : n ≡ load_told Load es) (given : es' ≡ map (shared b.generic b.flexible n) es) where
    balance : (p : Pool) → entry_of b p ≡ m.binding s p
    balance p = held p ∙ ap (λ x. m.binding x p) stood.leads ∙ (law.stood s Binding real tt).1.binding p

    shares_are : es' ≡ shares m s es
    shares_are = given ∙ rw (balance Generic, balance Flexible, whole)

    -- each pool shows what is shared out of it
    pub shares_held : (p : Pool) → load_told (Share p) es' ≤ m.shown t p
    shares_held p = omega (arith, ap (load_told (Share p)) shares_are, shares_within m s es fit.3 p, ap (λ x. m.shown x p) stood.leads, (law.stood s Binding real tt).1.shown p)

    -- and the release is taken, at a December
    pub release_taken : (o : PerPool ℕ) (p : Phase) (d : MonthDate) (u : S) → p ≡ release_due d → u ≡ shares_posted m t es' → Releases m (record { opening = o; phase = p; book = s }) es (Ok tt) (record { opening = o; phase = closed d; book = u }) es'
    unfolding released
    release_taken o p d u due is =
        let book : u ≡ released m s (shares m s es) = is ∙ ap (λ x. shares_posted m x es') stood.leads ∙ ap (shares_posted m (m.stood s Binding)) shares_are in
        rw due (tt, fit, (ap (λ x. record { opening = o; phase = closed d; book = x }) book, shares_are))
