-- The shares of a balance stay within it.
use Rattle.std.proofs.Common.{◌≡◌, ℕ, ◌+◌, ◌*◌, ◌/◌, ◌<◌, ◌≤◌, List, [], ◌∷◌, map, refl, arith}
use native.Mathlib.Nat.{mul-div-le, le_of_mul-le-mul_left}
use Rattle.std.proofs.lemmas.List.Sums.{sum_by-cons}
use Rattle.fund.specs.Meaning.{FundMeaning}
use Rattle.pools.specs.declared.pool.Pool.{Pool}
use Rattle.pools.specs.declared.pool.Pool.TheVariants.{Generic, Flexible}
use Rattle.settlement.specs.Releasing.{load_tells, load_told, share_of, shared, shares}
use Rattle.settlement.specs.declared.amounts.LoadAmount.TheVariants.{Load, Share}
use Rattle.settlement.specs.declared.tables.LoadEntry.{LoadEntry}

-- an entry's share of its pool's balance
share_told : (b : Pool → ℕ) (total : ℕ) (p : Pool) (e : LoadEntry) → load_tells (Share p) (shared (b Generic) (b Flexible) total e) ≡ share_of (b p) total e.load
share_told b total Generic e = refl
share_told b total Flexible e = refl

step : (total balance x load w v w' v' : ℕ) → w' ≡ x + w → v' ≡ load + v → x ≡ balance * load / total → total * w ≤ balance * v → total * w' ≤ balance * v'
step total balance x load w v w' v' we ve xe h = rw (we, ve, xe) (omega (arith, mul-div-le (balance * load) total))

part_within : (b : Pool → ℕ) (total : ℕ) (p : Pool) (es : List LoadEntry) → total * load_told (Share p) (map (shared (b Generic) (b Flexible) total) es) ≤ b p * load_told Load es
part_within b total p [] = omega arith
part_within b total p (e ∷ es) =
    let one = shared (b Generic) (b Flexible) total in
    step total (b p) _ e.load _ _ _ _ (sum_by-cons (load_tells (Share p)) (one e) (map one es)) (sum_by-cons (load_tells Load) e es) (share_told b total p e) (part_within b total p es)

pub shares_within : {S : Type 0} (m : FundMeaning S) (s : S) (es : List LoadEntry) → 0 < load_told Load es → (p : Pool) → load_told (Share p) (shares m s es) ≤ m.binding s p
shares_within m s es some p = le_of_mul-le-mul_left (omega (arith, part_within (m.binding s) (load_told Load es) p es)) some
