use Rattle.std.proofs.Common.{◌≡◌, ℕ, zero, suc, get_or, replicate, refl, arith}
use Rattle.settlement.proofs.pays.eligible_quantities.Goals as goal

all_zero : (n k : ℕ) → ◌≡◌ {A = ℕ} (get_or (replicate n 0) k 0) 0
all_zero zero k = refl
all_zero (suc n) zero = refl
all_zero (suc n) (suc k) = all_zero n k

pub loop-i-init : goal.loop-i-init
loop-i-init c = (refl, (λ k l. absurd (omega arith)), λ k l. all_zero 512 k)
