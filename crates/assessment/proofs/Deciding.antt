-- What a test says of each index, or of two facts.
use Rattle.std.proofs.Common.{ℕ, ◌<◌, Bool, true, false, List, length, get_or, arith}
use Rattle.std.specs.Bool.{MatchBool}
use Rattle.std.specs.List.{AllWithin, HoldsAt}

-- `all` over a slice, where its closure decides P
pub tells_each : {X : Type 0} (P : X → Type 0) (r : Bool) (xs : List X) (d : X) → MatchBool r (AllWithin P xs 0 (length xs)) ((k : ℕ) × (k < length xs) × HoldsAt (λ x. P x → ⊥) xs k) → MatchBool r ((k : ℕ) → k < length xs → P (get_or xs k d)) (((k : ℕ) → k < length xs → P (get_or xs k d)) → ⊥)
tells_each P true xs d m = λ k lt. m k d (omega arith) lt
tells_each P false xs d m = λ h. m.2 d (h m.0 m.1)

-- a test decides both of two facts, where one is known
pub tells_both : {A : Type 0} (B : Type 0) (r : Bool) → A → MatchBool r B (B → ⊥) → MatchBool r (A × B) (A × B → ⊥)
tells_both B true a m = (a, m)
tells_both B false a m = λ h. m h.1
