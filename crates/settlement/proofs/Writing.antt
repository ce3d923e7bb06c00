-- Tables that are written from their front.
use Rattle.std.proofs.Common.{◌≡◌, ℕ, ◌<◌, List, map, length, get_or, sym, ◌∙◌, arith}
use Rattle.std.proofs.lemmas.List.{ext_get_or, get_or-map, length-map}

-- every entry was written over by what f makes of it
pub mapped : {X : Type 0} (f : X → X) (xs ys : List X) (d : X) → length ys ≡ length xs → ((k : ℕ) → k < length xs → get_or ys k d ≡ f (get_or xs k d)) → ys ≡ map f xs
mapped f xs ys d long made = ext_get_or d ys (map f xs) (long ∙ sym (length-map xs f)) (λ k lt. made k (omega arith) ∙ sym (get_or-map f xs k d d (omega arith)))
