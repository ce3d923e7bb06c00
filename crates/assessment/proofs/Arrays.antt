-- An array made by a closure: what each call gives holds of each element, as long as the closure keeps what it holds.
use Rattle.std.proofs.Common.{◌≡◌, ℕ, zero, suc, ◌+◌, ◌<◌, ◌≤◌, List, map, get_or, sym, subst, arith}
use Rattle.std.proofs.lemmas.List.FromFn.{fill_by_all}
use Rattle.std.specs.Array.{IsFromFnResult, IsFromFnResultFrom}
use Rattle.std.specs.Fn.{Called, Mut}
use Rattle.std.specs.List.{range_with_len}

module _ {F B : Type 0} (g : Mut F (ℕ × Unit {0}) B) (Keeps : F → Type 0) (P : ℕ → B → Type 0) (n : ℕ) (call : (p q : F) (k : ℕ) (y : B) → k < n → Keeps p → Called g p (k, tt) y q → P k y × Keeps q) where
  from : (p : F) (ys : List B) (i m : ℕ) → i + m ≤ n → Keeps p → IsFromFnResultFrom g p ys i m → (j k : ℕ) (d : B) → i + j ≡ k → j < m → P k (get_or ys k d)
  from p ys i zero within keeps each j k d at lt = absurd (omega arith)
  from p ys i (suc m) within keeps each zero k d at lt =
      let here : i ≡ k = omega arith in
      subst (λ l. P l (get_or ys l d)) here (subst (P i) (sym (each.2.1 d)) (call p each.0 i each.1 (omega arith) keeps each.3).0)
  from p ys i (suc m) within keeps each (suc j) k d at lt =
      from each.0 ys (i + 1) m (omega arith) (call p each.0 i each.1 (omega arith) keeps each.3).1 each.4 j k d (omega arith) (omega arith)

  pub each_made : (p : F) (ys : List B) → Keeps p → IsFromFnResult g p ys n → (k : ℕ) (d : B) → k < n → P k (get_or ys k d)
  each_made p ys keeps made k d lt = from p ys 0 n (omega arith) keeps made.each k k d (omega arith) lt

-- an array made by the calls of a function of the place is the list of its values
pub all_made : {F B : Type 0} (g : Mut F (ℕ × Unit {0}) B) (Keeps : F → Type 0) (f : ℕ → B) (n : ℕ) → ((p q : F) (k : ℕ) (y : B) → k < n → Keeps p → Called g p (k, tt) y q → (y ≡ f k) × Keeps q)
    → (p : F) (ys : List B) → Keeps p → IsFromFnResult g p ys n → ys ≡ map f (range_with_len 0 n)
all_made g Keeps f n call p ys keeps made = fill_by_all f ys n (f 0) made.long (λ k. each_made g Keeps (λ i y. y ≡ f i) n call p ys keeps made k (f 0))
