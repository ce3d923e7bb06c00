-- What one posting more, and what is brought forward, make of the sums and the balances.
use Rattle.std.specs.Prelude.{◌≡◌, ℕ, zero, suc, ◌+◌, ◌-◌, ◌≤◌, List, [], ◌∷◌, ◌++◌, length, refl}
use Rattle.std.proofs.Common.{sym, ◌∙◌, arith}
use Rattle.std.proofs.lemmas.List.Sums.{sum_by_push, sum_by-append}
use Rattle.std.proofs.lemmas.List.{length-append}
use Rattle.fund.specs.Balances.{limit, in_pool}
use Rattle.fund.specs.Meaning.{with_at}
use Rattle.fund.specs.Postings.{counted, posted, balance, Kept}
use Rattle.fund.specs.Pages.{posting, brought}
use Rattle.pools.specs.declared.pool.Pool.{Pool}
use Rattle.pools.specs.declared.pool.Pool.TheVariants.{Generic, Flexible}
use Rattle.fund.specs.declared.posting.Direction.{Direction}
use Rattle.fund.specs.declared.posting.Direction.TheVariants.{In, Out}
use Rattle.fund.specs.declared.posting.Posting.{Posting}

posted_none : (d : Direction) (p : Pool) → posted d p [] ≡ 0
unfolding posted
posted_none d p = refl

posted_push : (d : Direction) (p : Pool) (xs : List Posting) (x : Posting) → posted d p (xs ++ x ∷ []) ≡ posted d p xs + counted (record { pool = p; direction = d }) x
unfolding posted
posted_push d p xs x = sum_by_push (counted (record { pool = p; direction = d })) xs x

posted_append : (d : Direction) (p : Pool) (xs ys : List Posting) → posted d p (xs ++ ys) ≡ posted d p xs + posted d p ys
unfolding posted
posted_append d p xs ys = sum_by-append (counted (record { pool = p; direction = d })) xs ys

-- A balance of n, after a posting of a.
abbrev pub balance_after : Direction → ℕ → ℕ → ℕ
balance_after In n a = n + a
balance_after Out n a = n - a

-- A balance of n allows a posting of a: it stays within the limit, or covers what goes out.
abbrev pub Allows : Direction → ℕ → ℕ → Type 0
Allows In n a = n + a ≤ limit
Allows Out n a = a ≤ n

-- an amount posted in p, as it counts for q, against what a table f of balances holds
pub allows_at : (d : Direction) (f : Pool → ℕ) (q p : Pool) (a : ℕ) → Allows d (f q) 0 → Allows d (f p) a → Allows d (f q) (in_pool q p a)
allows_at d f Generic Generic a z h = h
allows_at d f Generic Flexible a z h = z
allows_at d f Flexible Generic a z h = z
allows_at d f Flexible Flexible a z h = h

after_none : (d : Direction) (n : ℕ) → balance_after d n 0 ≡ n
after_none In n = omega arith
after_none Out n = omega arith

pub after_at : (d : Direction) (f : Pool → ℕ) (q p : Pool) (a : ℕ) → balance_after d (f q) (in_pool q p a) ≡ with_at f p (balance_after d (f p) a) q
after_at d f Generic Generic a = refl
after_at d f Generic Flexible a = after_none d (f Generic)
after_at d f Flexible Generic a = after_none d (f Flexible)
after_at d f Flexible Flexible a = refl

pub kept_none : (q : Pool) → Kept [] q
kept_none q = (omega (arith, posted_none In q, posted_none Out q), omega (arith, posted_none In q, posted_none Out q))

pub balance_le : (xs : List Posting) (q : Pool) → Kept xs q → balance xs q ≤ limit
balance_le xs q k = omega arith

module _ (xs : List Posting) (k : (q : Pool) → Kept xs q) (p : Pool) (a : ℕ) where
  pub kept_with : (d : Direction) → Allows d (balance xs p) a → (q : Pool) → Kept (xs ++ posting d p a ∷ []) q
  kept_with In h q =
      let i = posted_push In q xs (posting In p a) in
      let o = posted_push Out q xs (posting In p a) in
      let f = allows_at In (balance xs) q p a (omega (arith, k q)) h in
      (omega (arith, k q), omega (arith, k q))
  kept_with Out h q =
      let i = posted_push In q xs (posting Out p a) in
      let o = posted_push Out q xs (posting Out p a) in
      let f = allows_at Out (balance xs) q p a (omega arith) h in
      (omega (arith, k q), omega (arith, k q))

  pub balance_with : (d : Direction) (q : Pool) → balance (xs ++ posting d p a ∷ []) q ≡ with_at (balance xs) p (balance_after d (balance xs p) a) q
  balance_with In q = omega (arith, k q, posted_push In q xs (posting In p a), posted_push Out q xs (posting In p a), after_at In (balance xs) q p a)
  balance_with Out q = omega (arith, posted_push In q xs (posting Out p a), posted_push Out q xs (posting Out p a), after_at Out (balance xs) q p a)

in_none : (q p : Pool) → in_pool q p 0 ≡ 0
in_none Generic Generic = refl
in_none Generic Flexible = refl
in_none Flexible Generic = refl
in_none Flexible Flexible = refl

-- what is brought forward of n in p
brought_in : (q p : Pool) (n : ℕ) → posted In q (brought p n) ≡ in_pool q p n
brought_in q p zero = posted_none In q ∙ sym (in_none q p)
brought_in q p (suc n) = omega (arith, posted_push In q [] (posting In p (suc n)), posted_none In q)

brought_out : (q p : Pool) (n : ℕ) → posted Out q (brought p n) ≡ 0
brought_out q p zero = posted_none Out q
brought_out q p (suc n) = omega (arith, posted_push Out q [] (posting In p (suc n)), posted_none Out q)

pub brought_short : (p : Pool) (n : ℕ) → length (brought p n) ≤ 1
brought_short p zero = omega arith
brought_short p (suc n) = omega arith

pub kept_brought : (p : Pool) (n : ℕ) → n ≤ limit → (q : Pool) → Kept (brought p n) q
kept_brought p n h q = (omega (arith, brought_out q p n), omega (arith, brought_in q p n, allows_at In (λ (r : Pool). 0) q p n (omega arith) (omega arith)))

-- both balances, brought forward
abbrev pub forward : (Pool → ℕ) → List Posting
forward b = brought Generic (b Generic) ++ brought Flexible (b Flexible)

pub forward_short : (b : Pool → ℕ) → length (forward b) ≤ 2
forward_short b = omega (arith, length-append (brought Generic (b Generic)) (brought Flexible (b Flexible)), brought_short Generic (b Generic), brought_short Flexible (b Flexible))

both_in : (b : Pool → ℕ) (q : Pool) → in_pool q Generic (b Generic) + in_pool q Flexible (b Flexible) ≡ b q
both_in b Generic = omega arith
both_in b Flexible = omega arith

forward_in : (b : Pool → ℕ) (q : Pool) → posted In q (forward b) ≡ b q
forward_in b q = omega (arith, posted_append In q (brought Generic (b Generic)) (brought Flexible (b Flexible)), brought_in q Generic (b Generic), brought_in q Flexible (b Flexible), both_in b q)

forward_out : (b : Pool → ℕ) (q : Pool) → posted Out q (forward b) ≡ 0
forward_out b q = omega (arith, posted_append Out q (brought Generic (b Generic)) (brought Flexible (b Flexible)), brought_out q Generic (b Generic), brought_out q Flexible (b Flexible))

pub balance_forward : (b : Pool → ℕ) (q : Pool) → balance (forward b) q ≡ b q
balance_forward b q = omega (arith, forward_in b q, forward_out b q)

pub kept_forward : (b : Pool → ℕ) → ((q : Pool) → b q ≤ limit) → (q : Pool) → Kept (forward b) q
kept_forward b h q = (omega (arith, forward_out b q), omega (arith, forward_in b q, h q))
