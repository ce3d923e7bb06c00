-- The pages of a journal: what is written there, and how each call changes it.
use Rattle.std.specs.Prelude.{ℕ, zero, suc, ◌≤◌, List, [], ◌∷◌, ◌++◌, length}
use Rattle.fund.specs.Postings.{balance, Kept}
use Rattle.pools.specs.declared.pool.Pool.{Pool}
use Rattle.pools.specs.declared.pool.Pool.TheVariants.{Generic, Flexible}
use Rattle.fund.specs.declared.posting.Direction.{Direction}
use Rattle.fund.specs.declared.posting.Direction.TheVariants.{In}
use Rattle.fund.specs.declared.posting.Posting.{Posting}

-- A journal is kept in 8 to 65,536 places.
abbrev pub Fit : ℕ → Type 0
Fit n = (8 ≤ n) × (n ≤ 65536)

-- The postings, the earliest first, and the number of places.
pub record Pages : Type 0 where
  pub postings : List Posting
  pub places : ℕ

-- The pages of these postings and so many places.
abbrev pub pages : List Posting → ℕ → Pages
pages xs n = record { postings = xs; places = n }

-- The postings have places, and leave a balance within the limit in each pool.
pub record PagesSound (s : Pages) : Type 0 where
  pub sized : Fit s.places
  pub fits : length s.postings ≤ s.places
  pub kept : (p : Pool) → Kept s.postings p

-- A journal starts empty.
abbrev pub blank_pages : ℕ → Pages
blank_pages n = record { postings = []; places = n }

-- An amount posted into or out of a pool.
abbrev pub posting : Direction → Pool → ℕ → Posting
posting d p a = record { side = record { pool = p; direction = d }; amount = a }

-- One posting more.
abbrev pub with_posting : Pages → Posting → Pages
with_posting s x = record { postings = s.postings ++ x ∷ []; places = s.places }

-- What is brought forward of a balance: one posting, or none for a balance of 0.
abbrev pub brought : Pool → ℕ → List Posting
brought p zero = []
brought p (suc n) = posting In p (suc n) ∷ []

-- For inner contracts: what is brought forward, written after the postings that there are.
abbrev pub with_brought : Pages → Pool → ℕ → Pages
with_brought s p n = record { postings = s.postings ++ brought p n; places = s.places }

-- Both balances brought forward into n places, the generic pool's first.
abbrev pub pages_from : ℕ → ℕ → ℕ → Pages
pages_from n g f = record { postings = brought Generic g ++ brought Flexible f; places = n }

-- Ruled off, a journal holds what is brought forward of its balances and nothing else.
abbrev pub pages_ruled_off : Pages → Pages
pages_ruled_off s = pages_from s.places (balance s.postings Generic) (balance s.postings Flexible)
