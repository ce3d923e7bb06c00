-- Runs of calls on a book of any kind, and what holds of every run.
use Rattle.std.specs.Prelude.{◌≡◌, ℕ, ◌+◌, ◌<◌, ◌≤◌, cond, List, [], ◌∷◌, ◌++◌, length, nat_lt}
use Rattle.fund.specs.Balances.{in_pool}
use Rattle.fund.specs.Meaning.{FundMeaning, Call, stands, posts_in, posts_out, rules_off, Takes, after, Unmoved}
use Rattle.pools.specs.declared.pool.Pool.{Pool}
use Rattle.fund.specs.declared.standing.Standing.{Standing}
use Rattle.fund.specs.declared.standing.Standing.TheVariants.{Binding, Advisory}

-- An amount in binding standing, else 0.
abbrev pub if_binding : Standing → ℕ → ℕ
if_binding Binding n = n
if_binding Advisory n = 0

-- What a call posts into the pool q in binding standing.
abbrev pub binding_in : Standing → Call → Pool → ℕ
binding_in d (stands e) q = 0
binding_in d (posts_in p a) q = if_binding d (in_pool q p a)
binding_in d (posts_out p a) q = 0
binding_in d rules_off q = 0

-- What it posts out of the pool.
abbrev pub binding_out : Standing → Call → Pool → ℕ
binding_out d (stands e) q = 0
binding_out d (posts_in p a) q = 0
binding_out d (posts_out p a) q = if_binding d (in_pool q p a)
binding_out d rules_off q = 0

-- Nothing but postings.
abbrev pub Postings : List Call → Type 0
Postings [] = Unit {0}
Postings (stands d ∷ cs) = ⊥
Postings (posts_in p a ∷ cs) = Postings cs
Postings (posts_out p a ∷ cs) = Postings cs
Postings (rules_off ∷ cs) = ⊥

module _ {S : Type 0} (m : FundMeaning S) where
  -- A run of taken calls, each made where those before it led.
  abbrev pub Run : S → List Call → Type 0
  Run s [] = Unit {0}
  Run s (c ∷ cs) = Takes m s c × Run (after m s c) cs

  -- Where the run ends.
  abbrev pub end : S → List Call → S
  end s [] = s
  end s (c ∷ cs) = end (after m s c) cs

  -- What a run posted into a pool in binding standing.
  abbrev pub came_in : S → List Call → Pool → ℕ
  came_in s [] q = 0
  came_in s (c ∷ cs) q = binding_in (m.standing s) c q + came_in (after m s c) cs q

  -- What it posted out of the pool.
  abbrev pub went_out : S → List Call → Pool → ℕ
  went_out s [] q = 0
  went_out s (c ∷ cs) q = binding_out (m.standing s) c q + went_out (after m s c) cs q

  -- Where making room for n postings leads: ruled off, if fewer places are free.
  abbrev pub with_room : S → ℕ → S
  with_room s n = cond (nat_lt (m.free s) n) (m.ruled_off s) s

-- Room was made for n postings: if they are at most 6, they have places.
pub record Roomy {S : Type 0} (m : FundMeaning S) (s t : S) (n : ℕ) : Type 0 where
  pub unmoved : Unmoved m s t
  pub free : n ≤ 6 → n ≤ m.free t

-- A run goes on by every call that is taken where it ends: so the calls of a book make runs.
abbrev pub RunsGoOn : {S : Type 0} → FundMeaning S → Type 0
RunsGoOn {S} m = (s : S) (cs : List Call) (c : Call) → Run m s cs → Takes m (end m s cs) c → Run m s (cs ++ c ∷ []) × (end m s (cs ++ c ∷ []) ≡ after m (end m s cs) c)

module _ {S : Type 0} (m : FundMeaning S) (sound : S → Type 0) where
  -- No cent is lost: over any run, a pool's binding balance at the start plus what came in is what went out plus the binding balance at the end.
  abbrev pub Conserves : Type 0
  Conserves = (s : S) (cs : List Call) → sound s → Run m s cs → (q : Pool) → m.binding s q + came_in m s cs q ≡ went_out m s cs q + m.binding (end m s cs) q

  -- Postings in advisory standing never move a binding balance.
  abbrev pub AdvisoryLeavesBinding : Type 0
  AdvisoryLeavesBinding = (s : S) (cs : List Call) → sound s → m.standing s ≡ Advisory → Postings cs → Run m s cs → (q : Pool) → m.binding (end m s cs) q ≡ m.binding s q

  -- Ruled off, a book has places for as many postings as its size less 2.
  abbrev pub RulingOffMakesRoom : Type 0
  RulingOffMakesRoom = (s : S) (cs : List Call) → sound s → Postings cs → Run m (m.ruled_off s) cs → length cs + 2 < m.size s → 0 < m.free (end m (m.ruled_off s) cs)

  -- So four postings, whatever the book, are never refused for want of a place.
  abbrev pub FourPostingsHavePlaces : Type 0
  FourPostingsHavePlaces = (s : S) (cs : List Call) → sound s → Postings cs → Run m (m.ruled_off s) cs → length cs < 4 → 0 < m.free (end m (m.ruled_off s) cs)
