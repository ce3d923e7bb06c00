-- What a fund book of any kind means: what is looked up in its states, where each call leads, and the laws.
use Rattle.std.specs.Prelude.{◌≡◌, ℕ, ◌+◌, ◌-◌, ◌<◌, ◌≤◌, Bool, true, false, ◌⊎◌, Some, None}
use Rattle.fund.specs.Faults.{label, labelled}
use Rattle.fund.specs.Balances.{limit}
use Rattle.pools.specs.declared.pool.Pool.{Pool}
use Rattle.pools.specs.declared.pool.Pool.TheVariants.{Generic, Flexible}
use Rattle.fund.specs.declared.standing.Standing.{Standing}
use Rattle.fund.specs.declared.standing.Standing.TheVariants.{Binding, Advisory}
use Rattle.fund.specs.declared.fault.BookFault.{BookFault}

-- A kind of book, by states of its own: six lookups, and a name for where each call leads.
pub record FundMeaning (S : Type 0) : Type 0 where
  pub binding : S → Pool → ℕ
  pub shown : S → Pool → ℕ
  pub standing : S → Standing
  pub size : S → ℕ
  pub free : S → ℕ
  pub takes_advisory : S → Bool
  pub stood : S → Standing → S
  pub posted_in : S → Pool → ℕ → S
  pub posted_out : S → Pool → ℕ → S
  pub ruled_off : S → S

-- A call that may change a book.
pub data Call : Type 0 where
  stands : Standing → Call
  posts_in : Pool → ℕ → Call
  posts_out : Pool → ℕ → Call
  rules_off : Call

-- A posting in wants a free place, and the limit allows the amount.
pub record TakesIn {S : Type 0} (m : FundMeaning S) (s : S) (p : Pool) (a : ℕ) : Type 0 where
  pub place : 0 < m.free s
  pub room : m.shown s p + a ≤ limit

-- A posting out wants a free place, and the shown balance covers the amount.
pub record TakesOut {S : Type 0} (m : FundMeaning S) (s : S) (p : Pool) (a : ℕ) : Type 0 where
  pub place : 0 < m.free s
  pub covered : a ≤ m.shown s p

-- Binding standing is always taken, advisory standing by a book that takes advisory months.
abbrev pub TakesStanding : {S : Type 0} → FundMeaning S → S → Standing → Type 0
TakesStanding m s Binding = Unit {0}
TakesStanding m s Advisory = m.takes_advisory s ≡ true

-- A posting in is refused 31 where no place is free, and else 32 where it would pass the limit.
abbrev pub RefusesIn : {S : Type 0} → FundMeaning S → S → Pool → ℕ → BookFault → Type 0
RefusesIn m s p a e =
    ((label e ≡ labelled 31 (Some p)) × (m.free s ≡ 0))
    ⊎ ((label e ≡ labelled 32 (Some p)) × (0 < m.free s) × (limit < m.shown s p + a))

-- A posting out is refused 31 where no place is free, and else 33 where it is above the shown balance.
abbrev pub RefusesOut : {S : Type 0} → FundMeaning S → S → Pool → ℕ → BookFault → Type 0
RefusesOut m s p a e =
    ((label e ≡ labelled 31 (Some p)) × (m.free s ≡ 0))
    ⊎ ((label e ≡ labelled 33 (Some p)) × (0 < m.free s) × (m.shown s p < a))

-- Advisory standing is refused 34 by a book that takes no advisory months.
abbrev pub RefusesStanding : {S : Type 0} → FundMeaning S → S → Standing → BookFault → Type 0
RefusesStanding m s Binding e = ⊥
RefusesStanding m s Advisory e = (label e ≡ labelled 34 None) × (m.takes_advisory s ≡ false)

module _ {S : Type 0} (m : FundMeaning S) where
  -- When a call is taken. Ruling off always is.
  abbrev pub Takes : S → Call → Type 0
  Takes s (stands d) = TakesStanding m s d
  Takes s (posts_in p a) = TakesIn m s p a
  Takes s (posts_out p a) = TakesOut m s p a
  Takes s rules_off = Unit {0}

  -- Where a taken call leads.
  abbrev pub after : S → Call → S
  after s (stands d) = m.stood s d
  after s (posts_in p a) = m.posted_in s p a
  after s (posts_out p a) = m.posted_out s p a
  after s rules_off = m.ruled_off s

  -- When a call is refused, and with which fault.
  abbrev pub Refuses : S → Call → BookFault → Type 0
  Refuses s (stands d) e = RefusesStanding m s d e
  Refuses s (posts_in p a) e = RefusesIn m s p a e
  Refuses s (posts_out p a) e = RefusesOut m s p a e
  Refuses s rules_off e = ⊥

-- A call was taken at s, and led to t.
pub record Taken {S : Type 0} (m : FundMeaning S) (s t : S) (c : Call) : Type 0 where
  pub takes : Takes m s c
  pub leads : t ≡ after m s c

-- The balances f, but n for the pool p.
abbrev pub with_at : (Pool → ℕ) → Pool → ℕ → Pool → ℕ
with_at f Generic n Generic = n
with_at f Generic n Flexible = f Flexible
with_at f Flexible n Generic = f Generic
with_at f Flexible n Flexible = n

-- The binding balances after a posting: in binding standing it moves them too, in advisory standing it does not.
abbrev pub binding_after : Standing → (Pool → ℕ) → Pool → ℕ → Pool → ℕ
binding_after Binding f p n q = with_at f p n q
binding_after Advisory f p n q = f q

-- A posting made the shown balance of p be n. It used at most one place, and changed nothing else.
pub record Posted {S : Type 0} (m : FundMeaning S) (s t : S) (p : Pool) (n : ℕ) : Type 0 where
  pub shown : (q : Pool) → m.shown t q ≡ with_at (m.shown s) p n q
  pub binding : (q : Pool) → m.binding t q ≡ binding_after (m.standing s) (m.binding s) p n q
  pub standing : m.standing t ≡ m.standing s
  pub size : m.size t ≡ m.size s
  pub takes_advisory : m.takes_advisory t ≡ m.takes_advisory s
  pub free : m.free s ≤ m.free t + 1

-- The shown balances after standing: binding sets them to the binding ones, advisory keeps them.
abbrev pub shown_after : Standing → (Pool → ℕ) → (Pool → ℕ) → Pool → ℕ
shown_after Binding binding shown q = binding q
shown_after Advisory binding shown q = shown q

-- The book was stood; its free places may be others.
pub record Stood {S : Type 0} (m : FundMeaning S) (s t : S) (d : Standing) : Type 0 where
  pub shown : (q : Pool) → m.shown t q ≡ shown_after d (m.binding s) (m.shown s) q
  pub binding : (q : Pool) → m.binding t q ≡ m.binding s q
  pub standing : m.standing t ≡ d
  pub size : m.size t ≡ m.size s
  pub takes_advisory : m.takes_advisory t ≡ m.takes_advisory s

-- All is as it was, but for the free places.
pub record Unmoved {S : Type 0} (m : FundMeaning S) (s t : S) : Type 0 where
  pub shown : (q : Pool) → m.shown t q ≡ m.shown s q
  pub binding : (q : Pool) → m.binding t q ≡ m.binding s q
  pub standing : m.standing t ≡ m.standing s
  pub size : m.size t ≡ m.size s
  pub takes_advisory : m.takes_advisory t ≡ m.takes_advisory s

-- The book was ruled off: all but at most two of its places are free.
pub record RuledOff {S : Type 0} (m : FundMeaning S) (s t : S) : Type 0 where
  pub unmoved : Unmoved m s t
  pub free : m.size s ≤ m.free t + 2

-- What is so in every state that a book of this kind can be in.
pub record Holds {S : Type 0} (m : FundMeaning S) (s : S) : Type 0 where
  pub sized : 8 ≤ m.size s
  pub shown : (q : Pool) → m.shown s q ≤ limit
  pub binding : (q : Pool) → m.binding s q ≤ limit
  pub agrees : m.standing s ≡ Binding → (q : Pool) → m.shown s q ≡ m.binding s q

-- The laws of a kind of book, of which `sound` tells the states that it can be in: a taken call leads to such a state again.
pub record Lawful {S : Type 0} (m : FundMeaning S) (sound : S → Type 0) : Type 0 where
  pub holds : (s : S) → sound s → Holds m s
  pub stood : (s : S) (d : Standing) → sound s → TakesStanding m s d → sound (m.stood s d) × Stood m s (m.stood s d) d
  pub posted_in : (s : S) (p : Pool) (a : ℕ) → sound s → TakesIn m s p a → sound (m.posted_in s p a) × Posted m s (m.posted_in s p a) p (m.shown s p + a)
  pub posted_out : (s : S) (p : Pool) (a : ℕ) → sound s → TakesOut m s p a → sound (m.posted_out s p a) × Posted m s (m.posted_out s p a) p (m.shown s p - a)
  pub ruled_off : (s : S) → sound s → sound (m.ruled_off s) × RuledOff m s (m.ruled_off s)
