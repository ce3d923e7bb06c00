-- What the postings of a close and of a release do, in any kind of book that keeps the laws.
use Rattle.std.proofs.Common.{◌≡◌, ℕ, zero, suc, ◌+◌, ◌-◌, ◌<◌, ◌≤◌, Bool, true, false, cond, ltb, List, sym, refl, ap, ◌∙◌, arith, ltb-false, get_or, ◌*◌}
use Rattle.fund.specs.Balances.{limit}
use Rattle.fund.specs.Laws.{with_room}
use Rattle.fund.specs.Meaning.{FundMeaning, Lawful, Posted, with_at, binding_after}
use Rattle.pools.specs.PerPool.{entry_of}
use Rattle.pools.specs.declared.per_pool.PerPool.{PerPool}
use Rattle.pools.specs.declared.pool.Pool.{Pool}
use Rattle.pools.specs.declared.pool.Pool.TheVariants.{Generic, Flexible}
use Rattle.fund.specs.declared.standing.Standing.{Standing}
use Rattle.fund.specs.declared.standing.Standing.TheVariants.{Binding, Advisory}
use Rattle.settlement.specs.Closing.{posted_in, posted_out, posted, month_posted, Funded}
use Rattle.settlement.specs.Releasing.{load_told, released}
use Rattle.settlement.specs.declared.amounts.LoadAmount.TheVariants.{Share}
use Rattle.settlement.specs.declared.tables.LoadEntry.{LoadEntry}
use Rattle.settlement.specs.declared.tables.PoolClose.{PoolClose}
use Rattle.settlement.proofs.BothPools.{pools}

-- the shown balance of p became n, by at most k postings
pub record Moves {S : Type 0} (m : FundMeaning S) (sound : S → Type 0) (s t : S) (p : Pool) (n k : ℕ) : Type 0 where
  pub keeps : sound t
  pub shown : (q : Pool) → m.shown t q ≡ with_at (m.shown s) p n q
  pub binding : (q : Pool) → m.binding t q ≡ binding_after (m.standing s) (m.binding s) p n q
  pub standing : m.standing t ≡ m.standing s
  pub free : m.free s ≤ m.free t + k

-- a book with room made: the same balances, and n places
pub record Ready {S : Type 0} (m : FundMeaning S) (sound : S → Type 0) (s t : S) (n : ℕ) : Type 0 where
  pub keeps : sound t
  pub shown : (q : Pool) → m.shown t q ≡ m.shown s q
  pub binding : (q : Pool) → m.binding t q ≡ m.binding s q
  pub standing : m.standing t ≡ m.standing s
  pub free : n ≤ m.free t

-- A step for each pool in turn: where it leads, when it may be made, and what it makes of the shown balance, by at most k postings.
-- Whether it may be made hangs on the pool's shown balance only.
pub record Steps {S : Type 0} (m : FundMeaning S) (sound : S → Type 0) (step : S → Pool → S) (Fits : S → Pool → Type 0) (new : Pool → ℕ → ℕ) (k : ℕ) : Type 0 where
  pub moves : (s : S) (p : Pool) → sound s → k ≤ m.free s → Fits s p → Moves m sound s (step s p) p (new p (m.shown s p)) k
  pub fits : (s t : S) (p : Pool) → m.shown t p ≡ m.shown s p → Fits s p → Fits t p

-- where the steps of the first j pools lead
abbrev pub in_turn : {S : Type 0} → (S → Pool → S) → S → ℕ → S
in_turn step s zero = s
in_turn step s (suc zero) = step s Generic
in_turn step s (suc (suc j)) = step (step s Generic) Flexible

-- what the steps of both pools leave
pub record Balanced {S : Type 0} (m : FundMeaning S) (sound : S → Type 0) (s t : S) (new : Pool → ℕ → ℕ) : Type 0 where
  pub keeps : sound t
  pub shown : (p : Pool) → m.shown t p ≡ new p (m.shown s p)
  pub binds : m.standing s ≡ Binding → (p : Pool) → m.binding t p ≡ new p (m.binding s p)
  pub advises : m.standing s ≡ Advisory → (p : Pool) → m.binding t p ≡ m.binding s p
  pub standing : m.standing t ≡ m.standing s

-- what the charges and payments of a close make of a balance
abbrev pub closed_balance : PerPool PoolClose → Pool → ℕ → ℕ
closed_balance c p n = n + (entry_of c p).charges - (entry_of c p).payments

-- what a release leaves
pub record Lighter {S : Type 0} (m : FundMeaning S) (sound : S → Type 0) (s t : S) (es : List LoadEntry) : Type 0 where
  pub keeps : sound t
  pub standing : m.standing t ≡ Binding
  pub binding : (p : Pool) → m.binding t p ≡ m.binding s p - load_told (Share p) es

with_same : (f : Pool → ℕ) (p : Pool) (n : ℕ) → n ≡ f p → (q : Pool) → f q ≡ with_at f p n q
with_same f Generic n e Generic = sym e
with_same f Generic n e Flexible = refl
with_same f Flexible n e Generic = refl
with_same f Flexible n e Flexible = sym e

with_twice : (f h : Pool → ℕ) (p : Pool) (n k : ℕ) → ((q : Pool) → h q ≡ with_at f p n q) → (q : Pool) → with_at h p k q ≡ with_at f p k q
with_twice f h Generic n k e Generic = refl
with_twice f h Generic n k e Flexible = e Flexible
with_twice f h Flexible n k e Generic = e Generic
with_twice f h Flexible n k e Flexible = refl

after_same : (d : Standing) (f : Pool → ℕ) (p : Pool) (n : ℕ) → (d ≡ Binding → n ≡ f p) → (q : Pool) → f q ≡ binding_after d f p n q
after_same Binding f p n e q = with_same f p n (e refl) q
after_same Advisory f p n e q = refl

after_twice : (d : Standing) (f h : Pool → ℕ) (p : Pool) (n k : ℕ) → ((q : Pool) → h q ≡ binding_after d f p n q) → (q : Pool) → binding_after d h p k q ≡ binding_after d f p k q
after_twice Binding f h p n k e q = with_twice f h p n k e q
after_twice Advisory f h p n k e q = e q

with_here : (f : Pool → ℕ) (p : Pool) (n : ℕ) → with_at f p n p ≡ n
with_here f Generic n = refl
with_here f Flexible n = refl

module _ {S : Type 0} (m : FundMeaning S) (sound : S → Type 0) (law : Lawful m sound) where
  stays : (s : S) (p : Pool) (n : ℕ) → sound s → n ≡ m.shown s p → Moves m sound s s p n 1
  stays s p n k e = record {
    keeps = k;
    shown = with_same (m.shown s) p n e;
    binding = after_same (m.standing s) (m.binding s) p n (λ b. e ∙ (law.holds s k).agrees b p);
    standing = refl;
    free = omega arith;
  }

  moved : {s t : S} {p : Pool} {n : ℕ} → sound t → Posted m s t p n → Moves m sound s t p n 1
  moved k h = record { keeps = k; shown = h.shown; binding = h.binding; standing = h.standing; free = h.free }

  pub taken_in : (s : S) (p : Pool) (a : ℕ) → sound s → 0 < m.free s → m.shown s p + a ≤ limit → Moves m sound s (posted_in m s p a) p (m.shown s p + a) 1
  taken_in s p zero k f h = stays s p _ k (omega arith)
  taken_in s p (suc a) k f h = let t = law.posted_in s p (suc a) k (record { place = f; room = h }) in moved t.0 t.1

  pub taken_out : (s : S) (p : Pool) (a : ℕ) → sound s → 0 < m.free s → a ≤ m.shown s p → Moves m sound s (posted_out m s p a) p (m.shown s p - a) 1
  taken_out s p zero k f h = stays s p _ k (omega arith)
  taken_out s p (suc a) k f h = let t = law.posted_out s p (suc a) k (record { place = f; covered = h }) in moved t.0 t.1

  -- what is shown after the charges
  pub shown_in : (s : S) (p : Pool) (a : ℕ) → sound s → 0 < m.free s → m.shown s p + a ≤ limit → m.shown (posted_in m s p a) p ≡ m.shown s p + a
  shown_in s p a k f h = (taken_in s p a k f h).shown p ∙ with_here (m.shown s) p (m.shown s p + a)

  -- a pool's charges and payments
  pub settles : (s : S) (p : Pool) (c : PoolClose) → sound s → 2 ≤ m.free s → Funded m s p c → Moves m sound s (posted m s p c) p (m.shown s p + c.charges - c.payments) 2
  settles s p c k f h =
      let u = posted_in m s p c.charges in
      let t = taken_in s p c.charges k (omega arith) h.room in
      let e = shown_in s p c.charges k (omega arith) h.room in
      let o = taken_out u p c.payments t.keeps (omega (arith, t.free)) (omega (arith, e, h.covered)) in
      let n : m.shown u p - c.payments ≡ m.shown s p + c.charges - c.payments = ap (λ x. x - c.payments) e in
      record {
        keeps = o.keeps;
        shown = λ q. o.shown q ∙ with_twice (m.shown s) (m.shown u) p (m.shown s p + c.charges) _ t.shown q ∙ ap (λ x. with_at (m.shown s) p x q) n;
        binding = λ q.
            o.binding q ∙ ap (λ x. binding_after x (m.binding u) p (m.shown u p - c.payments) q) t.standing
            ∙ after_twice (m.standing s) (m.binding s) (m.binding u) p (m.shown s p + c.charges) _ t.binding q ∙ ap (λ x. binding_after (m.standing s) (m.binding s) p x q) n;
        standing = o.standing ∙ t.standing;
        free = omega (arith, t.free, o.free);
      }

  readies_by : (s : S) (n : ℕ) (b : Bool) → n ≤ 6 → sound s → ltb (m.free s) n ≡ b → Ready m sound s (cond b (m.ruled_off s) s) n
  readies_by s n true few k e =
      let t = law.ruled_off s k in
      let u = t.1.unmoved in
      record { keeps = t.0; shown = u.shown; binding = u.binding; standing = u.standing; free = omega (arith, t.1.free, (law.holds s k).sized) }
  readies_by s n false few k e = record { keeps = k; shown = λ q. refl; binding = λ q. refl; standing = refl; free = omega (arith, ltb-false _ _ e) }

  readies : (s : S) (n : ℕ) → n ≤ 6 → sound s → Ready m sound s (with_room m s n) n
  readies s n few k = readies_by s n (ltb (m.free s) n) few k refl

  module _ {step : S → Pool → S} {Fits : S → Pool → Type 0} {new : Pool → ℕ → ℕ} {k : ℕ} (steps : Steps m sound step Fits new k) (s : S) (real : sound s) (few : 2 * k ≤ 6) (fit : (p : Pool) → Fits s p) where
    abbrev roomy : S
    roomy = with_room m s (2 * k)

    ready : Ready m sound s roomy (2 * k)
    ready = readies s (2 * k) few real

    first : Moves m sound roomy (step roomy Generic) Generic (new Generic (m.shown roomy Generic)) k
    first = steps.moves roomy Generic ready.keeps (omega (arith, ready.free)) (steps.fits s roomy Generic (ready.shown Generic) (fit Generic))

    -- the next step may be made
    pub next_fits : (j : ℕ) (d : Pool) → j < 2 → (k ≤ m.free (in_turn step roomy j)) × Fits (in_turn step roomy j) (get_or pools j d)
    next_fits zero d h = (omega (arith, ready.free), steps.fits s roomy Generic (ready.shown Generic) (fit Generic))
    next_fits (suc zero) d h = (omega (arith, ready.free, first.free), steps.fits s _ Flexible (first.shown Flexible ∙ ready.shown Flexible) (fit Flexible))
    next_fits (suc (suc j)) d h = absurd (omega arith)

    second : Moves m sound (step roomy Generic) (in_turn step roomy 2) Flexible (new Flexible (m.shown (step roomy Generic) Flexible)) k
    second = let h = next_fits 1 Flexible (omega arith) in steps.moves (step roomy Generic) Flexible first.keeps h.0 h.1

    both_shown : (p : Pool) → m.shown (in_turn step roomy 2) p ≡ new p (m.shown s p)
    both_shown Generic = second.shown Generic ∙ first.shown Generic ∙ ap (new Generic) (ready.shown Generic)
    both_shown Flexible = second.shown Flexible ∙ ap (new Flexible) (first.shown Flexible ∙ ready.shown Flexible)

    pub both_made : Balanced m sound s (in_turn step roomy 2) new
    both_made =
        let st : m.standing (in_turn step roomy 2) ≡ m.standing s = second.standing ∙ first.standing ∙ ready.standing in
        record {
          keeps = second.keeps;
          shown = both_shown;
          binds = λ b p. sym ((law.holds (in_turn step roomy 2) second.keeps).agrees (st ∙ b) p) ∙ both_shown p ∙ ap (new p) ((law.holds s real).agrees b p);
          advises = λ b p.
              second.binding p ∙ ap (λ x. binding_after x (m.binding (step roomy Generic)) Flexible (new Flexible (m.shown (step roomy Generic) Flexible)) p) (first.standing ∙ ready.standing ∙ b)
              ∙ first.binding p ∙ ap (λ x. binding_after x (m.binding roomy) Generic (new Generic (m.shown roomy Generic)) p) (ready.standing ∙ b)
              ∙ ready.binding p;
          standing = st;
        }

  pub close_steps : (c : PerPool PoolClose) → Steps m sound (λ s p. posted m s p (entry_of c p)) (λ s p. Funded m s p (entry_of c p)) (closed_balance c) 2
  close_steps c = record {
    moves = λ s p k f h. settles s p (entry_of c p) k f h;
    fits = λ s t p e h. record { room = omega (arith, e, h.room); covered = omega (arith, e, h.covered) };
  }

  pub balanced : (s : S) (c : PerPool PoolClose) → sound s → ((p : Pool) → Funded m s p (entry_of c p)) → Balanced m sound s (month_posted m s c) (closed_balance c)
  unfolding month_posted
  balanced s c k h = both_made (close_steps c) s k (omega arith) h

  pub release_steps : (es : List LoadEntry) → Steps m sound (λ s p. posted_out m s p (load_told (Share p) es)) (λ s p. load_told (Share p) es ≤ m.shown s p) (λ p n. n - load_told (Share p) es) 1
  release_steps es = record { moves = λ s p k f h. taken_out s p (load_told (Share p) es) k f h; fits = λ s t p e h. omega (arith, e, h) }

  pub lighter : (s : S) (es : List LoadEntry) → sound s → ((p : Pool) → load_told (Share p) es ≤ m.binding s p) → Lighter m sound s (released m s es) es
  unfolding released
  lighter s es k h =
      let b = law.stood s Binding k tt in
      let l = both_made (release_steps es) (m.stood s Binding) b.0 (omega arith) (λ p. omega (arith, h p, b.1.shown p)) in
      record {
        keeps = l.keeps;
        standing = l.standing ∙ b.1.standing;
        binding = λ p. l.binds b.1.standing p ∙ ap (λ n. n - load_told (Share p) es) (b.1.binding p);
      }
