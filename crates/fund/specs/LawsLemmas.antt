-- What holds of every run of calls on a lawful book.
use Rattle.std.specs.Prelude.{◌≡◌, ℕ, ◌+◌, ◌-◌, ◌≤◌, Bool, true, false, cond, List, [], ◌∷◌, length, nat_lt, refl}
use Rattle.std.proofs.Common.{sym, subst, ◌∙◌, arith, ltb-false}
use Rattle.fund.specs.Meaning.{FundMeaning, Lawful, Call, stands, posts_in, posts_out, rules_off, Takes, after, Posted, binding_after}
use Rattle.fund.specs.MeaningLemmas.{unmoved}
use Rattle.fund.specs.Laws.{Postings, Run, end, binding_in, binding_out, with_room, Roomy, RunsGoOn, Conserves, AdvisoryLeavesBinding, RulingOffMakesRoom, FourPostingsHavePlaces}
use Rattle.fund.specs.PostingsLemmas.{allows_at, after_at}
use Rattle.pools.specs.declared.pool.Pool.{Pool}
use Rattle.fund.specs.declared.standing.Standing.{Standing}
use Rattle.fund.specs.declared.standing.Standing.TheVariants.{Binding, Advisory}
use Rattle.fund.specs.declared.posting.Direction.TheVariants.{In, Out}

-- a posting in the standing d, with the binding balances f and n shown in p
step_in : (d : Standing) (f : Pool → ℕ) (n : ℕ) (p q : Pool) (a : ℕ) → (d ≡ Binding → n ≡ f p) → f q + binding_in d (posts_in p a) q ≡ binding_out d (posts_in p a) q + binding_after d f p (n + a) q
step_in Binding f n p q a h = let e : n ≡ f p = h refl in rw e (omega (arith, after_at In f q p a))
step_in Advisory f n p q a h = omega arith

step_out : (d : Standing) (f : Pool → ℕ) (n : ℕ) (p q : Pool) (a : ℕ) → (d ≡ Binding → n ≡ f p) → a ≤ n → f q + binding_in d (posts_out p a) q ≡ binding_out d (posts_out p a) q + binding_after d f p (n - a) q
step_out Binding f n p q a h k = let e : n ≡ f p = h refl in rw e (omega (arith, after_at Out f q p a, allows_at Out f q p a (omega arith) (omega arith)))
step_out Advisory f n p q a h k = omega arith

none_moves : (d : Standing) (f : Pool → ℕ) (p q : Pool) (n : ℕ) → d ≡ Advisory → binding_after d f p n q ≡ f q
none_moves Binding f p q n e = absurd (cc)
none_moves Advisory f p q n e = refl

pub runs_go_on : {S : Type 0} (m : FundMeaning S) → RunsGoOn m
runs_go_on m s [] c r t = ((t, tt), refl)
runs_go_on m s (x ∷ cs) c r t = let h = runs_go_on m (after m s x) cs c r.1 t in ((r.0, h.0), h.1)

module _ {S : Type 0} (m : FundMeaning S) (sound : S → Type 0) (law : Lawful m sound) where
  pub sound_after : (s : S) (c : Call) → sound s → Takes m s c → sound (after m s c)
  sound_after s (stands d) k t = (law.stood s d k t).0
  sound_after s (posts_in p a) k t = (law.posted_in s p a k t).0
  sound_after s (posts_out p a) k t = (law.posted_out s p a k t).0
  sound_after s rules_off k t = (law.ruled_off s k).0

  step : (s : S) (c : Call) → sound s → Takes m s c → (q : Pool) → m.binding s q + binding_in (m.standing s) c q ≡ binding_out (m.standing s) c q + m.binding (after m s c) q
  step s (stands d) k t q = omega (arith, (law.stood s d k t).1.binding q)
  step s (posts_in p a) k t q = omega (arith, step_in (m.standing s) (m.binding s) (m.shown s p) p q a (λ b. (law.holds s k).agrees b p), (law.posted_in s p a k t).1.binding q)
  step s (posts_out p a) k t q = omega (arith, step_out (m.standing s) (m.binding s) (m.shown s p) p q a (λ b. (law.holds s k).agrees b p) t.covered, (law.posted_out s p a k t).1.binding q)
  step s rules_off k t q = omega (arith, (law.ruled_off s k).1.unmoved.binding q)

  pub conserves : Conserves m sound
  conserves s [] k r q = omega arith
  conserves s (c ∷ cs) k r q = omega (arith, step s c k r.0 q, conserves (after m s c) cs (sound_after s c k r.0) r.1 q)

  -- a posting in advisory standing: the standing and the binding balances stay
  still : (s t : S) (p : Pool) (n : ℕ) → m.standing s ≡ Advisory → Posted m s t p n → (m.standing t ≡ Advisory) × ((q : Pool) → m.binding t q ≡ m.binding s q)
  still s t p n e h = (h.standing ∙ e, λ q. h.binding q ∙ none_moves (m.standing s) (m.binding s) p q n e)

  -- what the first of a run of postings leaves
  record First (s : S) (c : Call) (cs : List Call) : Type 0 where
    pub stays : sound (after m s c)
    pub rest : Postings cs
    pub pool : Pool
    pub shown : ℕ
    pub posted : Posted m s (after m s c) pool shown

  first : (s : S) (c : Call) (cs : List Call) → sound s → Postings (c ∷ cs) → Takes m s c → First s c cs
  first s (stands d) cs k o t = absurd o
  first s (posts_in p a) cs k o t = let h = law.posted_in s p a k t in record { stays = h.0; rest = o; pool = p; shown = _; posted = h.1 }
  first s (posts_out p a) cs k o t = let h = law.posted_out s p a k t in record { stays = h.0; rest = o; pool = p; shown = _; posted = h.1 }
  first s rules_off cs k o t = absurd o

  pub advisory_leaves_binding : AdvisoryLeavesBinding m sound
  advisory_leaves_binding s [] k e o r q = refl
  advisory_leaves_binding s (c ∷ cs) k e o r q =
      let h = first s c cs k o r.0 in
      let w = still s (after m s c) h.pool h.shown e h.posted in
      advisory_leaves_binding (after m s c) cs h.stays w.0 h.rest r.1 q ∙ w.1 q

  -- no posting uses more than one place
  places_used : (s : S) (cs : List Call) → sound s → Postings cs → Run m s cs → m.free s ≤ m.free (end m s cs) + length cs
  places_used s [] k o r = omega arith
  places_used s (c ∷ cs) k o r =
      let h = first s c cs k o r.0 in
      omega (arith, h.posted.free, places_used (after m s c) cs h.stays h.rest r.1)

  pub ruling_off_makes_room : RulingOffMakesRoom m sound
  ruling_off_makes_room s cs k o r few =
      let h = law.ruled_off s k in
      omega (arith, h.1.free, places_used (m.ruled_off s) cs h.0 o r)

  pub four_postings_have_places : FourPostingsHavePlaces m sound
  four_postings_have_places s cs k o r few = ruling_off_makes_room s cs k o r (omega (arith, (law.holds s k).sized))

  roomy_by : (s : S) (n : ℕ) (b : Bool) → sound s → nat_lt (m.free s) n ≡ b → Roomy m s (cond b (m.ruled_off s) s) n
  roomy_by s n true k e = let h = (law.ruled_off s k).1 in record { unmoved = h.unmoved; free = λ few. omega (arith, h.free, (law.holds s k).sized) }
  roomy_by s n false k e = record { unmoved = unmoved m s; free = λ few. omega (arith, ltb-false _ _ e) }

  -- making room makes it, in every state of every lawful book
  pub roomy : (s t : S) (n : ℕ) → sound s → t ≡ with_room m s n → Roomy m s t n
  roomy s t n k e = subst (λ (u : S). Roomy m s u n) (sym e) (roomy_by s n (nat_lt (m.free s) n) k refl)
