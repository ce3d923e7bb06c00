-- Answers that are taken or refused, one after another.
use Rattle.std.proofs.Common.{◌≡◌, ℕ, Bool, true, false, Ok, Err, Result, IsErrAnd, rules}
use Rattle.statement.specs.Answers.{require, and_then, Leaves, Answers}
use Rattle.statement.specs.Located.{placed}
use Rattle.statement.specs.declared.fault.Located.{Located}
use Rattle.statement.specs.declared.fault.StatementFault.{StatementFault}

-- a test that is met, or not
pub met : {A E : Type 0} (b : Bool) (e : E) (r : Result A E) → b ≡ true → require b e r ≡ r
met b e r h = rw h

pub unmet : {A E : Type 0} (b : Bool) (e : E) (r : Result A E) → b ≡ false → require b e r ≡ Err e
unmet b e r h = rw h

-- an answer that is taken came of taken parts
pub required : {A E : Type 0} (b : Bool) (e : E) (r : Result A E) (x : A) → require b e r ≡ Ok x → (b ≡ true) × (r ≡ Ok x)
required b e r x h = search rules

pub parts : {A B E : Type 0} (r : Result A E) (f : A → Result B E) (y : B) → and_then r f ≡ Ok y → (x : A) × ((r ≡ Ok x) × (f x ≡ Ok y))
parts r f y h = search rules

pub same_ok : {A E : Type 0} (x y : A) → ◌≡◌ {A = Result A E} (Ok x) (Ok y) → x ≡ y
same_ok x y h = cc

-- an answer placed at an offset
pub placed_ok : {T F : Type 0} (r : Result T F) (n : ℕ) (x : T) → placed r n ≡ Ok x → r ≡ Ok x
placed_ok r n x h = search rules

-- a fault that `at_offset` and `?` tell, where the definition refuses with it
pub refused_at : {T F U V : Type 0} (see : U → V) (r : Result T F) (n : ℕ) (tell : F → StatementFault) {l : Located F} (q : Result U (Located StatementFault)) {d : Result V (Located StatementFault)} → placed r n ≡ Err l
    → IsErrAnd q (λ e. e ≡ record { fault = tell l.fault; offset = l.offset }) → ((f : F) → r ≡ Err f → d ≡ Err (record { fault = tell f; offset = n })) → Answers see q d
refused_at see r n tell q h told refuses = search rules

-- a call that answers as defined
pub leaves_ok : {T E V : Type 0} (r : Result T E) (v : V) (d : Result V E) (x : T) → r ≡ Ok x → Leaves r v d → d ≡ Ok v
leaves_ok r v d x h l = rw h at l

pub leaves_err : {T E V : Type 0} (r : Result T E) (v : V) (d : Result V E) (e : E) → r ≡ Err e → Leaves r v d → d ≡ Err e
leaves_err r v d e h l = rw h at l

-- calls chained by `?`
module _ {T U V W : Type 0} (see : T → V) (last : U → W) (d : Result V (Located StatementFault)) (f : V → Result W (Located StatementFault)) where
  -- a step that fails ends the chain by `?`
  pub stops : (r : Result T (Located StatementFault)) (e : Located StatementFault) (q : Result U (Located StatementFault)) → r ≡ Err e → Answers see r d → IsErrAnd q (λ y. y ≡ e) → Answers last q (and_then d f)
  stops r e q h a told = search rules

  -- a step that is taken leaves the rest of the chain
  pub goes_on : (r : Result T (Located StatementFault)) (x : T) (q : Result U (Located StatementFault)) → r ≡ Ok x → Answers see r d → Answers last q (f (see x)) → Answers last q (and_then d f)
  goes_on r x q h a b = let e = rw h at a in rw e b
