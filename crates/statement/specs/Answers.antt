-- Answers that are taken or refused, one after another.
use Rattle.std.specs.Prelude.{◌≡◌, Bool, cond, Ok, Err, Result}

-- an answer where the test holds, else the fault
abbrev pub require : {A E : Type 0} → Bool → E → Result A E → Result A E
require b e r = cond b r (Err e)

-- the first refusal ends it
abbrev pub and_then : {A B E : Type 0} → Result A E → (A → Result B E) → Result B E
and_then (Ok x) f = f x
and_then (Err e) f = Err e

-- For inner contracts: a call of the code answers as defined. Taken, it leaves the value v; refused, it tells the same fault.
abbrev pub Leaves : {T E V : Type 0} → Result T E → V → Result V E → Type 0
Leaves (Ok x) v d = d ≡ Ok v
Leaves (Err e) v d = d ≡ Err e

-- For inner contracts: the same of a call that returns its value, which `see` turns into that of the definition.
abbrev pub Answers : {T E V : Type 0} → (T → V) → Result T E → Result V E → Type 0
Answers see (Ok x) d = d ≡ Ok (see x)
Answers see (Err e) d = d ≡ Err e
