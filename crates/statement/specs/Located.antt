-- For inner contracts: an answer whose fault is told at a byte offset.
use Rattle.std.specs.Prelude.{ℕ, Ok, Err, Result}
use Rattle.statement.specs.declared.fault.Located.{Located}

-- a fault gets the offset, a value stays as it is
abbrev pub placed : {T F : Type 0} → Result T F → ℕ → Result T (Located F)
placed (Ok x) n = Ok x
placed (Err e) n = Err (record { fault = e; offset = n })
