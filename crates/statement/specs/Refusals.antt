-- Why a month file has no statement.
use Rattle.std.specs.Prelude.{◌≡◌, ℕ, true, false, List, Some, Err, Option, codes}
use Rattle.statement.specs.Printing.{output, is_settled}
use Rattle.statement.specs.Rows.{refusal_row}
use Rattle.statement.specs.Settling.{settled}
use Rattle.statement.specs.declared.no_statement.NoStatement.{NoStatement}
use Rattle.statement.specs.declared.no_statement.NoStatement.TheVariants.{Refused, OutOfMemory}

-- what is shown for such a file: the line of the refusal, or the want of memory
abbrev pub shown : NoStatement → Option (List ℕ)
shown (Refused f) = Some (refusal_row f)
shown OutOfMemory = Some (codes "memory allocation failed")

-- A file refused is not settled, but comes to this fault, and the fault's line is its whole output. Memory is asked for by the statement's bytes
-- alone, so where it runs out the file is settled.
abbrev pub RefusedBy : List ℕ → NoStatement → Type 0
RefusedBy bs (Refused f) = (is_settled bs ≡ false) × (settled bs ≡ Err f) × (refusal_row f ≡ output bs)
RefusedBy bs OutOfMemory = is_settled bs ≡ true
