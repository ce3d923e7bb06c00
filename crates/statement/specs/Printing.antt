-- The whole output of a month file: its statement, or the one line of its refusal.
use Rattle.std.specs.Prelude.{ℕ, zero, suc, ◌/◌, Bool, true, false, List, [], ◌++◌, length, Ok, Err, Result, slice_index_or}
use Rattle.assessment.specs.declared.line.LineState.{LineState}
use Rattle.assessment.specs.declared.line.LineState.TheVariants.{Empty, Charged, Neutral, Paid}
use Rattle.pools.specs.declared.pool.Pool.TheVariants.{Generic, Flexible}
use Rattle.settlement.specs.Closing.{no_line}
use Rattle.settlement.specs.Tables.{pool_at}
use Rattle.settlement.specs.declared.tables.LineEntry.{LineEntry}
use Rattle.statement.specs.Rows.{header_row, line_row, pool_row, refusal_row}
use Rattle.statement.specs.Settling.{MonthStatement, settled}
use Rattle.statement.specs.declared.fault.Located.{Located}
use Rattle.statement.specs.declared.fault.StatementFault.{StatementFault}

-- an empty line is not printed
abbrev pub unless_empty : LineState → List ℕ → List ℕ
unless_empty Empty bs = []
unless_empty Charged bs = bs
unless_empty Neutral bs = bs
unless_empty Paid bs = bs

-- what is printed for place k of the line table
abbrev pub place_row : ℕ → LineEntry → List ℕ
place_row k e = unless_empty e.line.state (line_row (k / 2) (pool_at k) e)

-- the first n places of a line table, in their order
unfoldable pub rows_to : List LineEntry → ℕ → List ℕ
rows_to lines zero = []
rows_to lines (suc n) = rows_to lines n ++ place_row n (slice_index_or lines n no_line)

-- all places
unfoldable pub line_rows : List LineEntry → List ℕ
line_rows lines = rows_to lines (length lines)

-- header, lines, and both pools
abbrev pub statement_text : MonthStatement → List ℕ
statement_text s =
    header_row s.terms ++ line_rows s.lines ++ pool_row Generic s.pools.generic s.shown.generic ++ pool_row Flexible s.pools.flexible s.shown.flexible

-- what is printed for what a file comes to
abbrev pub printed : Result MonthStatement (Located StatementFault) → List ℕ
printed (Ok s) = statement_text s
printed (Err f) = refusal_row f

-- whether it is a statement
abbrev pub is_taken : Result MonthStatement (Located StatementFault) → Bool
is_taken (Ok s) = true
is_taken (Err f) = false

-- the whole output for the bytes of a file
unfoldable pub output : List ℕ → List ℕ
output bs = printed (settled bs)

-- whether that is a statement
unfoldable pub is_settled : List ℕ → Bool
is_settled bs = is_taken (settled bs)
