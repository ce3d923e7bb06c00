-- The lines of a statement and of a refusal, as bytes: decimal fields parted by one space, and a line feed at the end.
use Rattle.std.specs.Prelude.{ℕ, cond, List, [], ◌∷◌, ◌++◌, codes, decimal, nat_lt}
use Rattle.assessment.specs.Lines.{letter}
use Rattle.pools.specs.Names.{pool_letter}
use Rattle.fund.specs.Names.{standing_word}
use Rattle.pools.specs.declared.pool.Pool.{Pool}
use Rattle.settlement.specs.Opening.{standing_of}
use Rattle.settlement.specs.declared.tables.MonthTerms.{MonthTerms}
use Rattle.settlement.specs.declared.tables.LineEntry.{LineEntry}
use Rattle.settlement.specs.declared.tables.PoolClose.{PoolClose}
use Rattle.statement.specs.Faults.{label}
use Rattle.statement.specs.declared.fault.Located.{Located}
use Rattle.statement.specs.declared.fault.StatementFault.{StatementFault}

-- a number below 100 in two digits
abbrev pub two_digits : ℕ → List ℕ
two_digits n = cond (nat_lt n 10) (codes "0" ++ decimal n) (decimal n)

-- month and standing
abbrev pub header_row : MonthTerms → List ℕ
header_row t = codes "MONTH " ++ decimal t.month.year ++ codes "-" ++ two_digits t.month.month ++ codes " " ++ standing_word (standing_of t.standing) ++ codes "\n"

-- resource, pool, obligation, availability, state, cents
abbrev pub line_row : ℕ → Pool → LineEntry → List ℕ
line_row resource p e =
    decimal resource ++ codes " " ++ (pool_letter p ∷ []) ++ codes " " ++ decimal e.line.obligation ++ codes " "
    ++ decimal e.line.availability ++ codes " " ++ (letter e.line.state ∷ []) ++ codes " " ++ decimal e.cents ++ codes "\n"

-- pool, charges, rate, payments, shown balance
abbrev pub pool_row : Pool → PoolClose → ℕ → List ℕ
pool_row p c shown =
    codes "POOL " ++ (pool_letter p ∷ []) ++ codes " " ++ decimal c.charges ++ codes " " ++ decimal c.rate ++ codes " "
    ++ decimal c.payments ++ codes " " ++ decimal shown ++ codes "\n"

-- number, layer, byte offset
abbrev pub refusal_row : Located StatementFault → List ℕ
refusal_row f =
    codes "REFUSED " ++ decimal (label f).number ++ codes " " ++ ((label f).layer ∷ []) ++ codes " " ++ decimal (label f).place ++ codes "\n"
