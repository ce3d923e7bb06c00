-- Figures known from outside, those of the assessment among them, each beside the same figure worked out by the definitions.
use Rattle.std.specs.Prelude.{◌≡◌, ℕ, ◌-◌, true, List, [], ◌∷◌, ◌++◌, map}
use Rattle.assessment.specs.Known.{Known, known, known_figures, agree}
use Rattle.assessment.specs.declared.line.LineState.TheVariants.{Paid}
use Rattle.pools.specs.declared.pool.Pool.TheVariants.{Generic}
use Rattle.settlement.specs.Closing.{told, close_rate, paid_entries}
use Rattle.settlement.specs.Releasing.{load_told, shared}
use Rattle.settlement.specs.declared.amounts.LineAmount.TheVariants.{Payments}
use Rattle.settlement.specs.declared.amounts.LoadAmount.TheVariants.{Load, Share}
use Rattle.settlement.specs.declared.tables.LineEntry.{LineEntry}
use Rattle.settlement.specs.declared.tables.LoadEntry.{LoadEntry}

-- an eligible line of 300,000 W
abbrev eligible : LineEntry
eligible = record { line = record { obligation = 420000000; availability = 420000000; days = 21; state = Paid; quantity = 300000 }; cents = 0 }

-- three of them over a fund of 1,000 cents, at a price of 379,000
abbrev pub three_lines : List LineEntry
three_lines = eligible ∷ eligible ∷ eligible ∷ []

-- the three lines, paid
abbrev paid_three : List LineEntry
paid_three = paid_entries 379000 1000 three_lines

-- the cents of the first line
abbrev cents_of : List LineEntry → ℕ
cents_of [] = 0
cents_of (e ∷ es) = e.cents

-- a load of 1 GWh
abbrev load : LoadEntry
load = record { load = 1; shares = record { generic = 0; flexible = 0 } }

-- a balance of 1,000 cents over three such loads
abbrev three_shares : List LoadEntry
three_shares = map (shared 1000 0 (load_told Load (load ∷ load ∷ load ∷ []))) (load ∷ load ∷ load ∷ [])

-- the generic share of the first load
abbrev share_of_first : List LoadEntry → ℕ
share_of_first [] = 0
share_of_first (e ∷ es) = e.shares.generic

-- a rate, a payment and what is left; a share and what is left
abbrev pub money_figures : List Known
money_figures =
    known (close_rate 379000 1000 three_lines) 1111
    ∷ known (cents_of paid_three) 333
    ∷ known (1000 - told Payments paid_three) 1
    ∷ known (share_of_first three_shares) 333
    ∷ known (1000 - load_told (Share Generic) three_shares) 1
    ∷ []

-- every figure of the two tables is the known one
abbrev pub AllKnownFiguresAgree : Type 0
AllKnownFiguresAgree = agree (known_figures ++ money_figures) ≡ true
