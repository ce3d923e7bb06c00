-- How standings are printed, and by which numbers they are read.
use Rattle.std.specs.Prelude.{◌≡◌, ℕ, ◌<◌, List, Result, MatchResult, codes}
use Rattle.fund.specs.declared.standing.Standing.{Standing}
use Rattle.fund.specs.declared.standing.Standing.TheVariants.{Binding, Advisory}
use Rattle.pools.specs.declared.out_of_range.OutOfRange.{OutOfRange}

-- The word of each standing.
abbrev pub standing_word : Standing → List ℕ
standing_word Binding = codes "BINDING"
standing_word Advisory = codes "ADVISORY"

-- The number of each standing.
abbrev pub standing_number : Standing → ℕ
standing_number Binding = 0
standing_number Advisory = 1

-- A number is read as the standing whose number it is. One above 1 is no standing's, and is handed back.
abbrev pub ReadsStanding : ℕ → Result Standing OutOfRange → Type 0
ReadsStanding n r = MatchResult r (λ d. standing_number d ≡ n) (λ e. (e.0 ≡ n) × (1 < n))
