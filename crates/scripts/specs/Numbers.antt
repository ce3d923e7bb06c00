-- Decimal words.
use Rattle.std.specs.Prelude.{◌≡◌, ℕ, ◌+◌, ◌-◌, ◌*◌, ◌^◌, ◌<◌, true, List, [], ◌∷◌, length}
use Rattle.std.specs.Str.{all_ascii_digits}

-- the number that digits write, after the number so far; 48 is the digit 0
abbrev pub read_on : ℕ → List ℕ → ℕ
read_on n [] = n
read_on n (c ∷ cs) = read_on (10 * n + (c - 48)) cs

-- the number that a word of digits writes
abbrev pub number : List ℕ → ℕ
number word = read_on 0 word

-- a word of digits alone, at least one, whose number fits so many bits
abbrev pub Decimal : ℕ → List ℕ → Type 0
Decimal bits word = (all_ascii_digits word ≡ true) × (0 < length word) × (number word < 2 ^ bits)
