-- The laws of a month file's output.
use Rattle.std.proofs.Common.{◌≡◌, ℕ, zero, suc, ◌+◌, ◌/◌, ◌%◌, false, eqb, ltb, List, [], ◌∷◌, ◌++◌, Ok, Err, codes, decimal, Result, refl, ap, arith, rules}
use Rattle.std.specs.Fmt.{digit_glyph, digits_onto, digits}
use Rattle.std.specs.List.{AllByRecursion}
use Rattle.std.proofs.ByRecursion.{All-append}
use Rattle.std.proofs.lemmas.Bool.{cond_both, true≢false}
use Rattle.statement.specs.Faults.{label}
use Rattle.statement.specs.Files.{records_of}
use Rattle.statement.specs.Laws.{OneLine, RefusedInOneLine}
use Rattle.statement.specs.Printing.{printed, is_taken, output, is_settled}
use Rattle.statement.specs.Rows.{refusal_row}
use Rattle.statement.specs.Settling.{MonthStatement, settled_records, settled}
use Rattle.statement.specs.declared.fault.Located.{Located}
use Rattle.statement.specs.declared.fault.StatementFault.{StatementFault}

abbrev NoFeed : ℕ → Type 0
NoFeed b = b ≡ 10 → ⊥

glyph_unbroken : (d : ℕ) → NoFeed (digit_glyph false d)
glyph_unbroken d = cond_both (ltb d 10) (48 + d) (87 + d) NoFeed (λ _ e. omega arith) (λ _ e. omega arith)

spelled_unbroken : (k n : ℕ) (acc : List ℕ) → AllByRecursion NoFeed acc → AllByRecursion NoFeed (digits_onto k 10 false n acc)
spelled_unbroken zero n acc h = h
spelled_unbroken (suc k) n acc h =
    cond_both (eqb (n / 10) 0) (digit_glyph false (n % 10) ∷ acc) (digits_onto k 10 false (n / 10) (digit_glyph false (n % 10) ∷ acc)) (AllByRecursion NoFeed)
    (λ _. (glyph_unbroken (n % 10), h))
    (λ _. spelled_unbroken k (n / 10) (digit_glyph false (n % 10) ∷ acc) (glyph_unbroken (n % 10), h))

decimal_unbroken : (n : ℕ) → AllByRecursion NoFeed (decimal n)
unfolding digits
decimal_unbroken n = spelled_unbroken 64 n [] tt

letter_unbroken : (f : StatementFault) (at : ℕ) → NoFeed (label (record { fault = f; offset = at })).layer
letter_unbroken f at = search rules

space : AllByRecursion NoFeed (codes " ")
space = search rules

word : AllByRecursion NoFeed (codes "REFUSED ")
word = search rules

letter : (f : Located StatementFault) → AllByRecursion NoFeed ((label f).layer ∷ [])
letter f = (letter_unbroken f.fault f.offset, tt)

refusal_line : (f : Located StatementFault) → OneLine (refusal_row f)
refusal_line f =
    let a = decimal (label f).number in
    let b = decimal (label f).place in
    let l = (label f).layer ∷ [] in
    record {
      front = codes "REFUSED " ++ a ++ codes " " ++ l ++ codes " " ++ b;
      ended = refl;
      unbroken =
          All-append NoFeed (codes "REFUSED " ++ a ++ codes " " ++ l ++ codes " ") b
          (All-append NoFeed (codes "REFUSED " ++ a ++ codes " " ++ l) (codes " ")
          (All-append NoFeed (codes "REFUSED " ++ a ++ codes " ") l
          (All-append NoFeed (codes "REFUSED " ++ a) (codes " ")
          (All-append NoFeed (codes "REFUSED ") a word (decimal_unbroken (label f).number)) space) (letter f)) space) (decimal_unbroken (label f).place);
    }

line_of : (r : Result MonthStatement (Located StatementFault)) → is_taken r ≡ false → OneLine (printed r)
line_of (Ok s) h = absurd (true≢false h)
line_of (Err f) h = refusal_line f

pub refused_in_one_line : RefusedInOneLine
unfolding output is_settled
refused_in_one_line bs h = line_of (settled bs) h

-- equal records give equal outputs, settled or refused alike
pub same_output : (bs cs : List ℕ) → records_of bs ≡ records_of cs → output bs ≡ output cs
unfolding output settled
same_output bs cs h = ap (λ rs. printed (settled_records rs)) h

pub same_settled : (bs cs : List ℕ) → records_of bs ≡ records_of cs → is_settled bs ≡ is_settled cs
unfolding is_settled settled
same_settled bs cs h = ap (λ rs. is_taken (settled_records rs)) h
