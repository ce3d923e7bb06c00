-- What each fault of a book carries: its number, its layer and its place; and how these are printed.
use Rattle.std.specs.Prelude.{ℕ, Some, None, Option, List, [], ◌++◌, codes, decimal, encode_utf8}
use Rattle.std.specs.Fmt.{◌++?◌}
use Rattle.pools.specs.declared.pool.Pool.{Pool}
use Rattle.fund.specs.declared.fault.BookFault.{BookFault}
use Rattle.fund.specs.declared.fault.BookFault.TheVariants.{UnfitPlaces, NoFreePlace, OverLimit, AboveBalance, NoAdvisoryMonths}
use Rattle.fund.specs.declared.label.Label.{Label}

-- A label of the book's layer, whose letter is B.
abbrev pub labelled : ℕ → Option Pool → Label (Option Pool)
labelled n p = record { number = n; layer = 66; place = p }

-- The faults of a book. Those about a posting have its pool as their place, the others none.
abbrev pub label : BookFault → Label (Option Pool)
label UnfitPlaces = labelled 30 None
label (NoFreePlace p) = labelled 31 (Some p)
label (OverLimit p) = labelled 32 (Some p)
label (AboveBalance p) = labelled 33 (Some p)
label NoAdvisoryMonths = labelled 34 None

-- A place after a space; nothing where there is none. What is printed of a place itself is `shown` of it.
abbrev pub spaced_place : {P : Type 0} → (P → Option (List ℕ)) → Option P → Option (List ℕ)
spaced_place shown None = Some []
spaced_place shown (Some p) = Some (codes " ") ++? shown p

-- How a label is printed: its number, its layer, and its place if it has one.
abbrev pub label_words : {P : Type 0} → (P → Option (List ℕ)) → Label (Option P) → Option (List ℕ)
label_words shown l = Some (decimal l.number ++ codes " " ++ encode_utf8 l.layer) ++? spaced_place shown l.place
