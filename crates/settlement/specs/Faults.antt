-- What each fault of a settlement carries: its number, its layer and its place; and how a day and a place are printed.
use Rattle.std.specs.Prelude.{ℕ, Some, None, Option, List, [], ◌∷◌, ◌++◌, codes, decimal}
use Rattle.pools.specs.Names.{pool_letter}
use Rattle.pools.specs.declared.pool.Pool.{Pool}
use Rattle.fund.specs.Faults as book
use Rattle.fund.specs.declared.label.Label.{Label}
use Rattle.settlement.specs.declared.fault.SettlementFault.{SettlementFault}
use Rattle.settlement.specs.declared.fault.SettlementFault.TheVariants.{UnfitTables, OutOfTurn, UnfitTerms, NotNextMonth, UnfitLoads, UnknownResource, NoSuchDay, AlreadyRecorded, DayOverLimit, FlexibleInCategory0, Book}
use Rattle.settlement.specs.declared.fault.FaultPlace.{FaultPlace}
use Rattle.settlement.specs.declared.fault.ResourceDay.{ResourceDay}
use Rattle.settlement.specs.declared.fault.FaultPlace.TheVariants as place

-- how a resource's day is printed
abbrev pub day_words : ResourceDay → List ℕ
day_words at = codes "resource " ++ (decimal at.resource ++ (codes ", day " ++ decimal at.day))

-- how a place is printed: a pool by its letter, a resource's day by both numbers
abbrev pub place_words : FaultPlace → List ℕ
place_words (place.Pool p) = pool_letter p ∷ []
place_words (place.Day at) = decimal at.resource ++ (codes " " ++ decimal at.day)

-- the settlement's own layer has the letter S
abbrev pub labelled : ℕ → Option FaultPlace → Label (Option FaultPlace)
labelled n p = record { number = n; layer = 83; place = p }

-- the place of a book's fault
abbrev pub in_pool : Option Pool → Option FaultPlace
in_pool None = None
in_pool (Some p) = Some (place.Pool p)

-- the numbers 10 to 20, but for 14; a book's fault keeps its own number, letter and place
abbrev pub label : SettlementFault → Label (Option FaultPlace)
label UnfitTables = labelled 10 None
label OutOfTurn = labelled 11 None
label UnfitTerms = labelled 12 None
label NotNextMonth = labelled 13 None
label UnfitLoads = labelled 15 None
label (UnknownResource d) = labelled 16 (Some (place.Day d))
label (NoSuchDay d) = labelled 17 (Some (place.Day d))
label (AlreadyRecorded d) = labelled 18 (Some (place.Day d))
label (DayOverLimit d) = labelled 19 (Some (place.Day d))
label (FlexibleInCategory0 d) = labelled 20 (Some (place.Day d))
label (Book e) = record { number = (book.label e).number; layer = (book.label e).layer; place = in_pool (book.label e).place }
