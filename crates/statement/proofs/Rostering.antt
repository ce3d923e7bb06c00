-- One step of reading a roster.
use Rattle.std.proofs.Common.{◌≡◌, ℕ, ◌+◌, ◌-◌, ◌<◌, ◌≤◌, List, [], ◌∷◌, length, take, drop, Some, None, Ok, Err, Option, Result, sym, refl, ap, ◌∙◌, arith}
use Rattle.std.proofs.lemmas.List.{drop-drop, take_rest, length_push}
use Rattle.settlement.specs.declared.fault.SettlementFault.{SettlementFault}
use Rattle.settlement.specs.declared.tables.RosterEntry.{RosterEntry}
use Rattle.statement.specs.Files.{Records, records_of, roster_from, reader_fault, settlement_fault}
use Rattle.statement.specs.Layout.{record_of}
use Rattle.statement.specs.Reading.{as_resource}
use Rattle.statement.specs.Rosters.{enrolled, days_offset}
use Rattle.statement.specs.declared.fault.ReaderFault.{ReaderFault}
use Rattle.statement.specs.declared.records.FileRecord.{FileRecord}
use Rattle.statement.proofs.Answering.{required, same_ok}
use Rattle.statement.proofs.Parsed.{records_at, records_none, rest_resource}

enrolled_length : (roster more : List RosterEntry) (e : RosterEntry) → enrolled roster e ≡ Ok more → length more ≡ length roster + 1
enrolled_length roster more e h = ap length (sym (same_ok _ more (required _ _ _ more h).1)) ∙ length_push roster e

from_reader : (roster : List RosterEntry) (at : ℕ) (r : Result FileRecord ReaderFault) (rs : Records) (f : ReaderFault) → as_resource (length roster) r ≡ Err f → roster_from roster at (r ∷ rs) ≡ Err (reader_fault f at)
unfolding roster_from
from_reader roster at r rs f h = rw (h, roster_from)

from_days : (roster : List RosterEntry) (at : ℕ) (r : Result FileRecord ReaderFault) (rs : Records) → as_resource (length roster) r ≡ Ok None → roster_from roster at (r ∷ rs) ≡ Ok (record { roster = roster; offset = at; rest = r ∷ rs })
unfolding roster_from
from_days roster at r rs h = rw (h, roster_from)

from_refused : (roster : List RosterEntry) (at : ℕ) (r : Result FileRecord ReaderFault) (rs : Records) (e : RosterEntry) (f : SettlementFault) → as_resource (length roster) r ≡ Ok (Some e) → enrolled roster e ≡ Err f → roster_from roster at (r ∷ rs) ≡ Err (settlement_fault f at)
unfolding roster_from
from_refused roster at r rs e f h g = rw (h, roster_from) (rw g)

from_more : (roster more : List RosterEntry) (at : ℕ) (r : Result FileRecord ReaderFault) (rs : Records) (e : RosterEntry) → as_resource (length roster) r ≡ Ok (Some e) → enrolled roster e ≡ Ok more → roster_from roster at (r ∷ rs) ≡ roster_from more (at + 16) rs
unfolding roster_from
from_more roster more at r rs e h g = rw (h, roster_from) (rw g)

from_end : (roster : List RosterEntry) (at : ℕ) → roster_from roster at [] ≡ Ok (record { roster = roster; offset = at; rest = [] })
unfolding roster_from
from_end roster at = refl

module _ (roster : List RosterEntry) (bs : List ℕ) (at : ℕ) where
  pub roster_end : length bs ≤ at → roster_from roster at (records_of (drop at bs)) ≡ Ok (record { roster = roster; offset = at; rest = records_of (drop at bs) })
  roster_end h = let e = records_none bs at h in rw e (from_end roster at)

  -- the record read at an offset of the file
  module _ (r : Result (Option RosterEntry) ReaderFault) (lt : at < length bs) (is : r ≡ as_resource (length roster) (record_of (take (length bs - at) (drop at bs)))) where
    read : r ≡ as_resource (length roster) (record_of (drop at bs))
    read = is ∙ ap (λ xs. as_resource (length roster) (record_of xs)) (take_rest bs at)

    pub roster_reader : (f : ReaderFault) → r ≡ Err f → roster_from roster at (records_of (drop at bs)) ≡ Err (reader_fault f at)
    roster_reader f h = ap (roster_from roster at) (records_at bs at lt) ∙ from_reader roster at _ _ f (sym read ∙ h)

    pub roster_days : r ≡ Ok None → roster_from roster at (records_of (drop at bs)) ≡ Ok (record { roster = roster; offset = at; rest = records_of (drop at bs) })
    roster_days h =
        let q = records_at bs at lt in
        ap (roster_from roster at) q ∙ from_days roster at _ _ (sym read ∙ h) ∙ ap (λ (x : Records). Ok (record { roster = roster; offset = at; rest = x })) (sym q)

    pub roster_refused : (e : RosterEntry) (f : SettlementFault) → r ≡ Ok (Some e) → enrolled roster e ≡ Err f → roster_from roster at (records_of (drop at bs)) ≡ Err (settlement_fault f at)
    roster_refused e f h g = ap (roster_from roster at) (records_at bs at lt) ∙ from_refused roster at _ _ e f (sym read ∙ h) g

    pub roster_more : (e : RosterEntry) (more : List RosterEntry) → r ≡ Ok (Some e) → enrolled roster e ≡ Ok more → at ≡ days_offset roster
        → (at + 16 ≡ days_offset more) × (roster_from roster at (records_of (drop at bs)) ≡ roster_from more (at + 16) (records_of (drop (at + 16) bs)))
    roster_more e more h g place = (
      omega (arith, enrolled_length roster more e g),
      ap (roster_from roster at) (records_at bs at lt)
          ∙ from_more roster more at _ _ e (sym read ∙ h) g
          ∙ ap (roster_from more (at + 16)) (rest_resource (drop at bs) (length roster) (record_of (drop at bs)) e (sym read ∙ h) ∙ ap records_of (drop-drop 16 at bs)),
    )
