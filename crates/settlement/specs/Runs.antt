-- Runs of a settlement from its start. Each has a history: what its taken calls got, and what they gave back.
use Rattle.std.specs.Prelude.{◌≡◌, ℕ, List, [], ◌∷◌, Some, None, Ok, Err, Option, Result}
use Rattle.assessment.specs.Days.{Rules}
use Rattle.assessment.specs.Figures.{DayFigures, DayRow}
use Rattle.fund.specs.Meaning.{FundMeaning}
use Rattle.pools.specs.declared.per_pool.PerPool.{PerPool}
use Rattle.pools.specs.declared.pool.Pool.{Pool}
use Rattle.settlement.specs.Views.{View}
use Rattle.settlement.specs.Opening.{started, Opens}
use Rattle.settlement.specs.Recording.{Records}
use Rattle.settlement.specs.Closing.{Closes}
use Rattle.settlement.specs.Releasing.{Releases}
use Rattle.settlement.specs.declared.fault.SettlementFault.{SettlementFault}
use Rattle.settlement.specs.declared.tables.RosterEntry.{RosterEntry}
use Rattle.settlement.specs.declared.tables.MonthTerms.{MonthTerms}
use Rattle.settlement.specs.declared.tables.LineEntry.{LineEntry}
use Rattle.settlement.specs.declared.tables.LoadEntry.{LoadEntry}
use Rattle.settlement.specs.declared.tables.SubmittedDay.{SubmittedDay}
use Rattle.settlement.specs.declared.tables.PoolClose.{PoolClose}

-- a month from its taken open on: what the open was handed, and the days recorded since, as they were handed in, the latest first
pub record MonthRun : Type 0 where
  pub terms : MonthTerms
  pub roster : List RosterEntry
  pub records : List SubmittedDay

-- a closed month: the shown balances looked up before its close, and what the close returned
pub record MonthClosed : Type 0 where
  pub month : MonthRun
  pub before : Pool → ℕ
  pub pools : PerPool PoolClose
  pub lines : List LineEntry

-- what happened to the fund: a month was closed, or shares were released, by the entries as they were returned
pub data Event : Type 0 where
  month_closed : MonthClosed → Event
  fund_released : List LoadEntry → Event

-- the open month, and how the day table stood after the latest call that was taken
pub record OpenRun : Type 0 where
  pub month : MonthRun
  pub rows : List DayRow

-- the binding balances looked up in the book that the start was handed; the events since, the latest first; and the open month if there is one
pub record History : Type 0 where
  pub opening : Pool → ℕ
  pub past : List Event
  pub current : Option OpenRun

-- where a run starts
abbrev pub no_history : (Pool → ℕ) → History
no_history opening = record { opening = opening; past = []; current = None }

-- a call was handed the open month's roster, and the day table as it stood after the latest taken call
abbrev pub Handed : Option OpenRun → List RosterEntry → List DayRow → Type 0
Handed None roster rows = ⊥
Handed (Some o) roster rows = (roster ≡ o.month.roster) × (rows ≡ o.rows)

-- How a taken call adds to the history; a refused one leaves it alone. An open begins a month.
abbrev pub after_open : History → MonthTerms → List RosterEntry → Result (Unit {0}) SettlementFault → List DayRow → History
after_open h t roster (Ok x) rows' = record {
  opening = h.opening;
  past = h.past;
  current = Some (record { month = record { terms = t; roster = roster; records = [] }; rows = rows' });
}
after_open h t roster (Err e) rows' = h

-- one record more in the open month
abbrev pub noted : Option OpenRun → SubmittedDay → List DayRow → Option OpenRun
noted None d rows' = None
noted (Some o) d rows' = Some (record {
  month = record { terms = o.month.terms; roster = o.month.roster; records = d ∷ o.month.records };
  rows = rows';
})

-- a record joins the open month
abbrev pub after_record : History → SubmittedDay → Result DayFigures SettlementFault → List DayRow → History
after_record h d (Ok f) rows' = record { opening = h.opening; past = h.past; current = noted h.current d rows' }
after_record h d (Err e) rows' = h

-- the open month, closed, before the earlier events
abbrev pub with_closed : Option OpenRun → (Pool → ℕ) → PerPool PoolClose → List LineEntry → List Event → List Event
with_closed None before a lines es = es
with_closed (Some o) before a lines es = month_closed (record { month = o.month; before = before; pools = a; lines = lines }) ∷ es

-- a close turns the open month into an event
abbrev pub after_close : History → (Pool → ℕ) → Result (PerPool PoolClose) SettlementFault → List LineEntry → History
after_close h before (Ok a) lines' = record { opening = h.opening; past = with_closed h.current before a lines' h.past; current = None }
after_close h before (Err e) lines' = h

-- a release is an event
abbrev pub after_release : History → Result (Unit {0}) SettlementFault → List LoadEntry → History
after_release h (Ok x) es' = record { opening = h.opening; past = fund_released es' ∷ h.past; current = h.current }
after_release h (Err e) es' = h

-- a taken call is one of the run only if it got the tables as they were left; a refused one always is
abbrev pub HandedIfTaken : {A : Type 0} → Option OpenRun → List RosterEntry → List DayRow → Result A SettlementFault → Type 0
HandedIfTaken o roster rows (Ok a) = Handed o roster rows
HandedIfTaken o roster rows (Err e) = Unit {0}

-- A run over a book of this meaning and under these rules: a start, then the other four calls in whatever order and number,
-- taken or refused. A lookup changes nothing, so a run does not name it.
pub data Run {S : Type 0} (m : FundMeaning S) (sound : S → Type 0) (r : Rules) : History → View S → Type 0 where
  starts : (s : S) → sound s → Run m sound r (no_history (m.binding s)) (started m s)
  opens : {h : History} {v w : View S} (t : MonthTerms) (roster : List RosterEntry) (rows rows' : List DayRow) (a : Result (Unit {0}) SettlementFault)
      → Run m sound r h v → Opens m v t roster rows a w rows' → Run m sound r (after_open h t roster a rows') w
  records : {h : History} {v : View S} (roster : List RosterEntry) (rows rows' : List DayRow) (d : SubmittedDay) (a : Result DayFigures SettlementFault)
      → Run m sound r h v → HandedIfTaken h.current roster rows a → Records r v.phase roster rows d.at d.submission a rows' → Run m sound r (after_record h d a rows') v
  closes : {h : History} {v w : View S} (roster : List RosterEntry) (rows : List DayRow) (lines lines' : List LineEntry) (a : Result (PerPool PoolClose) SettlementFault)
      → Run m sound r h v → HandedIfTaken h.current roster rows a → Closes m r v roster rows lines a w lines' → Run m sound r (after_close h (m.shown v.book) a lines') w
  releases : {h : History} {v w : View S} (es es' : List LoadEntry) (a : Result (Unit {0}) SettlementFault)
      → Run m sound r h v → Releases m v es a w es' → Run m sound r (after_release h a es') w

-- What each call promises: a run up to its entry goes on to its exit, taken or refused.
module _ {S : Type 0} (m : FundMeaning S) (sound : S → Type 0) where
  -- an open, whatever tables it was handed
  abbrev pub OpenGoesOn : Rules → View S → MonthTerms → List RosterEntry → Result (Unit {0}) SettlementFault → Rules → View S → List DayRow → Type 0
  OpenGoesOn r v t roster a r' w rows' = (h : History) → Run m sound r h v → Run m sound r' (after_open h t roster a rows') w

  -- a record; a taken one only if it got roster and day table as they were left
  abbrev pub RecordGoesOn : Rules → View S → List RosterEntry → List DayRow → SubmittedDay → Result DayFigures SettlementFault → List DayRow → Type 0
  RecordGoesOn r v roster rows d a rows' =
      (h : History) → Run m sound r h v → HandedIfTaken h.current roster rows a → Run m sound r (after_record h d a rows') v

  -- a close, likewise
  abbrev pub CloseGoesOn : Rules → View S → List RosterEntry → List DayRow → Result (PerPool PoolClose) SettlementFault → Rules → View S → List LineEntry → Type 0
  CloseGoesOn r v roster rows a r' w lines' =
      (h : History) → Run m sound r h v → HandedIfTaken h.current roster rows a → Run m sound r' (after_close h (m.shown v.book) a lines') w

  -- a release
  abbrev pub ReleaseGoesOn : Rules → View S → Result (Unit {0}) SettlementFault → Rules → View S → List LoadEntry → Type 0
  ReleaseGoesOn r v a r' w es' = (h : History) → Run m sound r h v → Run m sound r' (after_release h a es') w
