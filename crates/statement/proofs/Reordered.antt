-- Days come in any order.
use Rattle.std.proofs.Common.{◌≡◌, ℕ, ◌+◌, ◌*◌, ◌<◌, Bool, eqb, ◌≢◌, List, [], ◌∷◌, ◌++◌, length, get_or, set, Some, None, Ok, Err, Result, sym, refl, ap, ◌∙◌, subst, arith, length-set}
use lib.ListN.{length-replicate}
use Rattle.std.proofs.lemmas.List.{get_or-set_same, get_or-set_other, set_comm}
use Rattle.assessment.proofs.LineLaws.{days_few}
use Rattle.assessment.specs.Figures.{DayRow}
use Rattle.settlement.specs.Recording.{place_of, figures_of, MayTakeDay}
use Rattle.settlement.specs.Tables.{DaysFit, RosterFits}
use Rattle.settlement.specs.Views.{open_at}
use Rattle.settlement.specs.declared.tables.MonthTerms.{MonthTerms}
use Rattle.settlement.specs.declared.tables.RosterEntry.{RosterEntry}
use Rattle.statement.specs.Answers.{and_then}
use Rattle.statement.specs.Files.{Records, RosterPart, roster_from}
use Rattle.statement.specs.Laws.{DaysInAnyOrder}
use Rattle.statement.specs.Settling.{MonthStatement, DaysPart, shipped_rules, recorded, days_from, no_days, closed_month, opens, told_at, settled_from, settled_records}
use Rattle.statement.specs.declared.fault.Located.{Located}
use Rattle.statement.specs.declared.fault.StatementFault.{StatementFault}
use Rattle.statement.specs.declared.records.FileRecord.TheVariants.{Month, Resource, Day}
use Rattle.settlement.specs.declared.tables.SubmittedDay.{SubmittedDay}
use Rattle.statement.proofs.Answering.{parts, same_ok}
use Rattle.statement.proofs.Accounted.{recorded_taken, after_day, day_first, numbered, entered, listing, listed_first, listed_fits}
use Rattle.statement.proofs.Recorded.{recorded_is}

module _ (t : MonthTerms) (roster : List RosterEntry) where
  abbrev row_of : SubmittedDay → DayRow
  row_of d = Some (figures_of shipped_rules (open_at t.month t.price) roster d.at d.submission)

  abbrev MayTake : List DayRow → SubmittedDay → Type 0
  MayTake rows d = MayTakeDay (open_at t.month t.price) roster rows d.at d.submission

  -- a day that may be taken is recorded in its place
  placed : (rows : List DayRow) (d : SubmittedDay) → MayTake rows d → recorded t roster rows d ≡ Ok (set rows (place_of d.at) (row_of d))
  placed rows d k = recorded_is t roster rows (set rows (place_of d.at) (row_of d)) d (Ok (figures_of shipped_rules (open_at t.month t.price) roster d.at d.submission)) k.fits (k, refl, refl)

  still_fit : (rows : List DayRow) (i : ℕ) (x : DayRow) → DaysFit roster rows → DaysFit roster (set rows i x)
  still_fit rows i x fit = (fit.0, length-set rows i x ∙ fit.1)

  -- a day that is taken after another has another place
  inside : (rows : List DayRow) (d : SubmittedDay) → MayTake rows d → place_of d.at < length rows
  inside rows d k = omega (arith, k.known, k.dated.0, k.dated.1, days_few t.month.year t.month.month, k.fits.1)

  apart : (rows : List DayRow) (c d : SubmittedDay) → MayTake rows c → MayTake (set rows (place_of c.at) (row_of c)) d → place_of d.at ≢ place_of c.at
  apart rows c d k l e =
      let is = get_or-set_same rows (place_of c.at) (row_of c) None (inside rows c k) in
      let free = subst (λ (i : ℕ). get_or (set rows (place_of c.at) (row_of c)) i None ≡ None) e l.free in
      let z : ◌≡◌ {A = ℕ} 0 1 = cc in
      omega arith

  exchanged : (rows : List DayRow) (c d : SubmittedDay) → MayTake rows c → MayTake (set rows (place_of c.at) (row_of c)) d
      → (MayTake rows d) × (MayTake (set rows (place_of d.at) (row_of d)) c) × (set (set rows (place_of c.at) (row_of c)) (place_of d.at) (row_of d) ≡ set (set rows (place_of d.at) (row_of d)) (place_of c.at) (row_of c))
  exchanged rows c d k l =
      let ne = apart rows c d k l in
      let en : place_of c.at ≢ place_of d.at = λ e. ne (sym e) in (
        record {
          fits = k.fits;
          in_turn = tt;
          known = l.known;
          dated = l.dated;
          free = sym (get_or-set_other rows (place_of c.at) (place_of d.at) (row_of c) None ne) ∙ l.free;
          within = l.within;
          allowed = l.allowed;
        },
        record {
          fits = still_fit rows _ _ k.fits;
          in_turn = tt;
          known = k.known;
          dated = k.dated;
          free = get_or-set_other rows (place_of d.at) (place_of c.at) (row_of d) None en ∙ k.free;
          within = k.within;
          allowed = k.allowed;
        },
        set_comm rows (place_of c.at) (place_of d.at) (row_of c) (row_of d) en,
      )

  -- the days from one on
  go_on : (at : ℕ) (rs : Records) (rows more : List DayRow) (d : SubmittedDay) (days : DaysPart) → recorded t roster rows d ≡ Ok more → days_from t roster more (at + 412) rs ≡ Ok days → days_from t roster rows at (Ok (Day d) ∷ rs) ≡ Ok days
  unfolding days_from
  go_on at rs rows more d days e h = ap (after_day t roster at rs) e ∙ h

  go_back : (at : ℕ) (rs : Records) (rows : List DayRow) (d : SubmittedDay) (days : DaysPart) → DaysFit roster rows → days_from t roster rows at (Ok (Day d) ∷ rs) ≡ Ok days
      → MayTake rows d × (days_from t roster (set rows (place_of d.at) (row_of d)) (at + 412) rs ≡ Ok days)
  unfolding days_from
  go_back at rs rows d days fit h =
      let a = day_first t roster at rs days (recorded t roster rows d) h in
      let k = recorded_taken t roster rows a.0 d fit a.1.0 in
      (k.0, subst (λ (x : List DayRow). days_from t roster x (at + 412) rs ≡ Ok days) k.2 a.1.1)

  days_swap : (zs ys : Records) (c d : SubmittedDay) (at : ℕ) (days : DaysPart) (rows : List DayRow) → DaysFit roster rows
      → days_from t roster rows at (zs ++ Ok (Day c) ∷ Ok (Day d) ∷ ys) ≡ Ok days → days_from t roster rows at (zs ++ Ok (Day d) ∷ Ok (Day c) ∷ ys) ≡ Ok days
  unfolding days_from
  days_swap [] ys c d at days rows fit h =
      let a = go_back at (Ok (Day d) ∷ ys) rows c days fit h in
      let b = go_back (at + 412) ys (set rows (place_of c.at) (row_of c)) d days (still_fit rows _ _ fit) a.1 in
      let x = exchanged rows c d a.0 b.0 in
      go_on at (Ok (Day c) ∷ ys) rows (set rows (place_of d.at) (row_of d)) d days (placed rows d x.0)
      (go_on (at + 412) ys (set rows (place_of d.at) (row_of d)) (set (set rows (place_of d.at) (row_of d)) (place_of c.at) (row_of c)) c days (placed _ c x.1)
      (subst (λ (r : List DayRow). days_from t roster r (at + 412 + 412) ys ≡ Ok days) x.2 b.1))
  days_swap (Ok (Day x) ∷ zs) ys c d at days rows fit h =
      let a = go_back at (zs ++ Ok (Day c) ∷ Ok (Day d) ∷ ys) rows x days fit h in
      go_on at (zs ++ Ok (Day d) ∷ Ok (Day c) ∷ ys) rows (set rows (place_of x.at) (row_of x)) x days (placed rows x a.0)
      (days_swap zs ys c d (at + 412) days (set rows (place_of x.at) (row_of x)) (still_fit rows _ _ fit) a.1)
  days_swap (Err f ∷ zs) ys c d at days rows fit h = cc
  days_swap (Ok (Month m) ∷ zs) ys c d at days rows fit h = cc
  days_swap (Ok (Resource x) ∷ zs) ys c d at days rows fit h = cc

-- The resources are the same, and after them the same days are exchanged.
pub record Exchanged (roster : List RosterEntry) (at : ℕ) (xs ys : Records) (c d : SubmittedDay) (part : RosterPart) : Type 0 where
  pub between : Records
  pub rest : part.rest ≡ between ++ Ok (Day c) ∷ Ok (Day d) ∷ ys
  pub listed : roster_from roster at (xs ++ Ok (Day d) ∷ Ok (Day c) ∷ ys) ≡ Ok (record { roster = part.roster; offset = part.offset; rest = between ++ Ok (Day d) ∷ Ok (Day c) ∷ ys })

roster_swap : (xs ys : Records) (c d : SubmittedDay) (roster : List RosterEntry) (at : ℕ) (part : RosterPart) → roster_from roster at (xs ++ Ok (Day c) ∷ Ok (Day d) ∷ ys) ≡ Ok part → Exchanged roster at xs ys c d part
unfolding roster_from
roster_swap [] ys c d roster at part h = subst (Exchanged roster at [] ys c d) (same_ok _ part h) (record { between = []; rest = refl; listed = refl })
roster_swap (Ok (Day x) ∷ xs) ys c d roster at part h = subst (Exchanged roster at (Ok (Day x) ∷ xs) ys c d) (same_ok _ part h) (record { between = Ok (Day x) ∷ xs; rest = refl; listed = refl })
roster_swap (Ok (Resource x) ∷ xs) ys c d roster at part h =
    let a = listed_first roster at (Ok (Resource x) ∷ xs ++ Ok (Day c) ∷ Ok (Day d) ∷ ys) (xs ++ Ok (Day c) ∷ Ok (Day d) ∷ ys) part x.entry (eqb x.number (length roster)) h in
    let k = roster_swap xs ys c d a.1.0 (at + 16) part a.1.1.1 in
    record {
      between = k.between;
      rest = k.rest;
      listed =
          ap (λ (b : Bool). listing roster at (Ok (Resource x) ∷ xs ++ Ok (Day d) ∷ Ok (Day c) ∷ ys) (xs ++ Ok (Day d) ∷ Ok (Day c) ∷ ys) (numbered b x.entry)) a.0
          ∙ ap (entered at (xs ++ Ok (Day d) ∷ Ok (Day c) ∷ ys)) a.1.1.0 ∙ k.listed;
    }
roster_swap (Err f ∷ xs) ys c d roster at part h = cc
roster_swap (Ok (Month m) ∷ xs) ys c d roster at part h = cc

-- what comes after the resources
part_swap : (t : MonthTerms) (part : RosterPart) (zs ys : Records) (c d : SubmittedDay) (s : MonthStatement) → RosterFits part.roster → part.rest ≡ zs ++ Ok (Day c) ∷ Ok (Day d) ∷ ys
    → settled_from t part ≡ Ok s → settled_from t (record { roster = part.roster; offset = part.offset; rest = zs ++ Ok (Day d) ∷ Ok (Day c) ∷ ys }) ≡ Ok s
unfolding settled_from
part_swap t part zs ys c d s fits e h =
    let a = parts (told_at 0 (opens t)) _ s h in
    let b = parts (days_from t part.roster (no_days part.roster) part.offset part.rest) _ s a.1.1 in
    let dated = subst (λ (x : Records). days_from t part.roster (no_days part.roster) part.offset x ≡ Ok b.0) e b.1.0 in
    let fit : DaysFit part.roster (no_days part.roster) = (fits, length-replicate (31 * length part.roster) None) in
    let swapped = days_swap t part.roster zs ys c d part.offset b.0 (no_days part.roster) fit dated in
    ap (λ (x : Result (Unit {0}) (Located StatementFault)). and_then x (λ _. and_then (days_from t part.roster (no_days part.roster) part.offset (zs ++ Ok (Day d) ∷ Ok (Day c) ∷ ys)) (λ days. told_at days.offset (closed_month t part.roster days.rows)))) a.1.0
    ∙ ap (λ (x : Result DaysPart (Located StatementFault)). and_then x (λ days. told_at days.offset (closed_month t part.roster days.rows))) swapped
    ∙ b.1.1

pub days_in_any_order : DaysInAnyOrder
unfolding settled_records
days_in_any_order [] ys c d s h = cc
days_in_any_order (Err f ∷ xs) ys c d s h = cc
days_in_any_order (Ok (Resource x) ∷ xs) ys c d s h = cc
days_in_any_order (Ok (Day x) ∷ xs) ys c d s h = cc
days_in_any_order (Ok (Month t) ∷ xs) ys c d s h =
    let a = parts (roster_from [] 36 (xs ++ Ok (Day c) ∷ Ok (Day d) ∷ ys)) (settled_from t) s h in
    let k = roster_swap xs ys c d [] 36 a.0 a.1.0 in
    let fits = listed_fits 36 (xs ++ Ok (Day c) ∷ Ok (Day d) ∷ ys) a.0 [] (omega arith, λ i l. omega arith) a.1.0 in
    ap (λ (x : Result RosterPart (Located StatementFault)). and_then x (settled_from t)) k.listed ∙ part_swap t a.0 k.between ys c d s fits k.rest a.1.1
