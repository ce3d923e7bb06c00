-- The lines of a month, from each resource's part of the day table.
use Rattle.std.proofs.Common.{◌≡◌, ℕ, ◌+◌, ◌*◌, ◌<◌, ◌≤◌, List, [], ◌∷◌, ◌++◌, zero, suc, true, cond, ltb, map, length, get_or, take, drop, None, refl, sym, ap, ◌∙◌, subst, arith, length-drop, length-take, get_or-drop, get_or-take}
use Rattle.std.proofs.lemmas.Bool.{lt-ltb}
use Rattle.std.proofs.lemmas.List.{drop_more, drop-drop, take_at, drop_at}
use Rattle.std.proofs.lemmas.List.FromFn.{length-map-range_with_len, get_or-map-range_with_len, map-range_with_len_more}
use Rattle.std.specs.List.{range_with_len}
use Rattle.arrayvec.specs.ArrayVec.{ArrayVec}
use Rattle.assessment.proofs.LineLaws.{lines_law}
use Rattle.assessment.specs.Days.{Rules}
use Rattle.assessment.specs.Laws.{LineLaw}
use Rattle.assessment.specs.declared.trade_month.TradeMonth.{TradeMonth}
use Rattle.pools.specs.declared.pool.Pool.{Pool}
use Rattle.pools.specs.declared.pool.Pool.TheVariants.{Generic, Flexible}
use Rattle.assessment.specs.Lines.{RowWithin, RowsWithin}
use Rattle.assessment.specs.Figures.{DayRow}
use Rattle.pools.specs.PerPool.{entry_of, with_entry}
use Rattle.pools.specs.declared.per_pool.PerPool.{PerPool}
use Rattle.settlement.specs.Closing.{no_line, charged_entry, charged_entries, line_at, QuantitiesWithin}
use Rattle.settlement.specs.Accounts.{pool_place}
use Rattle.settlement.specs.Tables.{nobody, category_of, places_of, DaysFit, EachRowWithin}
use Rattle.settlement.proofs.BothPools.{pools, side_small}
use Rattle.settlement.specs.declared.tables.RosterEntry.{RosterEntry}
use Rattle.settlement.specs.declared.tables.LineEntry.{LineEntry}

-- each resource has its 31 places, within their limits
pub places_within : (rows : List DayRow) (n i : ℕ) → length rows ≡ 31 * n → i < n → EachRowWithin rows → RowsWithin (places_of rows i)
places_within rows n i len lt each =
    let short : length (places_of rows i) ≡ 31 = simp (length-take, length-drop) (omega arith) in
    (short, λ k h. let at = get_or-take 31 (drop (31 * i) rows) k None h ∙ get_or-drop (31 * i) rows k None in subst RowWithin (sym at) (each (31 * i + k) (omega arith)))

-- the next resource, as the roster is taken from its front
pub next_resource : (roster rest : List RosterEntry) (n : ℕ) (e : RosterEntry) → drop n roster ≡ e ∷ rest → (n < length roster) × (e.category ≡ category_of roster n) × (rest ≡ drop (n + 1) roster)
next_resource roster rest n e is =
    let lt : n < length roster = omega (arith, ap length is, length-drop n roster) in
    let at = sym is ∙ drop_more roster n nobody lt in
    (lt, ap (λ (xs : List RosterEntry). (get_or xs 0 nobody).category) at, ap (drop 1) at)

-- and its 31 places, as the day table is taken likewise
pub next_places : (rows rest xs : List DayRow) (n : ℕ) → length xs ≡ 31 → drop (31 * n) rows ≡ xs ++ rest → (xs ≡ places_of rows n) × (rest ≡ drop (31 * (n + 1)) rows)
next_places rows rest xs n long is =
    (sym (take_at xs rest 31 long) ∙ ap (take 31) (sym is), sym (drop_at xs rest 31 long) ∙ ap (drop 31) (sym is) ∙ drop-drop 31 (31 * n) rows ∙ ap (λ k. drop k rows) (omega arith))

-- the table of p after the pushes of the first j pools
abbrev pub pushed : ℕ → Pool → List LineEntry → LineEntry → List LineEntry
pushed j p es x = cond (ltb (pool_place p) j) (es ++ x ∷ []) es

-- the j-th pool's table is still as it was
pub not_pushed : (j : ℕ) → j < 2 → (es : List LineEntry) (x : LineEntry) → pushed j (get_or pools j Generic) es x ≡ es
not_pushed zero lt es x = refl
not_pushed (suc zero) lt es x = refl
not_pushed (suc (suc j)) lt es x = absurd (omega arith)

-- and its push leaves the other's
pub pushed_more : (j : ℕ) → j < 2 → (t : PerPool (ArrayVec LineEntry)) (w : ArrayVec LineEntry) (es : Pool → List LineEntry) (x : Pool → LineEntry) → ((p : Pool) → (entry_of t p).items ≡ pushed j p (es p) (x p))
    → w.items ≡ (entry_of t (get_or pools j Generic)).items ++ x (get_or pools j Generic) ∷ [] → (p : Pool) → (entry_of (with_entry t (get_or pools j Generic) w) p).items ≡ pushed (j + 1) p (es p) (x p)
pushed_more zero lt t w es x h e Generic = e ∙ rw (h Generic) refl
pushed_more zero lt t w es x h e Flexible = h Flexible
pushed_more (suc zero) lt t w es x h e Generic = h Generic
pushed_more (suc zero) lt t w es x h e Flexible = e ∙ rw (h Flexible) refl
pushed_more (suc (suc j)) lt t w es x h e p = absurd (omega arith)

-- a line more in each pool's table, once both are pushed
pub lines_more : (f : Pool → ℕ → LineEntry) (t u : PerPool (ArrayVec LineEntry)) (i j : ℕ) → j ≡ 2 → ((p : Pool) → (entry_of t p).items ≡ map (f p) (range_with_len 0 i)) → ((p : Pool) → (entry_of u p).items ≡ pushed j p (entry_of t p).items (f p i))
    → (p : Pool) → (entry_of u p).items ≡ map (f p) (range_with_len 0 (i + 1))
lines_more f t u i j e h k p =
    let both : ltb (pool_place p) j ≡ true = lt-ltb (pool_place p) j (omega (arith, side_small p)) in
    k p ∙ rw (both, h p) (sym (map-range_with_len_more (f p) 0 i i (omega arith)))

pub count : (f : ℕ → LineEntry) (n : ℕ) (xs : List LineEntry) → xs ≡ map f (range_with_len 0 n) → length xs ≡ n
count f n xs e = ap length e ∙ length-map-range_with_len f 0 n

-- and each line keeps the law of a line
pub line_law : (r : Rules) (m : TradeMonth) (roster : List RosterEntry) (rows : List DayRow) (p : Pool) (i : ℕ) → DaysFit roster rows → EachRowWithin rows → i < length roster → LineLaw (line_at r m roster rows p i)
line_law r m roster rows Generic i fit each lt = (lines_law r m (category_of roster i) (places_of rows i) (places_within rows (length roster) i fit.1 lt each)).generic
line_law r m roster rows Flexible i fit each lt = (lines_law r m (category_of roster i) (places_of rows i) (places_within rows (length roster) i fit.1 lt each)).flexible

pub charged_small : (r : Rules) (m : TradeMonth) (price : ℕ) (roster : List RosterEntry) (rows : List DayRow) (p : Pool) (es : List LineEntry) → DaysFit roster rows → EachRowWithin rows → es ≡ charged_entries r m price roster rows p → QuantitiesWithin es
unfolding charged_entries
charged_small r m price roster rows p es fit each e k lt =
    let n = length roster in
    let f : ℕ → LineEntry = λ i. charged_entry price (line_at r m roster rows p i) in
    let short : k < n = omega (arith, ap length e, length-map-range_with_len f 0 n) in
    let at = ap (λ xs. get_or xs k no_line) e ∙ get_or-map-range_with_len f 0 n k k no_line short (omega arith) in
    subst (λ (x : LineEntry). x.line.quantity ≤ 58590000000) (sym at) (line_law r m roster rows p k fit each short).small
