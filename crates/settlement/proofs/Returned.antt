-- The two pools' lines can be read back from the line table that a close returned.
use Rattle.std.proofs.Common.{◌≡◌, ℕ, ◌+◌, ◌*◌, ◌/◌, ◌%◌, ◌<◌, List, length, get_or, sym, refl, ◌∙◌, arith}
use Rattle.std.proofs.lemmas.List.FromFn.{length-map-range_with_len, get_or-map-range_with_len, fill_by_all}
use Rattle.pools.specs.declared.pool.Pool.{Pool}
use Rattle.pools.specs.declared.pool.Pool.TheVariants.{Generic, Flexible}
use Rattle.settlement.specs.Closing.{no_line, line_place, line_table}
use Rattle.settlement.specs.Runs.{MonthClosed}
use Rattle.settlement.specs.Accounts.{pool_place, returned_lines}
use Rattle.settlement.specs.declared.tables.LineEntry.{LineEntry}
use Rattle.settlement.proofs.BothPools.{side_small}

place_holds : (ls : Pool → List LineEntry) (p : Pool) (i : ℕ) → line_place (ls Generic) (ls Flexible) (2 * i + pool_place p) ≡ get_or (ls p) i no_line
place_holds ls Generic i =
    let even : (2 * i + 0) % 2 ≡ 0 = omega arith in
    let half : (2 * i + 0) / 2 ≡ i = omega arith in
    rw (even, half) refl
place_holds ls Flexible i =
    let odd : (2 * i + 1) % 2 ≡ 1 = omega arith in
    let half : (2 * i + 1) / 2 ≡ i = omega arith in
    rw (odd, half) refl

table_holds : (ls : Pool → List LineEntry) (n : ℕ) (p : Pool) (i : ℕ) → i < n → get_or (line_table (ls Generic) (ls Flexible) n) (2 * i + pool_place p) no_line ≡ get_or (ls p) i no_line
unfolding line_table
table_holds ls n p i lt =
    get_or-map-range_with_len (line_place (ls Generic) (ls Flexible)) 0 (2 * n) (2 * i + pool_place p) (2 * i + pool_place p) no_line (omega (arith, side_small p)) (omega arith) ∙ place_holds ls p i

pub returned : (c : MonthClosed) (ls : Pool → List LineEntry) → ((p : Pool) → length (ls p) ≡ length c.month.roster) → c.lines ≡ line_table (ls Generic) (ls Flexible) (length c.month.roster) → (p : Pool) → returned_lines c p ≡ ls p
unfolding returned_lines
returned c ls long e p =
    let n = length c.month.roster in
    rw e (sym (fill_by_all (λ i. get_or (line_table (ls Generic) (ls Flexible) n) (2 * i + pool_place p) no_line) (ls p) n no_line (long p) (λ k lt. sym (table_holds ls n p k lt))))

pub length_table : (gs fs : List LineEntry) (n : ℕ) → length (line_table gs fs n) ≡ 2 * n
unfolding line_table
length_table gs fs n = length-map-range_with_len (line_place gs fs) 0 (2 * n)
