-- The words that bytes begin with, and what is cut into fours.
use Rattle.std.proofs.Common.{◌≡◌, ℕ, zero, suc, ◌+◌, ◌*◌, ◌<◌, List, take, drop, get_or, refl, ap, ◌∙◌, arith, rules}
use Rattle.std.proofs.lemmas.List.{get_or-drop, get_or-take, drop-drop}
use Rattle.std.proofs.lemmas.List.FromFn.{fill_by_all, get_or-map-range_with_len, length-map-range_with_len}
use Rattle.std.specs.Simd.{first_chunks}
use Rattle.statement.specs.Layout.{word_at, hour_at, hours_at, words_of, hour_told, hours_told}

-- one of the fours, by its place
pub four_at : (k i : ℕ) (xs d : List ℕ) → i < k → get_or (first_chunks 4 k xs) i d ≡ take 4 (drop (4 * i) xs)
four_at zero i xs d lt = absurd (omega arith)
four_at (suc k) zero xs d lt = search rules
four_at (suc k) (suc i) xs d lt =
    four_at k i (drop 4 xs) d (omega arith) ∙ ap (take 4) (drop-drop (4 * i) 4 xs ∙ ap (λ m. drop m xs) (omega arith))

-- an element, by the four that it stands in
pub in_four : (k i j : ℕ) (xs d : List ℕ) → i < k → j < 4 → get_or (get_or (first_chunks 4 k xs) i d) j 0 ≡ get_or xs (4 * i + j) 0
in_four k i j xs d lt in_it = rw (four_at k i xs d lt) (get_or-take 4 _ j 0 in_it ∙ get_or-drop (4 * i) xs j 0)

byte_behind : (bs : List ℕ) (at k j : ℕ) → at + k ≡ j → get_or (drop at bs) k 0 ≡ get_or bs j 0
byte_behind bs at k j e = get_or-drop at bs k 0 ∙ ap (λ i. get_or bs i 0) e

word_behind : (bs : List ℕ) (at k j : ℕ) → at + k ≡ j → word_at (drop at bs) k ≡ word_at bs j
word_behind bs at k j e = grind (arith, byte_behind)

-- a word of those of hour h, by its byte
word_in : (bs : List ℕ) (at h : ℕ) → h < 24 → (i j : ℕ) → i < 4 → at + 16 * h + 4 * i ≡ j → get_or (take 4 (drop (4 * h) (words_of 96 (drop at bs)))) i 0 ≡ word_at bs j
unfolding words_of
word_in bs at h lt i j in_it e =
    get_or-take 4 _ i 0 in_it ∙ get_or-drop (4 * h) (words_of 96 (drop at bs)) i 0 ∙
    get_or-map-range_with_len (λ k. word_at (drop at bs) (4 * k)) 0 96 (4 * h + i) (4 * h + i) 0 (omega arith) (omega arith) ∙ word_behind bs at (4 * (4 * h + i)) j (omega arith)

-- the hours of a day, read as words
hour_same : (bs : List ℕ) (at h : ℕ) → h < 24 → hour_told (words_of 96 (drop at bs)) h ≡ hour_at bs (at + 16 * h)
hour_same bs at h lt =
    let word = word_in bs at h lt in
    rw (
      word 0 (at + 16 * h) (omega arith) (omega arith),
      word 1 (at + 16 * h + 4) (omega arith) (omega arith),
      word 2 (at + 16 * h + 8) (omega arith) (omega arith),
      word 3 (at + 16 * h + 12) (omega arith) (omega arith),
    ) refl

pub hours_read : (bs : List ℕ) (at : ℕ) → hours_told (words_of 96 (drop at bs)) ≡ hours_at bs at
unfolding hours_told hours_at
hours_read bs at =
    let told = hour_told (words_of 96 (drop at bs)) in
    fill_by_all (λ h. hour_at bs (at + 16 * h)) _ 24 (hour_at bs at) (length-map-range_with_len told 0 24) (λ k lt. get_or-map-range_with_len told 0 24 k k _ lt (omega arith) ∙ hour_same bs at k lt)
