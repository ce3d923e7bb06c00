-- The totals of a day, hour by hour.
use Rattle.std.proofs.Common.{◌≡◌, ℕ, ◌+◌, ◌-◌, ◌<◌, ◌≤◌, Bool, cond, List, ◌∷◌, length, drop, sym, ap, ◌∙◌, arith}
use Rattle.std.proofs.lemmas.List.{drop_more, length-drop}
use Rattle.assessment.specs.Days.{Rules, DayCase, generic_in, flexible_in, hour_of, hours_to}
use Rattle.assessment.specs.Sums.{count_to}
use Rattle.assessment.specs.Totals.{Totals, totals_none, totals_add, totals_to}
use Rattle.assessment.specs.Records.{no_bids, bids_after}
use Rattle.assessment.specs.declared.submission.HourBids.{HourBids}
use Rattle.assessment.specs.declared.submission.DaySubmission.{DaySubmission}
use Rattle.pools.specs.declared.pool.Pool.{Pool}
use Rattle.pools.specs.declared.pool.Pool.TheVariants.{Generic, Flexible}
use Rattle.assessment.proofs.Running.{sum_none, sum_more, at_most_one, count_le}

pub none_yet : (hour : ℕ → Totals) → totals_none ≡ totals_to hour 0
none_yet hour =
    cc (sum_none (λ h. (hour h).hours), sum_none (λ h. (hour h).owed), sum_none (λ h. (hour h).day_ahead), sum_none (λ h. (hour h).real_time))

totals_more : (hour : ℕ → Totals) (n : ℕ) (a b t : Totals) → a ≡ totals_to hour n → b ≡ hour (n + 1) → t ≡ totals_add a b → t ≡ totals_to hour (n + 1)
totals_more hour n a b t i e s =
    cc (sum_more (λ h. (hour h).hours) n, sum_more (λ h. (hour h).owed) n, sum_more (λ h. (hour h).day_ahead) n, sum_more (λ h. (hour h).real_time) n)

-- bids are counted by the hours passed, hours by their ending
at_ending : (F : HourBids → ℕ → Totals) (bids_at : ℕ → HourBids) (n h : ℕ) (b : HourBids) (t : Totals) → h ≡ n + 1 → b ≡ bids_at n → t ≡ F b h → t ≡ F (bids_at (n + 1 - 1)) (n + 1)
at_ending F bids_at n h b t is bid e = let back : n + 1 - 1 ≡ n = omega arith in rw back cc

-- the hour that comes next of those that are left after n
pub next_hour : (d : DaySubmission) (n : ℕ) (b : HourBids) (rest : List HourBids) → drop n d.hours ≡ b ∷ rest → (n < length d.hours) × (b ≡ bids_after d n) × (rest ≡ drop (n + 1) d.hours)
next_hour d n b rest e =
    let lt : n < length d.hours = omega (arith, length-drop n d.hours, ap length e) in
    let two : b ∷ rest ≡ bids_after d n ∷ drop (n + 1) d.hours = sym e ∙ drop_more d.hours n no_bids lt in
    (lt, cc, cc)

-- no more hours are assessed than have passed
hours_fit : (p : ℕ → Bool) (n h a b : ℕ) → a ≡ count_to p n → b ≡ cond (p h) 1 0 → n < 24 → a + b ≤ 24
hours_fit p n h a b i e lt = omega (arith, count_le p n, at_most_one (p h))

pub pool_fit : (r : Rules) (c : DayCase) (p : Pool) (n h : ℕ) (a b : Totals) (bids : HourBids) → a ≡ hours_to r c p n → b ≡ hour_of r c p bids h → n < 24 → a.hours + b.hours ≤ 24
pool_fit r c Generic n h a b bids i e lt = hours_fit (generic_in r c) n h _ _ (ap (λ (t : Totals). t.hours) i) (ap (λ (t : Totals). t.hours) e) lt
pool_fit r c Flexible n h a b bids i e lt = hours_fit (flexible_in r c) n h _ _ (ap (λ (t : Totals). t.hours) i) (ap (λ (t : Totals). t.hours) e) lt

pub pool_more : (r : Rules) (c : DayCase) (p : Pool) (n h : ℕ) (b : HourBids) (a x t : Totals) → a ≡ hours_to r c p n → x ≡ hour_of r c p b h → h ≡ n + 1 → b ≡ bids_after c.submission n → t ≡ totals_add a x → t ≡ hours_to r c p (n + 1)
pool_more r c p n h b a x t i e at bid s = totals_more (λ h. hour_of r c p (bids_after c.submission (h - 1)) h) n a x t i (at_ending (hour_of r c p) (bids_after c.submission) n h b x at bid e) s
