-- The rate leaves little of the fund, and the payments stay within it.
use Rattle.std.proofs.Common.{◌≡◌, ℕ, ◌+◌, ◌-◌, ◌*◌, ◌/◌, ◌<◌, ◌≤◌, List, [], ◌∷◌, map, sum_by, refl, mul-le-mul_right, div-mul-le_self, arith}
use native.Mathlib.Nat.{lt-div-mul-add}
use Rattle.std.proofs.lemmas.List.Sums.{sum_by-cons}
use Rattle.assessment.specs.declared.line.LineState.{LineState}
use Rattle.assessment.specs.declared.line.LineState.TheVariants.{Empty, Charged, Neutral, Paid}
use Rattle.settlement.specs.Closing.{if_paid, if_charged, paid_cents, paid_entry, line_tells, told, rate_of, close_rate, paid_entries}
use Rattle.settlement.specs.Prices.{cents_at}
use Rattle.settlement.specs.Accounts.{megawatts_begun}
use Rattle.settlement.specs.declared.amounts.LineAmount.TheVariants.{Charges, Payments, EligibleQuantity}
use Rattle.settlement.specs.declared.tables.LineEntry.{LineEntry}

-- an amount that paying leaves alone
same_told : (f : LineEntry → ℕ) (rate : ℕ) → ((e : LineEntry) → f (paid_entry rate e) ≡ f e) → (es : List LineEntry) → sum_by f (map (paid_entry rate) es) ≡ sum_by f es
same_told f rate h [] = refl
same_told f rate h (e ∷ es) = omega (arith, sum_by-cons f (paid_entry rate e) (map (paid_entry rate) es), sum_by-cons f e es, h e, same_told f rate h es)

same_charge : (s : LineState) (payment charge : ℕ) → if_charged s (paid_cents s payment charge) ≡ if_charged s charge
same_charge Empty payment charge = refl
same_charge Charged payment charge = refl
same_charge Neutral payment charge = refl
same_charge Paid payment charge = refl

pub same_charges : (rate : ℕ) (es : List LineEntry) → told Charges (map (paid_entry rate) es) ≡ told Charges es
same_charges rate es = same_told (line_tells Charges) rate (λ e. same_charge e.line.state (cents_at rate e.line.quantity) e.cents) es

pub same_quantity : (rate : ℕ) (es : List LineEntry) → told EligibleQuantity (map (paid_entry rate) es) ≡ told EligibleQuantity es
same_quantity rate es = same_told (line_tells EligibleQuantity) rate (λ e. refl) es

abbrev eligible_lines : List LineEntry → ℕ
eligible_lines es = sum_by (λ e. if_paid e.line.state 1) es

same_lines : (rate : ℕ) (es : List LineEntry) → eligible_lines (map (paid_entry rate) es) ≡ eligible_lines es
same_lines rate es = same_told (λ e. if_paid e.line.state 1) rate (λ e. refl) es

-- what the rate promises for the quantity q of l lines, against the payment c
abbrev Near : ℕ → ℕ → ℕ → ℕ → Type 0
Near rate c q l = (1000000 * c ≤ rate * q) × (rate * q ≤ 1000000 * c + 999999 * l)

line_near : (rate q charge : ℕ) (s : LineState) → Near rate (if_paid s (paid_cents s (cents_at rate q) charge)) (if_paid s q) (if_paid s 1)
line_near rate q charge Empty = omega arith
line_near rate q charge Charged = omega arith
line_near rate q charge Neutral = omega arith
line_near rate q charge Paid = omega arith

both_near : (rate c q l c' q' l' c'' q'' l'' : ℕ) → c'' ≡ c + c' → q'' ≡ q + q' → l'' ≡ l + l' → Near rate c q l → Near rate c' q' l' → Near rate c'' q'' l''
both_near rate c q l c' q' l' c'' q'' l'' ce qe le h k = rw (ce, qe, le) (omega arith)

near : (rate : ℕ) (es : List LineEntry) → Near rate (told Payments (map (paid_entry rate) es)) (told EligibleQuantity es) (eligible_lines es)
near rate [] = omega arith
near rate (e ∷ es) =
    both_near rate _ _ _ _ _ _ _ _ _
    (sum_by-cons (line_tells Payments) (paid_entry rate e) (map (paid_entry rate) es))
    (sum_by-cons (line_tells EligibleQuantity) e es)
    (sum_by-cons (λ (x : LineEntry). if_paid x.line.state 1) e es)
    (line_near rate e.line.quantity e.cents e.line.state)
    (near rate es)

-- the rate promises no more than the fund
rate_low : (price fund q : ℕ) → rate_of price fund q ≤ fund * 1000000 / q
rate_low price fund q = grind arith

-- and below its cap it is the fund for a megawatt, which leaves less than q of it
rate_is : (price fund q : ℕ) → 0 < q → rate_of price fund q < 3 * price → rate_of price fund q ≡ fund * 1000000 / q
rate_is price fund q pos low = grind arith

pub rate_capped : (price fund q : ℕ) → rate_of price fund q ≤ 3 * price
rate_capped price fund q = grind arith

within : (rate fund c q l : ℕ) → rate ≤ fund * 1000000 / q → Near rate c q l → c ≤ fund
within rate fund c q l low k = omega (arith, mul-le-mul_right q low, div-mul-le_self (fund * 1000000) q)

little : (rate fund c q l : ℕ) → 0 < q → rate ≡ fund * 1000000 / q → Near rate c q l → fund - c < l + megawatts_begun q
little rate fund c q l pos is k =
    let m : fund * 1000000 < rate * q + q = rw is (lt-div-mul-add pos) in
    omega arith

-- whatever cents the entries had before
pub payments_within : (price shown : ℕ) (es : List LineEntry) → told Payments (paid_entries price shown es) ≤ shown + told Charges es
payments_within price shown es =
    within (close_rate price shown es) (shown + told Charges es) _ (told EligibleQuantity es) (eligible_lines es) (rate_low price (shown + told Charges es) (told EligibleQuantity es)) (near (close_rate price shown es) es)

-- what is left of a fund, as the paid entries tell it
pub little_left : (price shown : ℕ) (es : List LineEntry) → close_rate price shown es < 3 * price → 0 < told EligibleQuantity (paid_entries price shown es)
    → shown + told Charges (paid_entries price shown es) - told Payments (paid_entries price shown es)
    < sum_by (λ e. if_paid e.line.state 1) (paid_entries price shown es) + megawatts_begun (told EligibleQuantity (paid_entries price shown es))
little_left price shown es low pos =
    let rate = close_rate price shown es in
    let fund = shown + told Charges es in
    let q = told EligibleQuantity es in
    let some : 0 < q = omega (arith, same_quantity rate es) in
    let l = little rate fund (told Payments (paid_entries price shown es)) q (eligible_lines es) some (rate_is price fund q some low) (near rate es) in
    rw (same_charges rate es, same_quantity rate es, same_lines rate es) l
