-- Lines are priced as they say, and none is paid or charged above its ceiling.
use Rattle.std.proofs.Common.{◌≡◌, ℕ, ◌*◌, ◌/◌, ◌≤◌, refl, mul-le-mul_right, mul-le-mul_left, div-mul-le_self, arith}
use Rattle.assessment.specs.Laws.{LineLaw}
use Rattle.assessment.specs.declared.line.Line.{Line}
use Rattle.settlement.specs.Closing.{charged_entry, paid_entry}
use Rattle.settlement.specs.Accounts.{PricedAt, BelowCeiling}
use Rattle.settlement.specs.declared.tables.LineEntry.{LineEntry}

pub priced : (price rate : ℕ) (l : Line) → PricedAt price rate (paid_entry rate (charged_entry price l))
priced price rate l = (λ e. rw e refl, λ e. rw e refl, λ e. rw e refl, λ e. rw e refl)

-- cents c for a quantity q of at most w / (1000 n), at a rate of at most m
below : (c rate q n m w : ℕ) → c ≡ rate * q / 1000000 → q ≤ w / (1000 * n) → rate ≤ m → c * n * 1000000000 ≤ m * w
below c rate q n m w ce qe rm =
    let a : c * 1000000 ≤ rate * q = omega arith in
    let b : q * (1000 * n) ≤ w = omega (arith, mul-le-mul_right (1000 * n) qe, div-mul-le_self w (1000 * n)) in
    omega (arith, mul-le-mul_right (1000 * n) a, mul-le-mul_right (q * (1000 * n)) rm, mul-le-mul_left m b)

pub ceiling : (price rate : ℕ) (e : LineEntry) → rate ≤ 3 * price → LineLaw e.line → PricedAt price rate e → BelowCeiling price e
ceiling price rate e cap law p =
    let q = e.line.quantity in
    let n = e.line.days in
    let o = e.line.obligation in (
      λ s. omega (arith, below e.cents rate q n (3 * price) (15 * o) (p.1 s) (law.paid_within s) cap),
      λ s. omega (arith, below e.cents price q n price (945 * o) (p.0 s) (law.charged_within s) (omega arith)),
    )
