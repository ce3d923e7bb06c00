-- What is so of any book whose state a call leaves as it was.
use Rattle.std.specs.Prelude.{◌≡◌, false, refl}
use Rattle.fund.specs.Meaning.{FundMeaning, Stood, Unmoved, TakesStanding}
use Rattle.pools.specs.declared.pool.Pool.{Pool}
use Rattle.fund.specs.declared.standing.Standing.{Standing}
use Rattle.fund.specs.declared.standing.Standing.TheVariants.{Binding, Advisory}

pub unmoved : {S : Type 0} (m : FundMeaning S) (s : S) → Unmoved m s s
unmoved m s = record { shown = λ q. refl; binding = λ q. refl; standing = refl; size = refl; takes_advisory = refl }

-- a book that takes no advisory months is binding already
pub stood_binding : {S : Type 0} (m : FundMeaning S) (s : S) (d : Standing) → m.standing s ≡ Binding → m.takes_advisory s ≡ false → ((q : Pool) → m.shown s q ≡ m.binding s q) → TakesStanding m s d → Stood m s s d
stood_binding m s Binding b a h t = record { shown = h; binding = λ q. refl; standing = b; size = refl; takes_advisory = refl }
stood_binding m s Advisory b a h t = absurd (cc)
