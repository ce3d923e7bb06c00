-- The laws of an overlay, from those of the book below it.
use Rattle.std.specs.Prelude.{◌≡◌, ℕ, ◌+◌, ◌-◌, ◌≤◌, List, [], ◌∷◌, refl}
use Rattle.std.proofs.Common.{◌∙◌, arith}
use Rattle.fund.specs.Balances.{Balances, Within, limit}
use Rattle.fund.specs.BalancesLemmas.{entry_within, within_with, entry_with}
use Rattle.pools.specs.PerPool.{entry_of, with_entry}
use Rattle.fund.specs.Meaning.{FundMeaning, Lawful, Holds, Stood, Posted, RuledOff, TakesIn, TakesOut, Call, stands, posts_in, posts_out, rules_off, Takes, after}
use Rattle.fund.specs.MeaningLemmas.{unmoved}
use Rattle.fund.specs.Laws.{Run, end}
use Rattle.fund.specs.Overlay.{Overlaid, OverlaidSound, Showing, lower_book, own_entries, ShowingWithin, overlaid, over, overlay_book, LowerStaysBinding, LowerUntouched}
use Rattle.fund.specs.LawsLemmas.{sound_after}
use Rattle.pools.specs.declared.pool.Pool.{Pool}
use Rattle.pools.specs.declared.pool.Pool.TheVariants.{Generic, Flexible}
use Rattle.fund.specs.declared.standing.Standing.{Standing}
use Rattle.fund.specs.declared.standing.Standing.TheVariants.{Binding, Advisory}

module _ {S : Type 0} (m : FundMeaning S) (sound : S → Type 0) (law : Lawful m sound) where
  holds : (v : Showing) (l : S) → sound l → ShowingWithin v → Holds (overlay_book m) (overlaid l v)
  holds lower_book l k w = let h = law.holds l k in record { sized = h.sized; shown = h.shown; binding = h.binding; agrees = h.agrees }
  holds (own_entries e) l k w =
      let h = law.holds l k in
      record { sized = h.sized; shown = entry_within e w; binding = h.binding; agrees = λ b. absurd (cc) }

  noted : (l : S) (q : Pool) → entry_of (record { generic = m.shown l Generic; flexible = m.shown l Flexible }) q ≡ m.shown l q
  noted l Generic = refl
  noted l Flexible = refl

  stood : (d : Standing) (v : Showing) (l : S) → sound l → ShowingWithin v → OverlaidSound sound ((overlay_book m).stood (overlaid l v) d) × Stood (overlay_book m) (overlaid l v) ((overlay_book m).stood (overlaid l v) d) d
  stood Binding v l k w =
      let h = law.stood l Binding k tt in
      (record { lower = h.0; showing = tt }, record { shown = h.1.shown; binding = h.1.binding; standing = h.1.standing; size = h.1.size; takes_advisory = refl })
  stood Advisory lower_book l k w =
      let h = law.holds l k in (
        record { lower = k; showing = record { generic = h.shown Generic; flexible = h.shown Flexible } },
        record { shown = noted l; binding = λ q. refl; standing = refl; size = refl; takes_advisory = refl },
      )
  stood Advisory (own_entries e) l k w = (record { lower = k; showing = w }, record { shown = λ q. refl; binding = λ q. refl; standing = refl; size = refl; takes_advisory = refl })

  -- one posted entry: nothing else changes
  entered : (e : Balances) (l : S) (p : Pool) (n : ℕ) → sound l → Within e → n ≤ limit → OverlaidSound sound (overlaid l (own_entries (with_entry e p n))) × Posted (overlay_book m) (overlaid l (own_entries e)) (overlaid l (own_entries (with_entry e p n))) p n
  entered e l p n k w h = (record { lower = k; showing = within_with e p n w h }, record { shown = entry_with e p n; binding = λ q. refl; standing = refl; size = refl; takes_advisory = refl; free = omega arith })

  passed : (l t : S) (p : Pool) (n : ℕ) → sound t × Posted m l t p n → OverlaidSound sound (overlaid t lower_book) × Posted (overlay_book m) (overlaid l lower_book) (overlaid t lower_book) p n
  passed l t p n h = (record { lower = h.0; showing = tt }, record { shown = h.1.shown; binding = h.1.binding; standing = h.1.standing; size = h.1.size; takes_advisory = refl; free = h.1.free })

  posted_in : (v : Showing) (l : S) (p : Pool) (a : ℕ) → sound l → ShowingWithin v → TakesIn (overlay_book m) (overlaid l v) p a → OverlaidSound sound ((overlay_book m).posted_in (overlaid l v) p a) × Posted (overlay_book m) (overlaid l v) ((overlay_book m).posted_in (overlaid l v) p a) p ((overlay_book m).shown (overlaid l v) p + a)
  posted_in lower_book l p a k w t = passed l _ p _ (law.posted_in l p a k (record { place = t.place; room = t.room }))
  posted_in (own_entries e) l p a k w t = entered e l p _ k w t.room

  posted_out : (v : Showing) (l : S) (p : Pool) (a : ℕ) → sound l → ShowingWithin v → TakesOut (overlay_book m) (overlaid l v) p a → OverlaidSound sound ((overlay_book m).posted_out (overlaid l v) p a) × Posted (overlay_book m) (overlaid l v) ((overlay_book m).posted_out (overlaid l v) p a) p ((overlay_book m).shown (overlaid l v) p - a)
  posted_out lower_book l p a k w t = passed l _ p _ (law.posted_out l p a k (record { place = t.place; covered = t.covered }))
  posted_out (own_entries e) l p a k w t = entered e l p _ k w (omega (arith, entry_within e w p))

  ruled_off : (v : Showing) (l : S) → sound l → ShowingWithin v → OverlaidSound sound ((overlay_book m).ruled_off (overlaid l v)) × RuledOff (overlay_book m) (overlaid l v) ((overlay_book m).ruled_off (overlaid l v))
  ruled_off lower_book l k w =
      let h = law.ruled_off l k in
      let u = h.1.unmoved in
      (record { lower = h.0; showing = tt }, record { unmoved = record { shown = u.shown; binding = u.binding; standing = u.standing; size = u.size; takes_advisory = refl }; free = h.1.free })
  ruled_off (own_entries e) l k w = (record { lower = k; showing = w }, record { unmoved = unmoved (overlay_book m) (overlaid l (own_entries e)); free = omega arith })

  pub overlay_lawful : Lawful (overlay_book m) (OverlaidSound sound)
  overlay_lawful = record {
    holds = λ s k. holds s.showing s.lower k.lower k.showing;
    stood = λ s d k x. stood d s.showing s.lower k.lower k.showing;
    posted_in = λ s p a k. posted_in s.showing s.lower p a k.lower k.showing;
    posted_out = λ s p a k. posted_out s.showing s.lower p a k.lower k.showing;
    ruled_off = λ s k. ruled_off s.showing s.lower k.lower k.showing;
  }

  -- one call leaves the book below binding
  below : (c : Call) (v : Showing) (l : S) → sound l → m.standing l ≡ Binding → Takes (overlay_book m) (overlaid l v) c → m.standing (after (overlay_book m) (overlaid l v) c).lower ≡ Binding
  below (stands Binding) v l k b t = (law.stood l Binding k tt).1.standing
  below (stands Advisory) v l k b t = b
  below (posts_in p a) lower_book l k b t = (law.posted_in l p a k (record { place = t.place; room = t.room })).1.standing ∙ b
  below (posts_in p a) (own_entries e) l k b t = b
  below (posts_out p a) lower_book l k b t = (law.posted_out l p a k (record { place = t.place; covered = t.covered })).1.standing ∙ b
  below (posts_out p a) (own_entries e) l k b t = b
  below rules_off lower_book l k b t = (law.ruled_off l k).1.unmoved.standing ∙ b
  below rules_off (own_entries e) l k b t = b

  stays : (cs : List Call) (s : Overlaid S) → OverlaidSound sound s → m.standing s.lower ≡ Binding → Run (overlay_book m) s cs → m.standing (end (overlay_book m) s cs).lower ≡ Binding
  stays [] s k b r = b
  stays (c ∷ cs) s k b r = stays cs (after (overlay_book m) s c) (sound_after _ _ overlay_lawful s c k r.0) (below c s.showing s.lower k.lower b r.0) r.1

  pub lower_stays_binding : LowerStaysBinding m sound
  lower_stays_binding l cs k r = let h = law.stood l Binding k tt in stays cs (over m l) (record { lower = h.0; showing = tt }) h.1.standing r

pub lower_untouched : {S : Type 0} (m : FundMeaning S) → LowerUntouched m
lower_untouched m l e [] o = refl
lower_untouched m l e (stands d ∷ cs) o = absurd o
lower_untouched m l e (posts_in p a ∷ cs) o = lower_untouched m l (with_entry e p (entry_of e p + a)) cs o
lower_untouched m l e (posts_out p a ∷ cs) o = lower_untouched m l (with_entry e p (entry_of e p - a)) cs o
lower_untouched m l e (rules_off ∷ cs) o = absurd o
