-- What the advisory overlay means, by what the book below it means.
use Rattle.std.specs.Prelude.{◌≡◌, ℕ, ◌+◌, ◌-◌, true, List, Option, Some, None}
use Rattle.fund.specs.Balances.{Balances, Within}
use Rattle.pools.specs.PerPool.{entry_of, with_entry}
use Rattle.fund.specs.Cents.{cents_of}
use Rattle.fund.specs.Meaning.{FundMeaning, Lawful, Call}
use Rattle.fund.specs.Laws.{Run, end, Postings}
use Rattle.pools.specs.declared.per_pool.PerPool.{PerPool}
use Rattle.pools.specs.declared.pool.Pool.{Pool}
use Rattle.pools.specs.declared.pool.Pool.TheVariants.{Generic, Flexible}
use Rattle.fund.specs.declared.standing.Standing.{Standing}
use Rattle.fund.specs.declared.standing.Standing.TheVariants.{Binding, Advisory}
use Rattle.fund.specs.declared.balance.Balance.{Balance}
use Rattle.fund.specs.declared.overlay.Overlay.{Overlay}

-- What an overlay shows: the book below, or entries of its own in an advisory month.
pub data Showing : Type 0 where
  lower_book : Showing
  own_entries : Balances → Showing

-- The state of the book below, and what is shown.
pub record Overlaid (S : Type 0) : Type 0 where
  pub lower : S
  pub showing : Showing

-- Where it has entries, it shows them.
abbrev pub showing_of : Option (PerPool Balance) → Showing
showing_of None = lower_book
showing_of (Some e) = own_entries (cents_of e)

-- The state of an overlay, by the state of the book below.
abbrev pub overlaid_of : {B S : Type 0} → (B → S) → Overlay B → Overlaid S
overlaid_of state o = record { lower = state o.lower; showing = showing_of o.entries }

-- Entries that are shown are within the limit.
abbrev pub ShowingWithin : Showing → Type 0
ShowingWithin lower_book = Unit {0}
ShowingWithin (own_entries e) = Within e

-- The states that an overlay can be in: the book below is in one that it can be in, and the entries are within the limit.
pub record OverlaidSound {S : Type 0} (sound : S → Type 0) (s : Overlaid S) : Type 0 where
  pub lower : sound s.lower
  pub showing : ShowingWithin s.showing

-- A state, put together.
abbrev pub overlaid : {S : Type 0} → S → Showing → Overlaid S
overlaid l v = record { lower = l; showing = v }

module _ {S : Type 0} (m : FundMeaning S) where
  -- An overlay is made by standing the book binding.
  abbrev pub over : S → Overlaid S
  over l = overlaid (m.stood l Binding) lower_book

  -- Its shown balance: of the entries where it shows them, else of the book below.
  abbrev pub shown_by : Showing → S → Pool → ℕ
  shown_by lower_book l p = m.shown l p
  shown_by (own_entries e) l p = entry_of e p

  -- Its standing: advisory where it shows its entries, else that of the book below.
  abbrev pub standing_by : Showing → S → Standing
  standing_by lower_book l = m.standing l
  standing_by (own_entries e) l = Advisory

  -- While it stands advisory, each of its places is free.
  abbrev pub free_by : Showing → S → ℕ
  free_by lower_book l = m.free l
  free_by (own_entries e) l = m.size l

  -- Stood advisory, it starts from the balances shown, or goes on with the entries that it has.
  abbrev pub entries_by : Showing → S → Showing
  entries_by lower_book l = own_entries (record { generic = m.shown l Generic; flexible = m.shown l Flexible })
  entries_by (own_entries e) l = own_entries e

  -- Standing it binding drops the entries.
  abbrev pub stood_by : Standing → Showing → S → Overlaid S
  stood_by Binding v l = over l
  stood_by Advisory v l = overlaid l (entries_by v l)

  -- In an advisory month a posting in changes the entry of its pool, and nothing below.
  abbrev pub posted_in_by : Showing → S → Pool → ℕ → Overlaid S
  posted_in_by lower_book l p a = overlaid (m.posted_in l p a) lower_book
  posted_in_by (own_entries e) l p a = overlaid l (own_entries (with_entry e p (entry_of e p + a)))

  -- A posting out, likewise.
  abbrev pub posted_out_by : Showing → S → Pool → ℕ → Overlaid S
  posted_out_by lower_book l p a = overlaid (m.posted_out l p a) lower_book
  posted_out_by (own_entries e) l p a = overlaid l (own_entries (with_entry e p (entry_of e p - a)))

  -- In advisory standing there is nothing to rule off.
  abbrev pub ruled_off_by : Showing → S → Overlaid S
  ruled_off_by lower_book l = overlaid (m.ruled_off l) lower_book
  ruled_off_by (own_entries e) l = overlaid l (own_entries e)

  -- It takes advisory months, whatever is below.
  abbrev pub overlay_book : FundMeaning (Overlaid S)
  overlay_book = record {
    binding = λ s p. m.binding s.lower p;
    shown = λ s p. shown_by s.showing s.lower p;
    standing = λ s. standing_by s.showing s.lower;
    size = λ s. m.size s.lower;
    free = λ s. free_by s.showing s.lower;
    takes_advisory = λ s. true;
    stood = λ s d. stood_by d s.showing s.lower;
    posted_in = λ s p a. posted_in_by s.showing s.lower p a;
    posted_out = λ s p a. posted_out_by s.showing s.lower p a;
    ruled_off = λ s. ruled_off_by s.showing s.lower;
  }

  -- An overlay over a book is again a book.
  abbrev pub IsABook : (S → Type 0) → Type 0
  IsABook sound = Lawful overlay_book (OverlaidSound sound)

  -- Over any run the book below stays binding, as the overlay stood it when it was made.
  abbrev pub LowerStaysBinding : (S → Type 0) → Type 0
  LowerStaysBinding sound = (l : S) (cs : List Call) → sound l → Run overlay_book (over l) cs → m.standing (end overlay_book (over l) cs).lower ≡ Binding

  -- In an advisory month no posting reaches the book below.
  abbrev pub LowerUntouched : Type 0
  LowerUntouched = (l : S) (e : Balances) (cs : List Call) → Postings cs → (end overlay_book (overlaid l (own_entries e)) cs).lower ≡ l
