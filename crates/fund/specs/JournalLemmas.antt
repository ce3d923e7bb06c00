-- The laws of a journal.
use Rattle.std.specs.Prelude.{◌≡◌, ℕ, ◌-◌, ◌<◌, ◌≤◌, List, [], length, refl}
use Rattle.std.proofs.Common.{arith}
use Rattle.std.proofs.lemmas.List.{length_push}
use Rattle.fund.specs.Balances.{limit}
use Rattle.fund.specs.MeaningLemmas.{stood_binding}
use Rattle.fund.specs.Meaning.{Lawful, Holds, Posted, RuledOff}
use Rattle.fund.specs.Postings.{balance}
use Rattle.fund.specs.Pages.{Fit, Pages, PagesSound, pages, posting, with_posting, pages_from, pages_ruled_off, with_brought}
use Rattle.fund.specs.Journal.{journal_book}
use Rattle.fund.specs.PostingsLemmas.{Allows, balance_after, kept_none, kept_with, balance_with, kept_brought, brought_short, kept_forward, balance_forward, forward_short}
use Rattle.fund.specs.PostingsLemmas.{balance_le as kept_le}
use Rattle.pools.specs.declared.pool.Pool.{Pool}
use Rattle.pools.specs.declared.pool.Pool.TheVariants.{Generic, Flexible}
use Rattle.fund.specs.declared.posting.Direction.{Direction}
use Rattle.fund.specs.declared.posting.Direction.TheVariants.{In, Out}
use Rattle.fund.specs.declared.posting.Posting.{Posting}

balance_le : {s : Pages} → PagesSound s → (q : Pool) → balance s.postings q ≤ limit
balance_le {s} k q = kept_le s.postings q (k.kept q)

holds : (s : Pages) → PagesSound s → Holds journal_book s
holds s k = record { sized = k.sized.0; shown = balance_le k; binding = balance_le k; agrees = λ e q. refl }

-- a posting that has a place and that the balance allows
pub posted_one : (d : Direction) (s : Pages) (p : Pool) (a : ℕ) → PagesSound s → 0 < s.places - length s.postings → Allows d (balance s.postings p) a → PagesSound (with_posting s (posting d p a)) × Posted journal_book s (with_posting s (posting d p a)) p (balance_after d (balance s.postings p) a)
posted_one d s p a k place h =
    let b = balance_with s.postings k.kept p a d in (
      record { sized = k.sized; fits = omega (arith, length_push s.postings (posting d p a)); kept = kept_with s.postings k.kept p a d h },
      record { shown = b; binding = b; standing = refl; size = refl; takes_advisory = refl; free = omega (arith, length_push s.postings (posting d p a)) },
    )

pub from_sound : (n : ℕ) (b : Pool → ℕ) → Fit n → ((q : Pool) → b q ≤ limit) → PagesSound (pages_from n (b Generic) (b Flexible))
from_sound n b h few = record { sized = h; fits = omega (arith, forward_short b); kept = kept_forward b few }

ruled_off : (s : Pages) → PagesSound s → PagesSound (pages_ruled_off s) × RuledOff journal_book s (pages_ruled_off s)
ruled_off s k =
    let b = balance_forward (balance s.postings) in (
      from_sound s.places (balance s.postings) k.sized (balance_le k),
      record { unmoved = record { shown = b; binding = b; standing = refl; size = refl; takes_advisory = refl }; free = omega (arith, forward_short (balance s.postings)) },
    )

pub blank_sound : (xs : List Posting) (n : ℕ) → xs ≡ [] → Fit n → PagesSound (pages xs n)
blank_sound xs n e h = rw e (record { sized = h; fits = omega arith; kept = kept_none })

pub journal_lawful : Lawful journal_book PagesSound
journal_lawful = record {
  holds = holds;
  stood = λ s d k t. (k, stood_binding journal_book s d refl refl (λ q. refl) t);
  posted_in = λ s p a k t. posted_one In s p a k t.place t.room;
  posted_out = λ s p a k t. posted_one Out s p a k t.place t.covered;
  ruled_off = ruled_off;
}

-- the generic pool's balance alone, brought forward
pub brings_first : (n g : ℕ) → Fit n → g ≤ limit → PagesSound (with_brought (pages [] n) Generic g)
brings_first n g h few = record { sized = h; fits = omega (arith, brought_short Generic g); kept = kept_brought Generic g few }
