-- What the journal means: its state is its pages.
use Rattle.std.specs.Prelude.{◌-◌, false, length, vec_items}
use Rattle.fund.specs.Meaning.{FundMeaning}
use Rattle.fund.specs.Postings.{balance}
use Rattle.fund.specs.Pages.{Pages, pages, posting, with_posting, pages_ruled_off}
use Rattle.fund.specs.declared.standing.Standing.TheVariants.{Binding}
use Rattle.fund.specs.declared.posting.Direction.TheVariants.{In, Out}
use Rattle.fund.specs.declared.journal.Journal.{Journal}

-- The state of a journal: its postings in their order, and its size.
abbrev pub pages_of : Journal → Pages
pages_of j = pages (vec_items j.postings) j.size

-- Each posting fills a place, and the balances are those of the postings.
abbrev pub journal_book : FundMeaning Pages
journal_book = record {
  binding = λ s p. balance s.postings p;
  shown = λ s p. balance s.postings p;
  standing = λ s. Binding;
  size = λ s. s.places;
  free = λ s. s.places - length s.postings;
  takes_advisory = λ s. false;
  stood = λ s d. s;
  posted_in = λ s p a. with_posting s (posting In p a);
  posted_out = λ s p a. with_posting s (posting Out p a);
  ruled_off = pages_ruled_off;
}
