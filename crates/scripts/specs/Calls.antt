-- What the numbers of a call stand for, by their places after its name.
use Rattle.std.specs.Prelude.{ℕ, List, drop, replicate, slice_index, Some}
use Rattle.assessment.specs.Records.{bids_told}
use Rattle.settlement.specs.declared.tables.MonthTerms.{MonthTerms}
use Rattle.scripts.specs.declared.calls.PlacedRow.{PlacedRow}
use Rattle.settlement.specs.declared.tables.SubmittedDay.{SubmittedDay}

-- the i-th number after the name, from 0
abbrev pub word : List ℕ → ℕ → ℕ
word ns i = slice_index ns i

-- year, month, marks, three window starts, price, standing
abbrev pub terms_of : List ℕ → MonthTerms
terms_of ns = record {
  month = record {
    year = word ns 0;
    month = word ns 1;
    holidays = word ns 2;
    generic_start = word ns 3;
    category2_start = word ns 4;
    category3_start = word ns 5;
  };
  price = word ns 6;
  standing = word ns 7;
}

-- place, then obligation and availability, generic first
abbrev pub row_of : List ℕ → PlacedRow
row_of ns = record {
  place = word ns 0;
  row = Some (record {
    generic = record { obligation = word ns 1; availability = word ns 2 };
    flexible = record { obligation = word ns 3; availability = word ns 4 };
  });
}

-- resource, day, two showings, then their exemptions, generic first, and four bids, the same in each hour
abbrev pub day_of : List ℕ → SubmittedDay
day_of ns = record {
  at = record { resource = word ns 0; day = word ns 1 };
  submission = record {
    showings = record {
      generic = record { shown = word ns 2; exempt = word ns 4 };
      flexible = record { shown = word ns 3; exempt = word ns 5 };
    };
    hours = replicate 24 (bids_told (drop 6 ns));
  };
}
