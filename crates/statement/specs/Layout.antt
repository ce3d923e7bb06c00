-- What stands where in a month file.
use Rattle.std.specs.Prelude.{ℕ, ◌+◌, ◌*◌, cond, List, map, length, take, drop, Ok, Err, Result, ◌==◌, nat_lt, slice_index}
use Rattle.std.specs.List.{range_with_len}
use Rattle.assessment.specs.Records.{bids_told}
use Rattle.assessment.specs.declared.submission.HourBids.{HourBids}
use Rattle.statement.specs.declared.fault.ReaderFault.{ReaderFault}
use Rattle.statement.specs.declared.fault.ReaderFault.TheVariants.{EndsInside, UnknownKind}
use Rattle.statement.specs.declared.records.FileRecord.{FileRecord}
use Rattle.statement.specs.declared.records.FileRecord.TheVariants.{Month, Resource, Day}

-- the 32-bit word whose first byte stands at i, most significant byte first
abbrev pub word_at : List ℕ → ℕ → ℕ
word_at bs i = slice_index bs i * 16777216 + slice_index bs (i + 1) * 65536 + slice_index bs (i + 2) * 256 + slice_index bs (i + 3)

-- for inner contracts: the n words that bytes begin with, each of 4 bytes
unfoldable pub words_of : ℕ → List ℕ → List ℕ
words_of n bs = map (λ i. word_at bs (4 * i)) (range_with_len 0 n)

-- for inner contracts: the bids of hour h, counted from 0, of words that are 4 for each hour
abbrev pub hour_told : List ℕ → ℕ → HourBids
hour_told ws h = bids_told (take 4 (drop (4 * h) ws))

-- for inner contracts: the bids of all 24 hours, of 96 such words
unfoldable pub hours_told : List ℕ → List HourBids
hours_told ws = map (hour_told ws) (range_with_len 0 24)

-- the four bids of an hour, the first of which stands at i
abbrev pub hour_at : List ℕ → ℕ → HourBids
hour_at bs i = record {
  day_ahead = record { economic = word_at bs i; self_scheduled = word_at bs (i + 4) };
  real_time = record { economic = word_at bs (i + 8); self_scheduled = word_at bs (i + 12) };
}

-- the bids of each hour of a day, the first of which stand at i
unfoldable pub hours_at : List ℕ → ℕ → List HourBids
hours_at bs i = map (λ h. hour_at bs (i + 16 * h)) (range_with_len 0 24)

-- a month, from the bytes after its first word: 8 words
unfoldable pub month_of : List ℕ → Result FileRecord ReaderFault
month_of rest = cond (nat_lt (length rest) 32) (Err EndsInside) (Ok (Month (record {
  month = record {
    year = word_at rest 0;
    month = word_at rest 4;
    holidays = word_at rest 8;
    generic_start = word_at rest 12;
    category2_start = word_at rest 16;
    category3_start = word_at rest 20;
  };
  standing = word_at rest 24;
  price = word_at rest 28;
})))

-- a resource: 3 words
unfoldable pub resource_of : List ℕ → Result FileRecord ReaderFault
resource_of rest = cond (nat_lt (length rest) 12) (Err EndsInside) (Ok (Resource (record {
  number = word_at rest 0;
  entry = record { category = word_at rest 4; identifier = word_at rest 8 };
})))

-- a day: 102 words
unfoldable pub day_of : List ℕ → Result FileRecord ReaderFault
day_of rest = cond (nat_lt (length rest) 408) (Err EndsInside) (Ok (Day (record {
  at = record { resource = word_at rest 0; day = word_at rest 4 };
  submission = record {
    showings = record {
      generic = record { shown = word_at rest 8; exempt = word_at rest 16 };
      flexible = record { shown = word_at rest 12; exempt = word_at rest 20 };
    };
    hours = hours_at rest 24;
  };
})))

-- the kind, which is the first word, tells which
abbrev pub of_kind : ℕ → List ℕ → Result FileRecord ReaderFault
of_kind k rest = cond (k == 1) (month_of rest) (cond (k == 2) (resource_of rest) (cond (k == 3) (day_of rest) (Err UnknownKind)))

-- the record that the bytes begin with
abbrev pub record_of : List ℕ → Result FileRecord ReaderFault
record_of bs = cond (nat_lt (length bs) 4) (Err EndsInside) (of_kind (word_at bs 0) (drop 4 bs))

-- how many bytes a record takes, its first word among them
abbrev pub size_of : FileRecord → ℕ
size_of (Month m) = 36
size_of (Resource r) = 16
size_of (Day d) = 412
