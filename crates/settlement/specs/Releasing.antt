-- Releasing the fund to the loads after a December.
use Rattle.std.specs.Prelude.{◌≡◌, ℕ, ◌*◌, ◌/◌, ◌<◌, ◌≤◌, List, map, length, Ok, Err, sum_by, Result, slice_index_or}
use Rattle.fund.specs.Laws.{with_room}
use Rattle.fund.specs.Meaning.{FundMeaning}
use Rattle.pools.specs.PerPool.{entry_of}
use Rattle.pools.specs.declared.pool.Pool.TheVariants.{Generic, Flexible}
use Rattle.fund.specs.declared.standing.Standing.TheVariants.{Binding}
use Rattle.settlement.specs.Views.{View, Phase, fresh, open_at, closed, release_due}
use Rattle.settlement.specs.Closing.{posted_out}
use Rattle.settlement.specs.declared.amounts.LoadAmount.{LoadAmount}
use Rattle.settlement.specs.declared.amounts.LoadAmount.TheVariants.{Load, Share}
use Rattle.settlement.specs.declared.fault.SettlementFault.{SettlementFault}
use Rattle.settlement.specs.declared.fault.SettlementFault.TheVariants.{UnfitTables, OutOfTurn, UnfitTerms, NotNextMonth, UnfitLoads, UnknownResource, NoSuchDay, AlreadyRecorded, DayOverLimit, FlexibleInCategory0, Book}
use Rattle.settlement.specs.declared.tables.LoadEntry.{LoadEntry}

-- what a load entry tells: its load, or its share of a pool
abbrev pub load_tells : LoadAmount → LoadEntry → ℕ
load_tells Load e = e.load
load_tells (Share p) e = entry_of e.shares p

-- an amount summed over load entries
abbrev pub load_told : LoadAmount → List LoadEntry → ℕ
load_told a es = sum_by (load_tells a) es

-- stands in for an entry that is not there
abbrev pub no_load : LoadEntry
no_load = record { load = 0; shares = record { generic = 0; flexible = 0 } }

-- each load is up to 1,000,000 GWh
abbrev pub EachLoadWithin : List LoadEntry → Type 0
EachLoadWithin es = (i : ℕ) → i < length es → (slice_index_or es i no_load).load ≤ 1000000

-- 1 to 64 load entries within their limits, not all of 0
abbrev pub LoadsWithin : List LoadEntry → Type 0
LoadsWithin es = (1 ≤ length es) × (length es ≤ 64) × EachLoadWithin es × (0 < load_told Load es)

-- a release is due
abbrev pub IsDue : Phase → Type 0
IsDue fresh = ⊥
IsDue (open_at m p) = ⊥
IsDue (closed d) = ⊥
IsDue (release_due d) = Unit {0}

-- a load's part of a balance
abbrev pub share_of : ℕ → ℕ → ℕ → ℕ
share_of balance total load = balance * load / total

-- an entry with its shares of the two balances, by the total load
abbrev pub shared : ℕ → ℕ → ℕ → LoadEntry → LoadEntry
shared generic flexible total e = record { load = e.load; shares = record { generic = share_of generic total e.load; flexible = share_of flexible total e.load } }

module _ {S : Type 0} (m : FundMeaning S) where
  -- the binding balances are shared out
  abbrev pub shares : S → List LoadEntry → List LoadEntry
  shares s es = map (shared (m.binding s Generic) (m.binding s Flexible) (load_told Load es)) es

  -- ruled off first below two free places; then each pool's total is posted out
  abbrev pub shares_posted : S → List LoadEntry → S
  shares_posted s es =
      posted_out m (posted_out m (with_room m s 2) Generic (load_told (Share Generic) es)) Flexible (load_told (Share Flexible) es)

  -- the book after a release of the shares that the entries hold, which stands it binding first
  unfoldable pub released : S → List LoadEntry → S
  released s es = shares_posted (m.stood s Binding) es

  -- what a taken release leaves; the next month may then be opened
  abbrev pub ReleasesAt : Phase → View S → List LoadEntry → View S → List LoadEntry → Type 0
  ReleasesAt fresh v es w es' = ⊥
  ReleasesAt (open_at t p) v es w es' = ⊥
  ReleasesAt (closed d) v es w es' = ⊥
  ReleasesAt (release_due d) v es w es' =
      (w ≡ record { opening = v.opening; phase = closed d; book = released v.book (shares v.book es) }) × (es' ≡ shares v.book es)

  -- the first test that fails tells the fault
  abbrev pub RefusesRelease : View S → List LoadEntry → SettlementFault → Type 0
  RefusesRelease v es UnfitTables = ⊥
  RefusesRelease v es OutOfTurn = IsDue v.phase → ⊥
  RefusesRelease v es UnfitTerms = ⊥
  RefusesRelease v es NotNextMonth = ⊥
  RefusesRelease v es UnfitLoads = IsDue v.phase × (LoadsWithin es → ⊥)
  RefusesRelease v es (UnknownResource d) = ⊥
  RefusesRelease v es (NoSuchDay d) = ⊥
  RefusesRelease v es (AlreadyRecorded d) = ⊥
  RefusesRelease v es (DayOverLimit d) = ⊥
  RefusesRelease v es (FlexibleInCategory0 d) = ⊥
  RefusesRelease v es (Book e) = ⊥

  -- what a release answers, and what it leaves; a refusal changes nothing
  abbrev pub Releases : View S → List LoadEntry → Result (Unit {0}) SettlementFault → View S → List LoadEntry → Type 0
  Releases v es (Ok x) w es' = IsDue v.phase × LoadsWithin es × ReleasesAt v.phase v es w es'
  Releases v es (Err e) w es' = RefusesRelease v es e × (w ≡ v) × (es' ≡ es)
