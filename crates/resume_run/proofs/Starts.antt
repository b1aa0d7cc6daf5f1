-- From the levels that were read to what growth to a size starts from.
use Rattle.std.proofs.Common.{◌≡◌, ℕ, ◌+◌, ◌-◌, ◌<◌, ◌≤◌, List, [], ◌∷◌, length, refl, arith}
use Rattle.matroid_theory.specs.Level.{Family}
use Rattle.formats.specs.Request.{Request, IsWithinLimits}
use Rattle.formats.specs.Levels.{Grows}
use Rattle.level_driver.specs.declared.level.Level.{Level}
use Rattle.resume_formats.specs.declared.fault.LevelFault.TheVariants.{Less}
use Rattle.resume_formats.specs.Cut.{IsWhole, CanStart}
use Rattle.resume_formats.specs.Fault.{HasFaultFor}
use Rattle.resume_formats.specs.Resumed.{with_size}
use Rattle.resume_formats.proofs.FaultLemmas.{fault_for}
use Rattle.level_driver.specs.Grown.{IsGrown, AreGrown}
use Rattle.level_file.specs.Started.{IsStart, IsStartFault}
use Rattle.level_file.specs.declared.read.StartFault.{StartFault}
use Rattle.level_file.specs.declared.read.StartFault.TheVariants.{Bad, NoMemory}
use Rattle.resume_run.specs.Started.{IsStartTo, IsStartFaultTo}

-- ---- the same levels for another size

grows_too : (q : Request) (size : ℕ) (family : Family) → Grows (with_size q size) family → Grows q family
grows_too q size family g = record { factors_are = g.factors_are; rank_is = g.rank_is; mode_is = g.mode_is; forbids = g.forbids }

grown_too : (q : Request) (size n : ℕ) (level : Level) → IsGrown q n level → IsGrown (with_size q size) n level
grown_too q size n level grown = record {
  forms = λ family g. grown.forms family (grows_too q size family g);
  tried = λ family g. grown.tried family (grows_too q size family g);
}

all_grown_too : (q : Request) (size n : ℕ) (levels : List Level) → AreGrown q n levels → AreGrown (with_size q size) n levels
all_grown_too q size n [] all = tt
all_grown_too q size n (level ∷ levels) all = (grown_too q size n level all.0, all_grown_too q size (n + 1) levels all.1)

-- ---- the last size that is whole

whole_within : (q : Request) (n : ℕ) (text : List ℕ) → IsWhole q n text → n ≤ q.size
whole_within q n text w = omega (arith, w.are.at_most, w.last, w.at_least)

module _ (text : List ℕ) (q : Request) (levels : List Level) (start : IsStart text q levels) where
  starts : (n : ℕ) → n + 1 ≡ q.rank + length levels → CanStart text q n
  starts n at = record {
    short = start.short;
    cut = start.are.cut;
    last = record {
      whole = (let some = start.some in (start.are.whole n).1 (omega arith, omega arith));
      greatest = λ m w. let both = (start.are.whole m).0 w in omega (arith, both.1);
    };
  }

  -- it is within the request
  pub last_within : (n : ℕ) → n + 1 ≡ q.rank + length levels → n ≤ q.size
  last_within n at = whole_within q n text (starts n at).last.whole

  pub few_levels : IsWithinLimits q → (0 < length levels) × (q.rank + length levels ≤ 17)
  few_levels limits =
      let some = start.some in
      let within = last_within (q.rank + length levels - 1) (omega arith) in
      let size = limits.size in
      (some, omega (arith, within, size.1))

  -- the wanted size is enough
  pub enough_for : (size n : ℕ) → n + 1 ≡ q.rank + length levels → n ≤ size → IsStartTo size text (with_size q size) levels
  enough_for size n at enough = record {
    can = record { start = q; last = n; can_start = starts n at; enough = enough; asked = refl };
    some = start.some;
    grown = all_grown_too q size q.rank levels start.are.grown;
  }

  -- it is less
  pub less_than : (size n : ℕ) → n + 1 ≡ q.rank + length levels → size < n → HasFaultFor size text (Less n)
  less_than size n at less = (q, starts n at, less)

-- ---- faults of the text

pub start_fault_for : (size : ℕ) (text : List ℕ) (fault : StartFault) → IsStartFault text fault → IsStartFaultTo size text fault
start_fault_for size text (Bad why) is = fault_for size text why is
start_fault_for size text NoMemory is = tt
