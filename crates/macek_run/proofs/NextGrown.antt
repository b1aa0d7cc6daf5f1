-- A level that was grown, with its number of tries.
use Rattle.std.proofs.Common.{ℕ, ◌+◌, List, Ok, Err}
use Rattle.std.specs.Prelude.{Result, IfOk}
use Rattle.matroid_theory.specs.Rep.{Rep}
use Rattle.formats.specs.Request.{Request}
use Rattle.level_driver.specs.declared.level.Level.{Level}
use Rattle.level_driver.specs.Grown.{IsLevelOf, AreTriesOf, IsParentLevel, IsGrown, AreGrown}

pub next_grown : {E : Type 0} (q : Request) (parents : List Rep) (levels : List Level) (r : Result Level E)
    → IfOk r (λ level. (n : ℕ) → IsParentLevel q n parents → IsLevelOf q (n + 1) level.forms)
    → IfOk r (λ level. (n : ℕ) → IsParentLevel q n parents → AreTriesOf q (n + 1) level.tried)
    → IfOk r (λ level. (n : ℕ) → IsParentLevel q n parents → AreGrown q (n + 1) levels → IsGrown q (n + 1) level)
next_grown q parents levels (Ok level) forms tried = λ n parent all. record { forms = forms n parent; tried = tried n parent }
next_grown q parents levels (Err e) forms tried = tt
