-- Levels that were grown, by their places.
use Rattle.std.proofs.Common.{◌≡◌, ℕ, zero, suc, ◌+◌, ◌<◌, List, [], ◌∷◌, length, Some, None, Ok, Err, inl, inr, subst, arith}
use Rattle.std.specs.Prelude.{slice_get, Result, IfOk}
use Rattle.std.proofs.lemmas.Option.{slice_get_cases, same_Some, none-some}
use Rattle.matroid_theory.specs.Rep.{Rep}
use Rattle.formats.specs.Request.{Request}
use Rattle.level_driver.specs.declared.level.Level.{Level}
use Rattle.level_driver.specs.Grown.{IsLevelOf, AreTriesOf, IsParentLevel, IsGrown, AreGrown}

-- what holds of the first and of the later ones, by their places
at_place : {X : Type 0} (P : ℕ → X → Type 0) (n : ℕ) (x : X) (xs : List X) (y : X) → P n x → ((k : ℕ) → slice_get xs k ≡ Some y → P (n + 1 + k) y)
    → (k : ℕ) → slice_get (x ∷ xs) k ≡ Some y → P (n + k) y
at_place P n x xs y here later zero at =
    let e : n ≡ n + 0 = omega arith in subst (P (n + 0)) (same_Some x y at) (subst (λ (m : ℕ). P m x) e here)
at_place P n x xs y here later (suc k) at =
    let e : n + 1 + k ≡ n + suc k = omega arith in subst (λ (m : ℕ). P m y) e (later k at)

-- a level is that of its place
pub grown_at : (q : Request) (n : ℕ) (levels : List Level) (level : Level) → AreGrown q n levels → (k : ℕ) → slice_get levels k ≡ Some level
    → IsGrown q (n + k) level
grown_at q n [] level all k at = absurd (none-some level at)
grown_at q n (x ∷ levels) level all k at = at_place (IsGrown q) n x levels level all.0 (grown_at q (n + 1) levels level all.1) k at

-- a place within the list has a level
pub not_past : (levels : List Level) (k : ℕ) → None ≡ slice_get levels k → k < length levels → ⊥
not_past levels k none l =
    elim ((slice_get_cases levels k).1) [
      | inl here ↦ (let at : slice_get levels k ≡ Some here.0 = here.2 in cc (at, none))
      | inr gone ↦ absurd (omega (arith, gone.0, l))
    ]

-- the level that was grown is the next
pub next_grown : {E : Type 0} (q : Request) (n m : ℕ) (parents : List Rep) (r : Result Level E) → IsParentLevel q n parents → n + 1 ≡ m
    → IfOk r (λ level. (n : ℕ) → IsParentLevel q n parents → IsLevelOf q (n + 1) level.forms)
    → IfOk r (λ level. (n : ℕ) → IsParentLevel q n parents → AreTriesOf q (n + 1) level.tried) → IfOk r (λ level. IsGrown q m level)
next_grown q n m parents (Ok level) parent is forms tried =
    subst (λ (k : ℕ). IsGrown q k level) is (record { forms = forms n parent; tried = tried n parent })
next_grown q n m parents (Err e) parent is forms tried = tt
