-- The passes of a level, before and after callers have used them.
use Rattle.std.proofs.Common.{◌≡◌, ℕ, suc, ◌+◌, ◌<◌, List, [], ◌∷◌, map, refl, sym, ap₂, subst, arith}
use Rattle.std.specs.List.{All}
use Rattle.std.proofs.lemmas.List.Elements.{All-from_recursion}
use Rattle.class_store.specs.Seen.{AreItsPasses, LevelId, LevelSide, PassSide}
use Rattle.class_store.proofs.Passes.{name_of, still_all}
use Rattle.thread_tests.specs.Named.{AllNamed, IsNamed}

named : (p q : PassSide) → IsNamed p q → name_of p ≡ name_of q
named p q same = ap₂ (λ (l : LevelId) (n : ℕ). (l, n)) (sym same.level) (sym same.number)

same_names : (before after : List PassSide) → AllNamed before after → map name_of before ≡ map name_of after
same_names [] [] all = refl
same_names [] (y ∷ ys) all = let count = all.count in absurd (omega arith)
same_names (x ∷ xs) [] all = let count = all.count in absurd (omega arith)
same_names (x ∷ xs) (y ∷ ys) all =
    let count = all.count in
    ap₂ (λ a l. a ∷ l) (named x y (all.each 0 x (omega arith)))
    (same_names xs ys record { count = omega arith; each = λ i d below. all.each (suc i) d (omega arith) })

pub of_its_level : (level : LevelSide) (passes : List PassSide) → AreItsPasses level passes → All (λ (p : PassSide). p.level ≡ level.level) passes
of_its_level level passes its = All-from_recursion _ passes its.each

pub still_its : (level : LevelSide) (before after : List PassSide) → AllNamed before after → AreItsPasses level before → AreItsPasses level after
still_its level before after all its = still_all level before after (same_names before after all) its
