-- The passes of a level, taken out of their list and put back.
use Rattle.std.proofs.Common.{◌≡◌, ◌∙◌, ℕ, List, [], ◌∷◌, ◌++◌, map, ap, ap₂, sym, subst}
use Rattle.std.proofs.lemmas.List.{map-append}
use Rattle.class_store.specs.Seen.{AreItsPasses, LevelId, LevelSide, PassSide, fresh_passes}
use Rattle.class_store.proofs.Passes.{fresh_are_all, name_of, still_all}

fresh_of : (level : LevelSide) (n : ℕ) → level.passes ≡ n → AreItsPasses level (fresh_passes level.level n)
fresh_of level n e = subst (λ (m : ℕ). AreItsPasses level (fresh_passes level.level m)) e (fresh_are_all level)

pub all_fresh : (level : LevelSide) (n : ℕ) (passes : List PassSide) → level.passes ≡ n → passes ≡ fresh_passes level.level n → AreItsPasses level passes
all_fresh level n passes e is = subst (AreItsPasses level) (sym is) (fresh_of level n e)

named : (p q : PassSide) → (p.level ≡ q.level) × (p.number ≡ q.number) → name_of p ≡ name_of q
named p q same = ap₂ (λ (l : LevelId) (n : ℕ). (l, n)) same.0 same.1

names_two : (rest : List PassSide) (a b : PassSide) → map name_of ((rest ++ a ∷ []) ++ b ∷ []) ≡ (map name_of rest ++ name_of a ∷ []) ++ name_of b ∷ []
names_two rest a b = map-append name_of (rest ++ a ∷ []) (b ∷ []) ∙ ap (λ l. l ++ name_of b ∷ []) (map-append name_of rest (a ∷ []))

pub two_back : (level : LevelSide) (n : ℕ) (start more rest one all : List PassSide) (first second first' second' : PassSide)
    → level.passes ≡ n → start ≡ fresh_passes level.level n → start ≡ more ++ second ∷ [] → more ≡ rest ++ first ∷ []
    → (first'.level ≡ first.level) × (first'.number ≡ first.number) → (second'.level ≡ second.level) × (second'.number ≡ second.number)
    → one ≡ rest ++ first' ∷ [] → all ≡ one ++ second' ∷ [] → AreItsPasses level all
two_back level n start more rest one all first second first' second' e is out1 out2 same1 same2 in1 in2 =
    let before : start ≡ (rest ++ first ∷ []) ++ second ∷ [] = out1 ∙ ap (λ l. l ++ second ∷ []) out2 in
    let after : all ≡ (rest ++ first' ∷ []) ++ second' ∷ [] = in2 ∙ ap (λ l. l ++ second' ∷ []) in1 in
    still_all level start all
    (ap (map name_of) before ∙ (names_two rest first second
    ∙ (ap₂ (λ a b. (map name_of rest ++ a ∷ []) ++ b ∷ []) (sym (named first' first same1)) (sym (named second' second same2))
    ∙ (sym (names_two rest first' second') ∙ ap (map name_of) (sym after)))))
    (all_fresh level n start e is)

pub one_back : (level : LevelSide) (n : ℕ) (start rest all : List PassSide) (first first' : PassSide)
    → level.passes ≡ n → start ≡ fresh_passes level.level n → start ≡ rest ++ first ∷ []
    → (first'.level ≡ first.level) × (first'.number ≡ first.number) → all ≡ rest ++ first' ∷ [] → AreItsPasses level all
one_back level n start rest all first first' e is out same back =
    still_all level start all
    (ap (map name_of) out ∙ (map-append name_of rest (first ∷ []) ∙ (ap (λ a. map name_of rest ++ a ∷ []) (sym (named first' first same))
    ∙ (sym (map-append name_of rest (first' ∷ [])) ∙ ap (map name_of) (sym back)))))
    (all_fresh level n start e is)
