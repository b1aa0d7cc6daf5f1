-- For those who use passes: which passes are all of a level.
use Rattle.std.proofs.Common.{◌≡◌, ℕ, zero, suc, ◌+◌, ◌<◌, ◌≤◌, ◌==◌, cond, List, [], ◌∷◌, map, length, replicate, refl, ap, ap₂, sym, ◌∙◌, arith, eq-eqb, ne_eqb, ⊎_elim, ◌≢◌}
use Rattle.std.specs.List.{AllByRecursion, count_by}
use Rattle.std.proofs.lemmas.Bool.{cases_eq}
use Rattle.std.proofs.lemmas.List.Sums.{sum_by-cons, sum_by_push}
use Rattle.std.proofs.lemmas.List.{length_push}
use Rattle.list_lemmas.proofs.Lists.{all_push}
use Rattle.class_store.specs.Seen.{LevelId, LevelSide, PassSide, AreItsPasses, blank, fresh_passes}

-- what no call changes of a pass
abbrev pub name_of : PassSide → LevelId × ℕ
name_of p = (p.level, p.number)

pub fresh_count : (level : LevelId) (n : ℕ) → length (fresh_passes level n) ≡ n
fresh_count level zero = refl
fresh_count level (suc n) = let before : length (fresh_passes level n) ≡ n = fresh_count level n in
    length_push (fresh_passes level n) record { level = level; number = n; tracks = replicate (length level.tables) blank } ∙ omega arith

all_levels : (level : LevelId) (n : ℕ) → AllByRecursion (λ (p : PassSide). p.level ≡ level) (fresh_passes level n)
all_levels level zero = tt
all_levels level (suc n) = all_push (λ (p : PassSide). p.level ≡ level) (fresh_passes level n) _ (all_levels level n) refl

one_if : (c n : ℕ) → c ≡ n → cond (c == n) (suc zero) zero ≡ suc zero
one_if c n e = ap (λ b. cond b (suc zero) zero) (eq-eqb c n e)

none_if : (c n : ℕ) → c ≢ n → cond (c == n) (suc zero) zero ≡ zero
none_if c n ne = ap (λ b. cond b (suc zero) zero) (ne_eqb c n ne)

no_pass : (level : LevelId) (n c : ℕ) → n ≤ c → count_by (λ (p : PassSide). c == p.number) (fresh_passes level n) ≡ 0
no_pass level zero c le = refl
no_pass level (suc n) c le =
    let before : count_by (λ (p : PassSide). c == p.number) (fresh_passes level n) ≡ 0 = no_pass level n c (omega arith) in
    sum_by_push (λ (p : PassSide). cond (c == p.number) 1 0) (fresh_passes level n) record {
      level = level;
      number = n;
      tracks = replicate (length level.tables) blank;
    }
    ∙ (ap₂ (λ a b. a + b) before (none_if c n (λ e. absurd (omega arith))) ∙ omega arith)

one_pass : (level : LevelId) (n c : ℕ) → c < n → count_by (λ (p : PassSide). c == p.number) (fresh_passes level n) ≡ 1
one_pass level zero c lt = absurd (omega arith)
one_pass level (suc n) c lt =
    sum_by_push (λ (p : PassSide). cond (c == p.number) 1 0) (fresh_passes level n) record {
      level = level;
      number = n;
      tracks = replicate (length level.tables) blank;
    }
    ∙ ⊎_elim
    (λ (here : c ≡ n). ap₂ (λ a b. a + b) (no_pass level n c (omega arith)) (one_if c n here) ∙ omega arith)
    (λ (before : c ≢ n). ap₂ (λ a b. a + b) (one_pass level n c (omega arith)) (none_if c n before) ∙ omega arith)
    (cases_eq c n)

-- the passes that `open_level` answers are all
pub fresh_are_all : (level : LevelSide) → AreItsPasses level (fresh_passes level.level level.passes)
fresh_are_all level = record { each = all_levels level.level level.passes; once = λ c lt. one_pass level.level level.passes c lt }

each_by : (level : LevelId) (ps qs : List PassSide) → map name_of ps ≡ map name_of qs → AllByRecursion (λ (p : PassSide). p.level ≡ level) ps
    → AllByRecursion (λ (p : PassSide). p.level ≡ level) qs
each_by level [] [] e all = tt
each_by level [] (q ∷ qs) e all = absurd (cc e)
each_by level (p ∷ ps) [] e all = absurd (cc e)
each_by level (p ∷ ps) (q ∷ qs) e all = let named : name_of p ≡ name_of q = cc e in let same : p.level ≡ q.level = ap (λ n. n.0) named in
    (sym same ∙ all.0, each_by level ps qs (cc e) all.1)

counts_by : (c : ℕ) (ps qs : List PassSide) → map name_of ps ≡ map name_of qs
    → count_by (λ (p : PassSide). c == p.number) ps ≡ count_by (λ (p : PassSide). c == p.number) qs
counts_by c [] [] e = refl
counts_by c [] (q ∷ qs) e = absurd (cc e)
counts_by c (p ∷ ps) [] e = absurd (cc e)
counts_by c (p ∷ ps) (q ∷ qs) e =
    let named : name_of p ≡ name_of q = cc e in
    let same : p.number ≡ q.number = ap (λ n. n.1) named in
    sum_by-cons (λ (p : PassSide). cond (c == p.number) 1 0) p ps
    ∙ (ap₂ (λ (n m : ℕ). cond (c == n) 1 0 + m) same (counts_by c ps qs (cc e))
    ∙ sym (sum_by-cons (λ (p : PassSide). cond (c == p.number) 1 0) q qs))

-- and so are those with the same levels and numbers
pub still_all : (level : LevelSide) (ps qs : List PassSide) → map name_of ps ≡ map name_of qs → AreItsPasses level ps → AreItsPasses level qs
still_all level ps qs e its = record { each = each_by level.level ps qs e its.each; once = λ c lt. sym (counts_by c ps qs e) ∙ its.once c lt }
