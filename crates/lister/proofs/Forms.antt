-- The digits of a form, and its factors one after another.
use Rattle.std.proofs.Common.{◌≡◌, ◌∙◌, ℕ, zero, suc, ◌+◌, ◌<◌, List, [], ◌∷◌, ◌++◌, map, ap, arith, refl, sym, append_assoc}
use Rattle.std.specs.List.{AllByRecursion, range_with_len}
use Rattle.std.proofs.lemmas.List.FromFn.{map-range_with_len_more}
use Rattle.matroid_theory.specs.Rep.{Rep, count, size, order, matrix, column_of, KeepsLimits}
use Rattle.std.specs.List.{join_with_byte}
use Rattle.formats.specs.Statement.{column_word}
use Rattle.formats.specs.Levels.{columns_of, columns_of_factor}
use Rattle.formats.specs.Listing.{factor_text}
use Rattle.formats.specs.Lines.{joined}
use Rattle.formats.proofs.Unique.{order_small}

-- codes that a letter spells
abbrev pub HaveLetters : List ℕ → Type 0
HaveLetters codes = AllByRecursion (λ code. code < 13) codes

each_letter : (g : ℕ → ℕ) (a n : ℕ) → ((i : ℕ) → i < a + n → g i < 13) → HaveLetters (map g (range_with_len a n))
each_letter g a zero h = tt
each_letter g a (suc n) h = (h a (omega arith), each_letter g (a + 1) n (λ i l. h i (omega arith)))

-- the codes of a representation are spelled by letters
pub column_letters : (M : Rep) → KeepsLimits M → (f j : ℕ) → f < count M → j < size M → HaveLetters (column_of M f j)
column_letters M is_rep f j l m =
    each_letter (λ i. matrix M f i j) 0 M.rank (λ i n.
    let small : order M f < 14 = order_small (order M f) (is_rep.shaped.orders f l) in
    let below : matrix M f i j < order M f = is_rep.shaped.codes f i j l (omega arith) m in
    omega arith)

joined-push : (between : List ℕ) (x : List ℕ) (xs : List (List ℕ)) (y : List ℕ) → joined between ((x ∷ xs) ++ y ∷ []) ≡ joined between (x ∷ xs) ++ between ++ y
joined-push between x [] y = refl
joined-push between x (x' ∷ xs) y = ap (λ (t : List ℕ). x ++ between ++ t) (joined-push between x' xs y) ∙ (simp append_assoc)

-- one more text after others
joined_more : (between : List ℕ) (g : ℕ → List ℕ) (n : ℕ) → 0 < n →
    joined between (map g (range_with_len 0 (n + 1))) ≡ joined between (map g (range_with_len 0 n)) ++ between ++ g n
joined_more between g zero l = absurd (omega arith)
joined_more between g (suc n) l =
    let more = map-range_with_len_more g 0 (suc n) (suc n) (omega arith) in
    ap (joined between) more ∙ joined-push between (g 0) (map g (range_with_len 1 n)) (g (suc n))

-- a function after a function
pub map_twice : {A B C : Type 0} (f : B → C) (g : A → B) (xs : List A) → map f (map g xs) ≡ map (λ x. f (g x)) xs
map_twice f g [] = refl
map_twice f g (x ∷ xs) = ap (λ ys. f (g x) ∷ ys) (map_twice f g xs)

-- the text of a factor, from the words of its columns
pub factor_from_words : {A : Type 0} (M : Rep) (f : ℕ) (word : A → List ℕ) (words : List A) →
    map word words ≡ map (λ j. column_word (column_of M f j)) (range_with_len 0 (size M)) →
    join_with_byte 32 (map word words) ≡ factor_text (columns_of_factor M f)
factor_from_words M f word words e = ap (join_with_byte 32) (e ∙ sym (map_twice column_word (column_of M f) (range_with_len 0 (size M))))

-- one more factor
pub factors_more : (between : List ℕ) (g : ℕ → List ℕ) (n : ℕ) (line new : List ℕ) →
    line ≡ joined between (map g (range_with_len 0 n)) → (n ≡ 0 → new ≡ line ++ g n) → (0 < n → new ≡ line ++ between ++ g n) →
    new ≡ joined between (map g (range_with_len 0 (n + 1)))
factors_more between g zero line new e first later = first refl ∙ ap (λ (l : List ℕ). l ++ g 0) e
factors_more between g (suc n) line new e first later = later (omega arith) ∙ ap (λ (l : List ℕ). l ++ between ++ g (suc n)) e
    ∙ sym (joined_more between g (suc n) (omega arith))

-- all factors
pub factors_all : (M : Rep) (between : List ℕ) →
    joined between (map (λ f. factor_text (columns_of_factor M f)) (range_with_len 0 (count M))) ≡ joined between (map factor_text (columns_of M))
factors_all M between = ap (joined between) (sym (map_twice factor_text (columns_of_factor M) (range_with_len 0 (count M))))
