-- The word of a column, letter by letter.
use Rattle.std.proofs.Common.{◌≡◌, ◌≢◌, ℕ, ◌<◌, sym, ◌∙◌, ap, subst, arith, List, length}
use Rattle.std.specs.List.{slice_index}
use Rattle.std.proofs.lemmas.Bool.Decides.{nat_tests}
use Rattle.std.proofs.lemmas.List.{ext_get_or, get_or-map, length-map}
use Rattle.std.proofs.lemmas.List.FromFn.{get_or-map-range_with_len, length-map-range_with_len}
use Rattle.matroid_theory.specs.Rep.{Rep, matrix, column_of}
use Rattle.formats.specs.Statement.{column_word, entry_letter}

-- no entry has the letter `x`
pub letter_not_x : (code : ℕ) → code < 14 → entry_letter code ≢ 120
letter_not_x code l = λ e. grind (arith, nat_tests)

module _ (M : Rep) (f j : ℕ) where
  column-length : length (column_of M f j) ≡ M.rank
  column-length = length-map-range_with_len (λ i. matrix M f i j) 0 M.rank

  pub word-length : length (column_word (column_of M f j)) ≡ M.rank
  word-length = length-map (column_of M f j) entry_letter ∙ column-length

  pub letter-at : (i : ℕ) → i < M.rank → slice_index (column_word (column_of M f j)) i ≡ entry_letter (matrix M f i j)
  letter-at i l =
      get_or-map entry_letter (column_of M f j) i 0 0 (subst (λ (n : ℕ). i < n) (sym column-length) l)
      ∙ ap entry_letter (get_or-map-range_with_len (λ i. matrix M f i j) 0 M.rank i i 0 l (omega arith))

  -- a word with these letters is that of the column
  pub word-from : (word : List ℕ) → length word ≡ M.rank →
      ((i : ℕ) → i < M.rank → slice_index word i ≡ entry_letter (matrix M f i j)) → word ≡ column_word (column_of M f j)
  word-from word e h =
      ext_get_or 0 word (column_word (column_of M f j)) (e ∙ sym word-length)
      (λ i l. let l' = subst (λ (n : ℕ). i < n) e l in h i l' ∙ sym (letter-at i l'))
