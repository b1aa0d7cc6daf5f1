-- Columns have a rank, and it is at most the number of their rows.
use Rattle.std.proofs.Common.{◌≡◌, ◌≢◌, ℕ, suc, ◌+◌, ◌<◌, ◌≤◌, refl, sym, ◌∙◌, subst, arith, List, [], ◌∷◌, ◌++◌, length}
use Rattle.matroid_theory.specs.Field.{plus, times, negative, inverse, IsField}
use Rattle.matroid_theory.specs.Matrix.{Matrix, IsRankOf}
use Rattle.matrix_lemmas.proofs.Bases.{rank_exists, set_bound}
use Rattle.matrix_lemmas.proofs.Ranks.{rank_pivot}
use Rattle.matrix_lemmas.proofs.Steps.{All, cleared_entry}
use Rattle.arrayvec.specs.ArrayVec.{ArrayVec}
use Rattle.std.specs.List.{slice_index}
use Rattle.elimination.specs.Columns.{matrix_of, AreColumns, IsRankOfColumns}
use Rattle.elimination.proofs.Lists.{codes_last, entry_last, length-last}

module _ (q : ℕ) (F : IsField q) where
  -- the rank is at most the number of rows
  rank_bound : (r n : ℕ) (A : Matrix) (k : ℕ) → ((i j : ℕ) → i < r → j < n → A i j < q) → IsRankOf q r n A All k → k ≤ r
  rank_bound r n A k c h = let (I, p) = h.reached in subst (λ m. m ≤ r) p.elements (set_bound q F r n A c I p.independent)

  -- the columns before the last, cleared at row e
  abbrev Cleared : ℕ → Matrix → ℕ → Matrix
  Cleared n A e i j = plus q (A i j) (times q (negative q (times q (A e j) (inverse q (A e n)))) (A i n))

  -- where the last column isn't 0, the rank is one more than that of the others, cleared: it is at least 1
  pivot_rank : (r n : ℕ) (A : Matrix) → ((i j : ℕ) → i < r → j < suc n → A i j < q) → (e : ℕ) → e < r → A e n ≢ 0 → (k : ℕ) × IsRankOf q r (suc n) A All (suc k)
  pivot_rank r n A c e l ne =
      let (k, h) = rank_exists q F r n (Cleared n A e) (λ i j _ _. F.plus_below _ _) All in (
        k,
        rank_pivot q F r n A c e l ne (Cleared n A e) (λ j. negative q (times q (A e j) (inverse q (A e n)))) (λ i j _ _. refl)
            (λ j m. cleared_entry q F (A e j) (A e n) (c e j l (omega arith)) (c e n l (omega arith)) ne) k h,
      )

-- where a pivot makes as many as there are rows, the rank is found
pub rank_full : (q : ℕ) (F : IsField q) (r : ℕ) (rest xs : List (ArrayVec ℕ)) (y : ArrayVec ℕ) (row : ℕ) → rest ≡ xs ++ y ∷ [] →
    AreColumns q r rest → row < r → slice_index y.items row ≢ 0
    → (columns : List (ArrayVec ℕ)) → AreColumns q r columns → (found : ℕ) →
    ((k : ℕ) → IsRankOfColumns q r rest k → IsRankOfColumns q r columns (found + k)) → found + 1 ≡ r → IsRankOfColumns q r columns (found + 1)
rank_full q F r rest xs y row e c l ne columns d found same full =
    let p = pivot_rank q F r (length xs) (matrix_of (xs ++ y ∷ [])) (codes_last q F r xs y (subst (AreColumns q r) e c)) row l
    (λ z. ne (sym (entry_last xs y row) ∙ z)) in
    let h : IsRankOfColumns q r rest (suc p.0) =
    subst (λ w. IsRankOfColumns q r w (suc p.0)) (sym e) (subst (λ n. IsRankOf q r n (matrix_of (xs ++ y ∷ [])) All (suc p.0)) (sym (length-last xs y)) p.1) in
    let b : found + suc p.0 ≤ r = rank_bound q F r (length columns) (matrix_of columns) (found + suc p.0)
    (λ i j m o. (let x = d j o in x.below i m)) (same (suc p.0) h) in
    subst (IsRankOfColumns q r columns) (omega arith) (same (suc p.0) h)
