-- Columns picked out of one factor, and coordinates in them.
use Rattle.std.proofs.Common.{◌≡◌, ℕ, ◌+◌, ◌*◌, ◌<◌, ◌↔◌, sym, ◌∙◌, ap, subst, arith, true, List, [], length, get_or}
use Rattle.std.specs.List.{slice_index, slice_index_or}
use Rattle.std.proofs.lemmas.List.{get_or-map, length-map}
use Rattle.arrayvec.specs.ArrayVec.{ArrayVec}
use Rattle.matroid_theory.specs.Field.{times, IsField}
use Rattle.matroid_theory.specs.Matrix.{combination, IsIndependent}
use Rattle.matroid_theory.specs.Rep.{Rep, count, order, size, matrix, column_of, KeepsLimits}
use Rattle.matrix_lemmas.proofs.FieldLaws.{field_laws}
use Rattle.matrix_lemmas.proofs.Ranks.{IsIndependent-codes}
use Rattle.matrix_lemmas.proofs.Sums.{sum_same, combination-same}
use Rattle.elimination.specs.Columns.{column, matrix_of, height, AreColumns, AreIndependent, IsColumn}
use Rattle.product_rep.proofs.MoveLemmas.{column-entry, column-length, column_codes}
use Rattle.canonical_form.specs.Search.{chosen, AreCoordinates}
use Rattle.small_lists.specs.Lists.{lists}

-- the columns of one factor that are picked out
pub record ArePicks (M : Rep) (f : ℕ) (columns : List ℕ) (w : List (ArrayVec ℕ)) : Type 0 where
  pub is_rep : KeepsLimits M
  pub factor : f < count M
  pub below : (l : ℕ) → l < length columns → slice_index columns l < size M
  pub numbers : length w ≡ length columns
  pub codes : (l : ℕ) → l < length columns → column w l ≡ column_of M f (slice_index columns l)

-- a column of the factor
pub factor_column_is : (M : Rep) (f k q : ℕ) (x : List ℕ) → KeepsLimits M → f < count M → k < size M → q ≡ order M f →
    x ≡ column_of M f k → IsColumn q (length x) x
factor_column_is M f k q x h l m e d = record {
  rows = λ _. length x;
  below = λ i n. column_codes M f k i q x h d e l (subst (λ (r : ℕ). i < r) (column-length M f k x d) n) m;
}

module _ (M : Rep) (f : ℕ) (columns : List ℕ) (w : List (ArrayVec ℕ)) (p : ArePicks M f columns w) where
  F : IsField (order M f)
  F = let h = p.is_rep in field_laws (order M f) (h.fields.fields f p.factor)

  picks_are_columns : (j : ℕ) → j < length columns → IsColumn (order M f) M.rank (column w j)
  picks_are_columns j m = record {
    rows = column-length M f (slice_index columns j) (column w j) (p.codes j m);
    below = λ i k. column_codes M f (slice_index columns j) i (order M f) (column w j) p.is_rep (p.codes j m) (λ _. order M f) p.factor k (p.below j m);
  }

  pick_code : (i j : ℕ) → i < M.rank → j < length columns → matrix_of w i j ≡ chosen M columns f i j
  pick_code i j k m = column-entry M f (slice_index columns j) i (column w j) (p.codes j m) k

  picks_height : 0 < length columns → height w ≡ M.rank
  picks_height s = column-length M f (slice_index columns 0) (column w 0) (p.codes 0 s)

  -- under the names that the code has for the order, the list and the number of rows
  pub named_columns : (q r : ℕ) (v : List (ArrayVec ℕ)) → q ≡ order M f → v ≡ w → r ≡ M.rank → AreColumns q r v
  named_columns q r v e d k j l =
      let n : length v ≡ length columns = ap (λ (w : List (ArrayVec ℕ)). length w) d ∙ p.numbers in
      subst (λ (x : ℕ). IsColumn x r (column v j)) (sym e)
      (subst (λ (x : ℕ). IsColumn (order M f) x (column v j)) (sym k)
      (subst (λ (w : List (ArrayVec ℕ)). IsColumn (order M f) M.rank (column w j)) (sym d) (picks_are_columns j (omega arith))))

  pub named_height : (v : List (ArrayVec ℕ)) → v ≡ w → 0 < length columns → height v ≡ M.rank
  named_height v d s = ap height d ∙ picks_height s

  pub named_independent : (q r : ℕ) (v : List (ArrayVec ℕ)) → q ≡ order M f → v ≡ w → r ≡ M.rank →
      AreIndependent q r v ↔ IsIndependent (order M f) M.rank (length columns) (chosen M columns f) (λ _. true)
  named_independent q r v e d k =
      subst (λ (v : List (ArrayVec ℕ)). AreIndependent q r v ↔ P) (sym d)
      (subst (λ (x : ℕ). AreIndependent q x w ↔ P) (sym k) (subst (λ (x : ℕ). AreIndependent x M.rank w ↔ P) (sym e) (
        (λ i. IsIndependent-codes (order M f) M.rank (length columns) (matrix_of w) (chosen M columns f) (λ _. true) pick_code
            (subst (λ (n : ℕ). IsIndependent (order M f) M.rank n (matrix_of w) (λ _. true)) p.numbers i)),
        (λ i. subst (λ (n : ℕ). IsIndependent (order M f) M.rank n (matrix_of w) (λ _. true)) (sym p.numbers)
            (IsIndependent-codes (order M f) M.rank (length columns) (chosen M columns f) (matrix_of w) (λ _. true) (λ i j l m. sym (pick_code i j l m)) i)),
      )))
    where
      P : Type 0
      P = IsIndependent (order M f) M.rank (length columns) (chosen M columns f) (λ _. true)

  -- coefficients that combine the picked columns to a column are its coordinates
  pub named_combination : (q k : ℕ) (v : List (ArrayVec ℕ)) (a y : List ℕ) → q ≡ order M f → v ≡ w → y ≡ column_of M f k → length columns ≡ M.rank
      → ((i : ℕ) → i < length y → combination q (length v) (matrix_of v) (slice_index a) i ≡ slice_index y i)
      → (i : ℕ) → i < M.rank → combination (order M f) M.rank (chosen M columns f) (slice_index a) i ≡ matrix M f i k
  named_combination q k v a y e d c n h i l =
      let ly : length y ≡ M.rank = column-length M f k y c in
      let lv : length v ≡ M.rank = ap (λ (w : List (ArrayVec ℕ)). length w) d ∙ p.numbers ∙ n in
      let h' : combination q (length v) (matrix_of v) (slice_index a) i ≡ slice_index y i = h i (omega arith) in
      sum_same (order M f) F M.rank (λ j. times (order M f) (chosen M columns f i j) (slice_index a j))
      (λ j. times (order M f) (matrix_of w i j) (slice_index a j))
      (λ j m. ap (λ (x : ℕ). times (order M f) x (slice_index a j)) (sym (pick_code i j l (omega arith))))
      ∙ (λ u. combination (sym e u) (sym lv u) (matrix_of (sym d u)) (slice_index a) i)
      ∙ h'
      ∙ column-entry M f k i y c l

-- the coordinates in the factors, row by row and factor by factor
pub coordinates_are : (M : Rep) (basis : List ℕ) (k : ℕ) (bs : List (ArrayVec ℕ)) (v : List ℕ) → KeepsLimits M
    → ((f : ℕ) → f < count M → IsColumn (order M f) M.rank (column bs f))
    → ((f : ℕ) → f < count M → (i : ℕ) → i < M.rank → combination (order M f) M.rank (chosen M basis f) (slice_index (column bs f)) i ≡ matrix M f i k)
    → length v ≡ M.rank * count M →
    ((i f : ℕ) → i < M.rank → f < count M → slice_index v (i * count M + f) ≡ slice_index (column bs f) i) → AreCoordinates M basis k v
coordinates_are M basis k bs v h c e n d = record {
  column = record {
    rows = n;
    codes = λ i f l m. subst (λ (x : ℕ). x < order M f) (sym (d i f l m)) (let b = c f m in b.below i l);
  };
  combined = λ f i l m.
      combination-same (order M f) (field_laws (order M f) (h.fields.fields f l)) M.rank (chosen M basis f)
      (λ j. slice_index v (j * count M + f)) (slice_index (column bs f)) i (λ j o. d j f o l)
      ∙ e f l i m;
}

-- an item of a list whose codes are known
pub list_item : (xs : List (ArrayVec ℕ)) (ys : List (List ℕ)) (i : ℕ) (x : ArrayVec ℕ) → lists xs ≡ ys → i < length xs →
    x ≡ get_or xs i x → slice_index_or ys i [] ≡ x.items
list_item xs ys i x e l d = ap (λ (w : List (List ℕ)). slice_index_or w i []) (sym e)
    ∙ get_or-map (λ (v : ArrayVec ℕ). v.items) xs i x [] l ∙ ap (λ (v : ArrayVec ℕ). v.items) (sym d)

pub lists_length : (xs : List (ArrayVec ℕ)) (ys : List (List ℕ)) → lists xs ≡ ys → length xs ≡ length ys
lists_length xs ys e = sym (length-map xs (λ v. v.items)) ∙ ap (λ (w : List (List ℕ)). length w) e
