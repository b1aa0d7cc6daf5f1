-- The coefficients of a column in a basis: a step of elimination keeps them, and its equations determine them.
use Rattle.std.proofs.Common.{◌≡◌, ◌≢◌, ℕ, suc, ◌+◌, ◌<◌, ◌≤◌, refl, sym, ◌∙◌, ap, subst, arith, add-one, List, [], ◌∷◌, ◌++◌, length, length-append, inl, inr, true}
use Rattle.std.proofs.lemmas.Bool.{cases_lt}
use Rattle.std.proofs.Math.Seq.{get_or-append_seam}
use Rattle.std.proofs.Math.ListN.{get_or-append}
use Rattle.std.specs.List.{slice_index}
use Rattle.arrayvec.specs.ArrayVec.{ArrayVec}
use Rattle.matroid_theory.specs.Field.{plus, times, negative, inverse, IsField}
use Rattle.matroid_theory.specs.Matrix.{Matrix, sum_below, combination, IsIndependent}
use Rattle.matrix_lemmas.proofs.Dimension.{spanning}
use Rattle.matrix_lemmas.proofs.Sums.{plus_cancel, plus_zero_right, sum_same, sum_zero, zero_times, sum_below-code, combination-same}
use Rattle.matrix_lemmas.proofs.Frobenius.{times_undone}
use Rattle.matrix_lemmas.proofs.Steps.{B_combination, share, cleared_entry}
use Rattle.elimination.specs.Columns.{column, matrix_of, IsColumn, AreColumns, AreIndependent}
use Rattle.elimination.specs.Cleared.{multiple, IsClearedBy, AreClearedBy}
use Rattle.elimination.specs.Equations.{sum_of_products, IsEquation, AreTriangle, Meets}
use Rattle.elimination.proofs.Lists.{IsStep, cleared_step, length-last, entry_last, column_before, column_last, columns_before, column_at_last, step}

-- the columns combine with the coefficients a to the column target
abbrev pub Combines : ℕ → ℕ → List (ArrayVec ℕ) → (ℕ → ℕ) → List ℕ → Type 0
Combines q r columns a target = (i : ℕ) → i < r → combination q (length columns) (matrix_of columns) a i ≡ slice_index target i

module _ (q : ℕ) (F : IsField q) where
  -- a sum with one more term
  pub sum_next : (n : ℕ) (f : ℕ → ℕ) → sum_below q (n + 1) f ≡ plus q (sum_below q n f) (f n)
  sum_next n f = ap (λ k. sum_below q k f) (add-one n)

  -- p x = t - s, where s + p x = t
  last_value : (s p x t : ℕ) → p < q → p ≢ 0 → x < q → plus q s (times q p x) ≡ t → x ≡ times q (plus q t (negative q s)) (inverse q p)
  last_value s p x t l ne m e =
      sym (ap (λ y. times q y (inverse q p)) difference ∙ F.times_comm (times q p x) (inverse q p) ∙ times_undone q F p x l ne m)
    where
      difference : plus q t (negative q s) ≡ times q p x
      difference =
          ap (λ y. plus q y (negative q s)) (sym e ∙ F.plus_comm s (times q p x))
          ∙ F.plus_assoc (times q p x) s (negative q s)
          ∙ ap (plus q (times q p x)) (F.plus_negative s)
          ∙ plus_zero_right q F (times q p x) (F.times_below p x)

  -- coefficients that combine to b combine, after a step, to b with the same step
  next_target : (r n : ℕ) (A B : Matrix) (m : ℕ → ℕ) (e : ℕ) → IsStep q r n A B m e
      → (a b b' : ℕ → ℕ) (k : ℕ) → ((i : ℕ) → i < r → b' i ≡ plus q (b i) (times q k (A i n))) → b' e ≡ 0
      → ((i : ℕ) → i < r → combination q (suc n) A a i ≡ b i) → (i : ℕ) → i < r → combination q n B a i ≡ b' i
  unfolding share
  next_target r n A B m e s a b b' k step z h i o =
      B_is i o ∙ ap (λ x. plus q (combination q n A a i) (times q (A i n) x)) same_share ∙ sym (target_is i o)
    where
      last_code : (i : ℕ) → i < r → A i n < q
      last_code i o = s.codes i n o (omega arith)

      S : ℕ
      S = sum_below q n (λ j. times q (m j) (a j))

      B_is : (i : ℕ) → i < r → combination q n B a i ≡ plus q (combination q n A a i) (times q (A i n) S)
      B_is i o = B_combination q F r n A B m e s.row last_code s.pivot s.sums s.zeros a i o

      target_is : (i : ℕ) → i < r → b' i ≡ plus q (combination q n A a i) (times q (A i n) (plus q (a n) k))
      target_is i o =
          step i o
          ∙ ap (λ x. plus q x (times q k (A i n))) (sym (h i o))
          ∙ F.plus_assoc (combination q n A a i) (times q (A i n) (a n)) (times q k (A i n))
          ∙ ap (plus q (combination q n A a i)) (ap (plus q (times q (A i n) (a n))) (F.times_comm k (A i n)) ∙ sym (F.times_plus (A i n) (a n) k))

      B_zero : combination q n B a e ≡ 0
      B_zero = sum_same q F n (λ j. times q (B e j) (a j)) (λ _. 0) (λ j l. ap (λ x. times q x (a j)) (s.zeros j l) ∙ zero_times q F (a j)) ∙ sum_zero q F n

      same_product : times q (A e n) S ≡ times q (A e n) (plus q (a n) k)
      same_product =
          plus_cancel q F (combination q n A a e) (times q (A e n) S) (times q (A e n) (plus q (a n) k)) (F.times_below (A e n) S)
          (F.times_below (A e n) (plus q (a n) k))
          (sym (B_is e s.row) ∙ B_zero ∙ sym z ∙ target_is e s.row)

      same_share : S ≡ plus q (a n) k
      same_share =
          sym (times_undone q F (A e n) S (last_code e s.row) s.pivot (sum_below-code q F n (λ j. times q (m j) (a j))))
          ∙ ap (times q (inverse q (A e n))) same_product
          ∙ times_undone q F (A e n) (plus q (a n) k) (last_code e s.row) s.pivot (F.plus_below (a n) k)

  module _ (r : ℕ) (rest xs ys : List (ArrayVec ℕ)) (y : ArrayVec ℕ) (row : ℕ) (e : rest ≡ xs ++ y ∷ []) (c : AreColumns q r rest)
      (l : row < r) (ne : slice_index y.items row ≢ 0)
      (same : length ys ≡ length xs) (h : AreClearedBy q row y.items xs ys) where
    -- the step, and the equation with the last column as the last term
    the_step : IsStep q r (length xs) (matrix_of (xs ++ y ∷ [])) (matrix_of ys) (λ j. multiple q row y.items (column xs j)) row
    the_step = cleared_step q F r xs ys y row (subst (AreColumns q r) e c) l ne h

    of_whole : (a : ℕ → ℕ) (target : List ℕ) → Combines q r rest a target → (i : ℕ) → i < r →
        combination q (suc (length xs)) (matrix_of (xs ++ y ∷ [])) a i ≡ slice_index target i
    of_whole a target z i o =
        sym (ap (λ n. combination q n (matrix_of (xs ++ y ∷ [])) a i) (length-last xs y))
        ∙ (let w : Combines q r (xs ++ y ∷ []) a target = subst (λ v. Combines q r v a target) e z in w i o)

    -- coefficients that combine to a column combine, after a step, to the cleared column
    pub solved_step : (old new : List ℕ) → IsColumn q r old → IsClearedBy q row y.items old new → (a : ℕ → ℕ) → Combines q r rest a old → Combines q r ys a new
    unfolding multiple
    solved_step old new o d a z i k =
        ap (λ n. combination q n (matrix_of ys) a i) same
        ∙ next_target r (length xs) (matrix_of (xs ++ y ∷ [])) (matrix_of ys)
        (λ j. multiple q row y.items (column xs j)) row the_step a (slice_index old) (slice_index new)
        (multiple q row y.items old) sums zero (of_whole a old z) i k
      where
        y_column : IsColumn q r y.items
        y_column = column_at_last q F r rest xs y e c

        inside : (i : ℕ) → i < r → i < length y.items
        inside i k = subst (λ n. i < n) (sym y_column.rows) k

        sums : (i : ℕ) → i < r → slice_index new i ≡ plus q (slice_index old i) (times q (multiple q row y.items old) (matrix_of (xs ++ y ∷ []) i (length xs)))
        sums i k = d.sums i (inside i k) ∙ ap (λ x. plus q (slice_index old i) (times q (multiple q row y.items old) x)) (sym (entry_last xs y i))

        zero : slice_index new row ≡ 0
        zero = d.sums row (inside row l) ∙ cleared_entry q F (slice_index old row) (slice_index y.items row) (o.below row l) (y_column.below row l) ne

    -- and they meet the equation of the pivot row
    pub met_step : (codes : List ℕ) → ((j : ℕ) → j < length xs → slice_index codes j ≡ matrix_of xs row j) →
        slice_index codes (length xs) ≡ slice_index y.items row → (old : List ℕ) (a : ℕ → ℕ) → Combines q r rest a old →
        sum_of_products q (suc (length xs)) codes a ≡ slice_index old row
    met_step codes before last old a z =
        (λ t. plus q (others t) (times q ((last ∙ sym (entry_last xs y row)) t) (a (length xs)))) ∙ of_whole a old z row l
      where
        others : sum_of_products q (length xs) codes a ≡ combination q (length xs) (matrix_of (xs ++ y ∷ [])) a row
        others =
            sum_same q F (length xs) (λ j. times q (slice_index codes j) (a j)) (λ j. times q (matrix_of (xs ++ y ∷ []) row j) (a j))
            (λ j k. ap (λ x. times q x (a j)) (before j k ∙ ap (λ (v : List ℕ). slice_index v row) (sym (column_before xs y j k))))

    -- the equation of the pivot row
    pub is_equation : (codes : List ℕ) → length codes ≡ length xs + 1 →
        ((j : ℕ) → j < length xs → slice_index codes j ≡ matrix_of xs row j) →
        slice_index codes (length xs) ≡ slice_index y.items row → IsEquation q (length xs) codes
    is_equation codes count before last = record {
      codes = record {
        rows = count ∙ add-one (length xs);
        below = λ j k. elim (cases_lt j (length xs)) [
          | inl b ↦ subst (λ (x : ℕ). x < q) (sym (before j b)) (let x = columns_before q F r rest xs y e c j b in x.below row l)
          | inr g ↦ (let i : j ≡ length xs = omega arith in
              subst (λ (x : ℕ). x < q) (sym (ap (slice_index codes) i ∙ last)) (let x = column_at_last q F r rest xs y e c in x.below row l))
        ];
      };
      last = λ z. ne (sym last ∙ z);
    }

  -- the value that meets an equation after those before it
  pub next_value : (vs row : List ℕ) (side : ℕ) → IsEquation q (length vs) row → (a : ℕ → ℕ) →
      ((j : ℕ) → j < length vs → a j ≡ slice_index vs j) → a (length vs) < q → sum_of_products q (suc (length vs)) row a ≡ side
      → a (length vs) ≡ times q (plus q side (negative q (sum_of_products q (length vs) row (slice_index vs)))) (inverse q (slice_index row (length vs)))
  next_value vs row side d a known c m =
      last_value (sum_of_products q (length vs) row (slice_index vs)) (slice_index row (length vs)) (a (length vs)) side
      (let x = d.codes in x.below (length vs) (omega arith)) d.last c
      (ap (λ x. plus q x (times q (slice_index row (length vs)) (a (length vs)))) others ∙ m)
    where
      others : sum_of_products q (length vs) row (slice_index vs) ≡ sum_of_products q (length vs) row a
      others = sum_same q F (length vs) (λ j. times q (slice_index row j) (slice_index vs j))
          (λ j. times q (slice_index row j) (a j)) (λ j k. ap (times q (slice_index row j)) (sym (known j k)))

-- one more value
pub one_more : (vs : List ℕ) (v : ℕ) (a : ℕ → ℕ) → ((j : ℕ) → j < length vs → a j ≡ slice_index vs j) → a (length vs) ≡ v →
    (j : ℕ) → j < length (vs ++ v ∷ []) → a j ≡ slice_index (vs ++ v ∷ []) j
one_more vs v a known e j l =
    elim (cases_lt j (length vs)) [
      | inl b ↦ known j b ∙ sym (get_or-append vs (v ∷ []) 0 j b)
      | inr g ↦ (let i : j ≡ length vs = omega (arith, length-append vs (v ∷ [])) in ap a i ∙ e ∙ sym (get_or-append_seam vs v [] 0)
          ∙ ap (slice_index (vs ++ v ∷ [])) (sym i))
    ]

-- one more code of a column
pub column_more : (q n : ℕ) (vs : List ℕ) (v : ℕ) → IsColumn q n vs → v < q → IsColumn q (n + 1) (vs ++ v ∷ [])
column_more q n vs v c l = record {
  rows = (let e = c.rows in omega (arith, length-append vs (v ∷ [])));
  below = λ i k. elim (cases_lt i (length vs)) [
    | inl b ↦ subst (λ (x : ℕ). x < q) (sym (get_or-append vs (v ∷ []) 0 i b)) (c.below i (subst (λ n. i < n) c.rows b))
    | inr g ↦ (let r = c.rows in let e : i ≡ length vs = omega arith in
        subst (λ (x : ℕ). x < q) (sym (ap (slice_index (vs ++ v ∷ [])) e ∙ get_or-append_seam vs v [] 0)) l)
  ];
}

-- one more equation
pub triangle_more : (q r n : ℕ) (es : List (ArrayVec ℕ)) (y : ArrayVec ℕ) → length es + suc n ≡ r → AreTriangle q r es →
    IsEquation q n y.items → AreTriangle q r (es ++ y ∷ [])
triangle_more q r n es y e t d l m k s =
    elim (cases_lt l (length es)) [
      | inl b ↦ subst (IsEquation q m) (sym (column_before es y l b)) (t l m b s)
      | inr g ↦ (let i : l ≡ length es = omega (arith, length-append es (y ∷ [])) in
          subst (IsEquation q m) (sym (ap (column (es ++ y ∷ [])) i ∙ column_last es y))
          (let o : n ≡ m = omega arith in subst (λ x. IsEquation q x y.items) o d))
    ]

-- and its right side
pub meets_more : (q r n : ℕ) (es : List (ArrayVec ℕ)) (y : ArrayVec ℕ) (sides : List ℕ) (side : ℕ) (a : ℕ → ℕ) →
    length es + suc n ≡ r → length sides ≡ length es → Meets q r es sides a → sum_of_products q (suc n) y.items a ≡ side →
    Meets q r (es ++ y ∷ []) (sides ++ side ∷ []) a
meets_more q r n es y sides side a e f m d l k o s =
    elim (cases_lt l (length es)) [
      | inl b ↦ ap (λ (v : List ℕ). sum_of_products q (suc k) v a) (column_before es y l b) ∙ m l k b s
          ∙ sym (get_or-append sides (side ∷ []) 0 l (subst (λ n. l < n) (sym f) b))
      | inr g ↦ (let i : l ≡ length es = omega (arith, length-append es (y ∷ [])) in
          let p : k ≡ n = omega arith in
          ap (λ (v : List ℕ). sum_of_products q (suc k) v a) (ap (column (es ++ y ∷ [])) i ∙ column_last es y)
          ∙ ap (λ n. sum_of_products q (suc n) y.items a) p ∙ d ∙ sym (get_or-append_seam sides side [] 0) ∙ ap (slice_index (sides ++ side ∷ [])) (f ∙ sym i))
    ]

-- what elimination keeps: the columns that are left, the target and the equations so far, of a basis and a column b
pub record IsReduced (q r : ℕ) (basis : List (ArrayVec ℕ)) (b : List ℕ) (rest : List (ArrayVec ℕ)) (target : List ℕ)
    (equations : List (ArrayVec ℕ)) (sides : List ℕ) : Type 0 where
  pub count : length rest + length equations ≡ r
  pub few : r ≤ 6
  pub codes : AreColumns q r rest
  pub independent : AreIndependent q r rest
  pub target_codes : IsColumn q r target
  pub triangle : AreTriangle q r equations
  pub side_codes : IsColumn q (length equations) sides
  -- the coefficients that combine the basis to b combine the rest to the target, and meet the equations
  pub kept : (a : ℕ → ℕ) → ((j : ℕ) → j < r → a j < q) → Combines q r basis a b → Combines q r rest a target × Meets q r equations sides a

-- at the start nothing is taken off
pub reduced_start : (q r : ℕ) (basis : List (ArrayVec ℕ)) (b : List ℕ) (rest : List (ArrayVec ℕ)) (target : List ℕ)
    (equations : List (ArrayVec ℕ)) (sides : List ℕ) → rest ≡ basis → target ≡ b → equations ≡ [] → sides ≡ []
    → length basis ≡ r → r ≤ 6 → AreColumns q r basis → IsColumn q r b → AreIndependent q r basis → IsReduced q r basis b rest target equations sides
reduced_start q r basis b rest target equations sides e f g h s l c d i =
    subst (λ w. IsReduced q r basis b w target equations sides) (sym e)
    (subst (λ w. IsReduced q r basis b basis w equations sides) (sym f)
    (subst (λ w. IsReduced q r basis b basis b w sides) (sym g)
    (subst (λ w. IsReduced q r basis b basis b [] w) (sym h)
    (record {
      count = omega arith;
      few = l;
      codes = c;
      independent = i;
      target_codes = d;
      triangle = λ l n m k. absurd (omega arith);
      side_codes = record { rows = refl; below = λ i l. absurd (omega arith) };
      kept = λ a k z. (z, λ l n m o. absurd (omega arith));
    }))))

-- the last column of the rest, the others and the target have the same rows
module _ {q r : ℕ} {basis : List (ArrayVec ℕ)} {b : List ℕ} {rest : List (ArrayVec ℕ)} {target : List ℕ}
    {equations : List (ArrayVec ℕ)} {sides : List ℕ} (F : IsField q) (s : IsReduced q r basis b rest target equations sides)
    (xs : List (ArrayVec ℕ)) (y : ArrayVec ℕ) (e : rest ≡ xs ++ y ∷ []) where
  rows : length y.items ≡ r
  rows = let y' = column_at_last q F r rest xs y e s.codes in y'.rows

  pub last_column : IsColumn q (length y.items) y.items
  last_column = subst (λ n. IsColumn q n y.items) (sym rows) (column_at_last q F r rest xs y e s.codes)

  pub other_columns : AreColumns q (length y.items) xs
  other_columns = subst (λ n. AreColumns q n xs) (sym rows) (columns_before q F r rest xs y e s.codes)

  pub target_column : IsColumn q (length y.items) target
  target_column = subst (λ n. IsColumn q n target) (sym rows) s.target_codes

-- a step takes one column off and adds its equation
pub reduced_step : (q : ℕ) (F : IsField q) (r : ℕ) (basis : List (ArrayVec ℕ)) (b : List ℕ) (rest : List (ArrayVec ℕ))
    (target : List ℕ) (equations : List (ArrayVec ℕ)) (sides : List ℕ) → IsReduced q r basis b rest target equations sides
    → (xs ys : List (ArrayVec ℕ)) (y : ArrayVec ℕ) (row : ℕ) → rest ≡ xs ++ y ∷ [] → row < r → slice_index y.items row ≢ 0 →
    length ys ≡ length xs → AreClearedBy q row y.items xs ys
    → (new : List ℕ) → IsClearedBy q row y.items target new
    → (codes : ArrayVec ℕ) → length codes.items ≡ length xs + 1 →
    ((j : ℕ) → j < length xs → slice_index codes.items j ≡ matrix_of xs row j) → slice_index codes.items (length xs) ≡ slice_index y.items row
    → (equations' : List (ArrayVec ℕ)) (sides' : List ℕ) → equations' ≡ equations ++ codes ∷ [] → sides' ≡ sides ++ slice_index target row ∷ []
    → IsReduced q r basis b ys new equations' sides'
reduced_step q F r basis b rest target equations sides s xs ys y row e l ne same h new d codes count before last equations' sides' f g =
    subst (λ w. IsReduced q r basis b ys new w sides') (sym f)
    (subst (λ w. IsReduced q r basis b ys new (equations ++ codes ∷ []) w) (sym g)
    (record {
      count = omega (arith, place, length-append equations (codes ∷ []));
      few = s.few;
      codes = λ j k. (let x = h j (subst (λ n. j < n) same k) in subst (λ n. IsColumn q n (column ys j)) y_column.rows x.column);
      independent = (step q F r rest xs ys y row e s.codes l ne same h).1 s.independent;
      target_codes = subst (λ n. IsColumn q n new) y_column.rows d.column;
      triangle = triangle_more q r (length xs) equations codes place s.triangle
          (is_equation q F r rest xs ys y row e s.codes l ne same h codes.items count before last);
      side_codes = subst (λ n. IsColumn q n (sides ++ slice_index target row ∷ []))
          (omega (arith, length-append equations (codes ∷ [])))
          (column_more q (length equations) sides (slice_index target row) s.side_codes (let t = s.target_codes in t.below row l));
      kept = λ a k z. (let o = s.kept a k z in (
        solved_step q F r rest xs ys y row e s.codes l ne same h target new s.target_codes d a o.0,
        meets_more q r (length xs) equations codes sides (slice_index target row) a place (let t = s.side_codes in t.rows) o.1
            (met_step q F r rest xs ys y row e s.codes l ne same h codes.items before last target a o.0),
      ));
    }))
  where
    y_column : IsColumn q r y.items
    y_column = column_at_last q F r rest xs y e s.codes

    more : length rest ≡ length xs + 1
    more = ap (λ (w : List (ArrayVec ℕ)). length w) e ∙ length-append xs (y ∷ [])

    place : length equations + suc (length xs) ≡ r
    place = let c = s.count in omega (arith, more)

-- when no column is left, the equations are all and the values that meet them are the coefficients
module _ {q r : ℕ} {basis : List (ArrayVec ℕ)} {b : List ℕ} {rest : List (ArrayVec ℕ)} {target : List ℕ}
    {equations : List (ArrayVec ℕ)} {sides : List ℕ} (s : IsReduced q r basis b rest target equations sides)
    (nothing : length rest ≡ 0) (es : List (ArrayVec ℕ)) (e : es ≡ equations) where
  pub all_equations : length es ≡ r
  all_equations = let c = s.count in ap (λ (w : List (ArrayVec ℕ)). length w) e ∙ omega arith

  pub whole_triangle : AreTriangle q (length es) es
  whole_triangle = subst (λ n. AreTriangle q n es) (sym all_equations) (subst (AreTriangle q r) (sym e) s.triangle)

  pub only_coefficients : length basis ≡ r → (x : List ℕ) →
      ((a : ℕ → ℕ) → ((j : ℕ) → j < length es → a j < q) → Meets q (length es) es sides a → (j : ℕ) → j < length es → a j ≡ slice_index x j)
      → (a : ℕ → ℕ) → ((j : ℕ) → j < length basis → a j < q) → Combines q r basis a b → (j : ℕ) → j < length basis → a j ≡ slice_index x j
  only_coefficients f x only a c z j l =
      let same : length basis ≡ length es = f ∙ sym all_equations in
      let k = s.kept a (λ j l. c j (subst (λ n. j < n) (sym f) l)) z in
      only a (λ j l. c j (subst (λ n. j < n) (sym same) l))
      (subst (λ n. Meets q n es sides a) (sym all_equations) (subst (λ w. Meets q r w sides a) (sym e) k.1)) j (subst (λ n. j < n) same l)

-- what every solution has to be is a solution
pub only_combines : (q : ℕ) (F : IsField q) (r : ℕ) (basis : List (ArrayVec ℕ)) (b x : List ℕ) → length basis ≡ r →
    AreColumns q r basis → IsColumn q r b → AreIndependent q r basis
    → ((a : ℕ → ℕ) → ((j : ℕ) → j < length basis → a j < q) → Combines q r basis a b → (j : ℕ) → j < length basis →
    a j ≡ slice_index x j) → Combines q r basis (slice_index x) b
only_combines q F r basis b x e c d i only k l =
    sym (combination-same q F (length basis) (matrix_of basis) s.0 (slice_index x) k (only s.0 (λ j m. s.1 j (subst (λ n. j < n) e m)) solves)) ∙ solves k l
  where
    s : (a : ℕ → ℕ) × ((j : ℕ) → j < r → a j < q) × ((i : ℕ) → i < r → combination q r (matrix_of basis) a i ≡ slice_index b i)
    s = spanning q F r (matrix_of basis) (λ i j l m. (let x = c j (subst (λ n. j < n) (sym e) m) in x.below i l))
        (subst (λ n. IsIndependent q r n (matrix_of basis) (λ _. true)) e i) (slice_index b) d.below

    solves : Combines q r basis s.0 b
    solves k l = ap (λ n. combination q n (matrix_of basis) s.0 k) e ∙ s.2 k l
