-- The move that changes nothing.
use Rattle.std.proofs.Common.{◌≡◌, ◌≢◌, ℕ, ◌+◌, ◌*◌, ◌/◌, ◌%◌, ◌<◌, ◌≤◌, refl, sym, ◌∙◌, ap, subst, arith, List, [], ◌∷◌, ◌++◌, length, inl, inr, Some, None, cond}
use Rattle.std.specs.Bool.{◌==◌, nat_lt}
use Rattle.std.specs.List.{slice_index, position, position_or_len}
use Rattle.std.specs.Prelude.{unwrap_or}
use Rattle.std.proofs.lemmas.Bool.{cases_lt}
use Rattle.std.proofs.lemmas.Nat.{div-mul-add, mod-mul-add}
use Rattle.std.proofs.lemmas.List.Sums.{position_or_len_is}
use Rattle.std.proofs.Math.Seq.{get_or-append_seam}
use Rattle.std.proofs.Math.ListN.{get_or-append}
use Rattle.std.proofs.lemmas.Grind.{common_steps}
use Rattle.matroid_theory.specs.declared.Mode.{Mode}
use Rattle.matroid_theory.specs.Field.{times, raised, degree, IsField}
use Rattle.matroid_theory.specs.Matrix.{Matrix, unit, matrix_product, sum_below}
use Rattle.matroid_theory.specs.Rep.{Rep, size, count, order, matrix, shape, KeepsLimits}
use Rattle.matroid_theory.specs.Move.{MoveTable, AllowsPower, IsMove, TakesTo, moved, move_of, row_place, scalar_place}
use Rattle.matroid_laws.proofs.Equivalence.{allowed_zero}
use Rattle.matrix_lemmas.proofs.FieldLaws.{field_laws}
use Rattle.matrix_lemmas.proofs.Frobenius.{raised_below}
use Rattle.matrix_lemmas.proofs.Sums.{sum_same, combination-unit, same_number, other_number}
use Rattle.matrix_lemmas.proofs.Dimension.{unit_code}
use Rattle.product_rep.proofs.PiecesLemmas.{place_below}

-- one more entry of a list that follows a function
pub one_more : (g : ℕ → ℕ) (xs ys : List ℕ) (x n : ℕ) → length xs ≡ n → ys ≡ xs ++ x ∷ [] →
    ((p : ℕ) → p < n → slice_index xs p ≡ g p) → x ≡ g n → (p : ℕ) → p < n + 1 → slice_index ys p ≡ g p
one_more g xs ys x n l e h k p b =
    ap (λ (ys : List ℕ). slice_index ys p) e
    ∙ elim (cases_lt p n) [
      | inl d ↦ get_or-append xs (x ∷ []) 0 p (omega arith) ∙ h p d
      | inr d ↦ (let s : p ≡ length xs = omega arith in let u : n ≡ p = omega arith in
          ap (λ (p : ℕ). slice_index (xs ++ x ∷ []) p) s ∙ get_or-append_seam xs x [] 0 ∙ k ∙ ap g u)
    ]

-- the entries of identity matrices, one after another
pub unit-at : (c r n : ℕ) (xs : List ℕ) → c * r * r ≤ n → ((p : ℕ) → p < n → slice_index xs p ≡ unit (p / r % r) (p % r)) →
    (f i k : ℕ) → f < c → i < r → k < r → slice_index xs ((f * r + i) * r + k) ≡ unit i k
unit-at c r n xs e h f i k l m o =
    let b : (f * r + i) * r + k < c * r * r = place_below (c * r) r (f * r + i) k (place_below c r f i l m) o in
    h ((f * r + i) * r + k) (omega arith)
    ∙ (λ u. unit (div-mul-add (f * r + i) r k o u % r) (mod-mul-add (f * r + i) r k o u))
    ∙ ap (λ (x : ℕ). unit x k) (mod-mul-add f r i m)

-- where a number first stands in a list
pub place-at : (xs : List ℕ) (j i : ℕ) → i < length xs → slice_index xs i ≡ j → ((k : ℕ) → k < i → slice_index xs k ≢ j) →
    unwrap_or (position (λ l. l == j) xs) 0 ≡ i
place-at xs j i l e n = found (position_or_len (λ l. l == j) xs)
    (position_or_len_is (λ l. l == j) xs i 0 (omega arith) (λ k b. other_number (slice_index xs k) j (n k b))
    (λ _. ap (λ (x : ℕ). x == j) e ∙ same_number j))
  where
    found : (p : ℕ) → p ≡ i → unwrap_or (cond (nat_lt p (length xs)) (Some p) None) 0 ≡ i
    found p e = grind (arith, common_steps)

-- a number that is none of the list's
pub place-none : (xs : List ℕ) (j : ℕ) → ((k : ℕ) → k < length xs → slice_index xs k ≢ j) → unwrap_or (position (λ l. l == j) xs) 0 ≡ 0
place-none xs j n = found (position_or_len (λ l. l == j) xs)
    (position_or_len_is (λ l. l == j) xs (length xs) 0 (omega arith) (λ k b. other_number (slice_index xs k) j (n k b))
    (λ d. absurd (omega arith)))
  where
    found : (p : ℕ) → p ≡ length xs → unwrap_or (cond (nat_lt p (length xs)) (Some p) None) 0 ≡ 0
    found p e = grind (arith, common_steps)

-- the product of two identity matrices
unit-product : (q r : ℕ) → IsField q → (A B : Matrix) → ((i k : ℕ) → i < r → k < r → A i k ≡ unit i k) →
    ((i k : ℕ) → i < r → k < r → B i k ≡ unit i k) → (i j : ℕ) → i < r → j < r → matrix_product q r A B i j ≡ unit i j
unit-product q r F A B a b i j l m =
    sum_same q F r (λ k. times q (A i k) (B k j)) (λ k. times q (unit i k) (unit k j)) (λ k o. λ u. times q (a i k l o u) (b k j o m u))
    ∙ combination-unit q F r (λ k. unit k j) i l (unit_code q F i j)

-- tables of unit matrices, scalars 1 and each column's own label
module _ (M : Rep) (t : MoveTable) (h : KeepsLimits M)
    (rows : (f i k : ℕ) → f < count M → i < M.rank → k < M.rank → slice_index t.rows (row_place t.shape f i k) ≡ unit i k)
    (scalars : (f j : ℕ) → f < count M → j < size M → slice_index t.scalars (scalar_place t.shape f j) ≡ 1)
    (labels : (j : ℕ) → j < size M → slice_index t.labels j ≡ j) where
  field : (f : ℕ) → f < count M → IsField (order M f)
  field f l = field_laws (order M f) (h.fields.fields f l)

  pub identity_valid : (mode : Mode) → ((f : ℕ) → f < count M → slice_index t.powers f ≡ 0)
      → ((f i k : ℕ) → f < count M → i < M.rank → k < M.rank → slice_index t.back (row_place t.shape f i k) ≡ unit i k)
      → length t.labels ≡ size M → IsMove mode (shape M) (move_of t)
  identity_valid mode powers back e = record {
    powers = λ f l. subst (λ (x : ℕ). x < degree (order M f)) (sym (powers f l)) (field f l).degree_positive;
    allowed = λ f l. subst (AllowsPower mode) (sym (powers f l)) (allowed_zero mode);
    codes = λ f i k l m o. subst (λ (x : ℕ). x < order M f) (sym (rows f i k l m o)) (unit_code (order M f) (field f l) i k);
    back_codes = λ f i k l m o. subst (λ (x : ℕ). x < order M f) (sym (back f i k l m o)) (unit_code (order M f) (field f l) i k);
    inverse = λ f l. record {
      right = unit-product (order M f) M.rank (field f l) _ _ (λ i k. rows f i k l) (λ i k. back f i k l);
      left = unit-product (order M f) M.rank (field f l) _ _ (λ i k. back f i k l) (λ i k. rows f i k l);
    };
    scalars = λ f j l m. subst (λ (x : ℕ). x < order M f) (sym (scalars f j l m)) (field f l).two;
    nonzero = λ f j l m z. (let z : 1 ≡ 0 = sym (scalars f j l m) ∙ z in absurd (omega arith));
    labels = record {
      below = λ j l. subst (λ (x : ℕ). x < size M) (sym (labels j l)) l;
      inverse_below = λ j l. subst (λ (x : ℕ). x < size M) (sym (place j l)) l;
      there = λ j l. ap (λ (x : ℕ). unwrap_or (position (λ l. l == x) t.labels) 0) (labels j l) ∙ place j l;
      back = λ j l. ap (λ (x : ℕ). slice_index t.labels x) (place j l) ∙ labels j l;
    };
  }
    where
      place : (j : ℕ) → j < size M → unwrap_or (position (λ l. l == j) t.labels) 0 ≡ j
      place j l = place-at t.labels j j (omega arith) (labels j l) (λ k b z. let z : k ≡ j = sym (labels k (omega arith)) ∙ z in absurd (omega arith))

  -- such a move raises each code by its factor's power
  pub unit_moved : (f i j : ℕ) → f < count M → i < M.rank → j < size M
      → moved (shape M) (matrix M) (move_of t) f i j ≡ raised (order M f) (slice_index t.powers f) (matrix M f i j)
  unit_moved f i j l m o =
      (λ u. times (order M f) (scalars f j l o u) (terms u))
      ∙ ap (times (order M f) 1) (combination-unit (order M f) (field f l) M.rank (λ k. raised (order M f) (slice_index t.powers f) (matrix M f k j)) i m code)
      ∙ (field f l).times_one (raised (order M f) (slice_index t.powers f) (matrix M f i j)) code
    where
      code : raised (order M f) (slice_index t.powers f) (matrix M f i j) < order M f
      code = raised_below (order M f) (field f l) (slice_index t.powers f) (matrix M f i j) (h.shaped.codes f i j l m o)

      terms : sum_below (order M f) M.rank
          (λ k. times (order M f) (slice_index t.rows (row_place t.shape f i k))
          (raised (order M f) (slice_index t.powers f) (matrix M f k (slice_index t.labels j))))
          ≡ sum_below (order M f) M.rank (λ k. times (order M f) (unit i k) (raised (order M f) (slice_index t.powers f) (matrix M f k j)))
      terms = sum_same (order M f) (field f l) M.rank
          (λ k. times (order M f) (slice_index t.rows (row_place t.shape f i k))
          (raised (order M f) (slice_index t.powers f) (matrix M f k (slice_index t.labels j))))
          (λ k. times (order M f) (unit i k) (raised (order M f) (slice_index t.powers f) (matrix M f k j)))
          (λ k b. λ u. times (order M f) (rows f i k l m b u) (raised (order M f) (slice_index t.powers f) (matrix M f k (labels j o u))))

  pub identity_takes : ((f : ℕ) → f < count M → slice_index t.powers f ≡ 0) → TakesTo M (move_of t) M
  identity_takes powers = record {
    same_shape = refl;
    shaped = h.shaped;
    codes = λ f i j l m o. sym (unit_moved f i j l m o ∙ ap (λ (x : ℕ). raised (order M f) x (matrix M f i j)) (powers f l));
  }
