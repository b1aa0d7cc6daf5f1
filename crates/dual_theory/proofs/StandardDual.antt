-- The matrix [ -D transposed | I ] is orthogonal to [I | D], and its last columns are a basis.
use Rattle.std.proofs.Common.{◌≡◌, ℕ, zero, suc, ◌+◌, ◌-◌, ◌<◌, ◌≤◌, refl, sym, ◌∙◌, ap, subst, arith, cond, true, false, inl, inr, not, length}
use Rattle.std.specs.Bool.{nat_lt}
use Rattle.std.proofs.lemmas.Bool.{cases_lt, le-ltb, lt-ltb}
use Rattle.matroid_theory.specs.Field.{plus, times, negative, IsField}
use Rattle.matroid_theory.specs.Matrix.{Matrix, sum_below, combination, unit, size_below, AreCoefficients, IsIndependent}
use Rattle.matroid_theory.specs.Rep.{Rep, Shape, count, size, order, matrix, IsShaped, IsStandard}
use Rattle.matroid_theory.specs.Matroid.{IsBasis}
use Rattle.matrix_lemmas.proofs.FieldLaws.{field_laws}
use Rattle.matrix_lemmas.proofs.Sums.{plus_zero_right, sum_one, sum_below-code, times_zero, zero_times, same_number, other_number}
use Rattle.matrix_lemmas.proofs.Dimension.{unit_code}
use Rattle.matroid_laws.proofs.Rest.{size_front, units_basis}
use Rattle.dual_theory.specs.Dual.{complement, AreOrthogonal, HasBases, dual_matrix, IsStandardDual}
use Rattle.dual_theory.proofs.OrthogonalReps.{independent_back}
use Rattle.matroid_laws.proofs.Built.{built, size_built, matrix_built, shaped_built, size_both}

module _ (q : ℕ) (F : IsField q) where
  -- a sum in two parts
  pub sum_split : (r s : ℕ) (f : ℕ → ℕ) → sum_below q (r + s) f ≡ plus q (sum_below q r f) (sum_below q s (λ l. f (r + l)))
  sum_split r zero f = (let e : r + 0 ≡ r = omega arith in ap (λ n. sum_below q n f) e) ∙ sym (plus_zero_right q F (sum_below q r f) (sum_below-code q F r f))
  sum_split r (suc s) f =
      (let e : r + suc s ≡ suc (r + s) = omega arith in ap (λ n. sum_below q n f) e)
      ∙ ap (λ x. plus q x (f (r + s))) (sum_split r s f)
      ∙ F.plus_assoc (sum_below q r f) (sum_below q s (λ l. f (r + l))) (f (r + s))

  module _ (r s n : ℕ) (A B : Matrix) (ranks : r + s ≡ n)
      (codes : (i j : ℕ) → i < r → j < n → A i j < q) (units : (i j : ℕ) → i < r → j < r → A i j ≡ unit i j)
      (B_is : (k j : ℕ) → k < s → j < n → B k j ≡ cond (nat_lt j r) (negative q (A j (r + k))) (unit (r + k) j)) where
    B_first : (k j : ℕ) → k < s → j < r → B k j ≡ negative q (A j (r + k))
    B_first k j l m = B_is k j l (omega arith) ∙ ap (λ b. cond b (negative q (A j (r + k))) (unit (r + k) j)) (lt-ltb j r m)

    B_unit : (k j : ℕ) → k < s → r ≤ j → j < n → B k j ≡ unit (r + k) j
    B_unit k j l m o = B_is k j l o ∙ ap (λ b. cond b (negative q (A j (r + k))) (unit (r + k) j)) (le-ltb j r m)

    first_part : (i k : ℕ) → i < r → k < s → sum_below q r (λ j. times q (A i j) (B k j)) ≡ negative q (A i (r + k))
    first_part i k l m =
        sum_one q F r i (λ j. times q (A i j) (B k j)) l (F.times_below _ _)
        (λ j o ne. ap (λ x. times q x (B k j)) (units i j l o ∙ ap (λ b. cond b 1 0) (other_number i j (λ e. ne (sym e))))
        ∙ zero_times q F (B k j))
        ∙ (λ t. times q ((units i i l l ∙ ap (λ b. cond b 1 0) (same_number i)) t) (B_first k i m l t))
        ∙ F.times_one (negative q (A i (r + k))) (F.negative_below _)

    last_part : (i k : ℕ) → i < r → k < s → sum_below q s (λ l. times q (A i (r + l)) (B k (r + l))) ≡ A i (r + k)
    last_part i k l m =
        sum_one q F s k (λ l. times q (A i (r + l)) (B k (r + l))) m (F.times_below _ _)
        (λ j o ne. ap (times q (A i (r + j)))
        (B_unit k (r + j) m (omega arith) (omega arith)
        ∙ ap (λ b. cond b 1 0) (other_number (r + k) (r + j) (λ e. ne (omega arith)))) ∙ times_zero q F (A i (r + j)))
        ∙ ap (times q (A i (r + k))) (B_unit k (r + k) m (omega arith) (omega arith) ∙ ap (λ b. cond b 1 0) (same_number (r + k)))
        ∙ F.times_comm (A i (r + k)) 1 ∙ F.times_one (A i (r + k)) (codes i (r + k) l (omega arith))

    pub dual_products : (i k : ℕ) → i < r → k < s → combination q n A (B k) i ≡ 0
    dual_products i k l m =
        ap (λ n. sum_below q n (λ j. times q (A i j) (B k j))) (sym ranks)
        ∙ sum_split r s (λ j. times q (A i j) (B k j))
        ∙ (λ t. plus q (first_part i k l m t) (last_part i k l m t))
        ∙ F.plus_comm (negative q (A i (r + k))) (A i (r + k)) ∙ F.plus_negative (A i (r + k))

    -- a combination of the last columns has their coefficients as its codes
    last_row : (a : ℕ → ℕ) → AreCoefficients q n (complement (λ j. nat_lt j r)) a → (k : ℕ) → k < s → combination q n B a k ≡ a (r + k)
    last_row a c k l =
        sum_one q F n (r + k) (λ j. times q (B k j) (a j)) (omega arith) (F.times_below _ _) (λ j m ne. elim (cases_lt j r) [
          | inl b ↦ ap (times q (B k j)) (c.outside j m (ap not (lt-ltb j r b))) ∙ times_zero q F (B k j)
          | inr g ↦ ap (λ x. times q x (a j)) (B_unit k j l g m ∙ ap (λ b. cond b 1 0) (other_number (r + k) j (λ e. ne (sym e)))) ∙ zero_times q F (a j)
        ])
        ∙ ap (λ x. times q x (a (r + k))) (B_unit k (r + k) l (omega arith) (omega arith) ∙ ap (λ b. cond b 1 0) (same_number (r + k)))
        ∙ F.times_one (a (r + k)) (c.codes (r + k) (omega arith))

    pub dual_basis : IsIndependent q s n B (complement (λ j. nat_lt j r))
    dual_basis = record {
      only_zero = λ a c z j l. elim (cases_lt j r) [
        | inl b ↦ c.outside j l (ap not (lt-ltb j r b))
        | inr g ↦ (let e : r + (j - r) ≡ j = omega arith in sym (ap a e) ∙ sym (last_row a c (j - r) (omega arith)) ∙ z (j - r) (omega arith))
      ];
    }

-- ---- representations

pub standard_has_bases : (M : Rep) → IsShaped M → IsStandard M → HasBases M
standard_has_bases M s t f l = ((λ j. nat_lt j M.rank), units_basis M s t f l)

module _ (M N : Rep) (s : IsShaped M) (t : IsStandard M) (d : IsStandardDual M N) where
  pub standard_dual_orthogonal : AreOrthogonal M N
  standard_dual_orthogonal = record {
    same_factors = d.same_factors;
    same_size = d.same_size;
    ranks = d.ranks;
    products = λ f i k l m n.
        dual_products (order M f) (field_laws (order M f) (s.orders f l)) M.rank N.rank (size M) (matrix M f) (matrix N f) d.ranks
        (λ i j. s.codes f i j l) (λ i j. t.units f i j l) (λ k j. d.codes f k j l) i k m n;
  }

  -- the last columns are a basis
  pub standard_dual_last : (f : ℕ) → f < count M → IsBasis N f (complement (λ j. nat_lt j M.rank))
  standard_dual_last f l = record {
    full =
        (let h : size_below (size M) (λ j. nat_lt j M.rank) + size_below (size M) (complement (λ j. nat_lt j M.rank)) ≡ size M =
        size_both (size M) (λ j. nat_lt j M.rank) in
        let e : size_below (size M) (λ j. nat_lt j M.rank) ≡ M.rank = size_front M.rank (size M) t.room in
        let g : M.rank + N.rank ≡ size M = d.ranks in
        let k : size_below (size N) (complement (λ j. nat_lt j M.rank)) ≡ size_below (size M) (complement (λ j. nat_lt j M.rank)) =
        ap (λ n. size_below n (complement (λ j. nat_lt j M.rank))) d.same_size in
        omega arith);
    independent = independent_back N f (complement (λ j. nat_lt j M.rank)) M.factors (size M) d.same_factors d.same_size
        (dual_basis (order M f) (field_laws (order M f) (s.orders f l)) M.rank N.rank (size M) (matrix M f) (matrix N f) d.ranks
        (λ i j. s.codes f i j l) (λ i j. t.units f i j l) (λ k j. d.codes f k j l));
  }

  pub standard_dual_has_bases : HasBases N
  standard_dual_has_bases f l = (complement (λ j. nat_lt j M.rank), standard_dual_last f (subst (λ fs. f < length fs) d.same_factors l))

-- there is such a representation
pub standard_dual_exists : (M : Rep) → IsShaped M → IsStandard M → (N : Rep) × IsShaped N × IsStandardDual M N
standard_dual_exists M s t = (
  built S (dual_matrix M),
  shaped_built S (dual_matrix M) s.orders (λ f i j l m n.
      let F = field_laws (order M f) (s.orders f l) in
      elim (nat_lt j M.rank) as (λ b. cond b (negative (order M f) (matrix M f j (M.rank + i))) (unit (M.rank + i) j) < order M f)
      [ true ↦ F.negative_below _ | false ↦ unit_code (order M f) F (M.rank + i) j ]),
  record {
    same_factors = refl;
    same_size = size_built S (dual_matrix M);
    ranks = (let h : M.rank ≤ size M = t.room in omega arith);
    codes = λ f i j l m n. matrix_built S (dual_matrix M) f i j l m n;
  },
)
  where
    S : Shape
    S = record { factors = M.factors; rank = size M - M.rank; size = size M }
