-- A move carries independent sets and bases by its relabelling, so it keeps agreement and simplicity.
use Rattle.std.proofs.Common.{◌≡◌, ◌≢◌, ℕ, ◌<◌, sym, ◌∙◌, ap, subst, ◌||◌, ◌↔◌, Bool, length, slice_index, inl, inr}
use Rattle.std.specs.Bool.{◌==◌}
use Rattle.std.proofs.lemmas.Bool.{cases_eq}
use Rattle.matroid_theory.specs.Field.{times, inverse, degree, raised, IsField}
use Rattle.matroid_theory.specs.Matrix.{Matrix, sum_below, combination, size_below, AreCoefficients, IsIndependent}
use Rattle.matroid_theory.specs.Rep.{Rep, shape, matrix, order, count, size, IsShaped}
use Rattle.matroid_theory.specs.Matroid.{IsIndependentIn, IsBasis, Agrees, IsSimple}
use Rattle.matroid_theory.specs.declared.Mode.{Mode}
use Rattle.matroid_theory.specs.Move.{Move, ArePermutation, IsMove, TakesTo, AreEquivalent}
use Rattle.matrix_lemmas.proofs.FieldLaws.{field_laws}
use Rattle.matrix_lemmas.proofs.Sums.{same_number, other_number, sum_same, sum_zero, sum_swap, sum_times, sum_times_right, sum_relabelled, sum_below-code, times_zero}
use Rattle.matrix_lemmas.proofs.Frobenius.{raised_below, raised_times, raised_sum, raised_zero, inverse_nonzero, times_nonzero, raised_nonzero}
use Rattle.matrix_lemmas.proofs.Counts.{size_relabelled}
use Rattle.matrix_lemmas.proofs.Masks.{IsIndependent-same, IsBasis-same}
use Rattle.matroid_laws.proofs.Equivalence.{undo, undo_move, takes_undone, equivalent-symmetric}

module _ (q : ℕ) (F : IsField q) (r n : ℕ) (t : ℕ) (G A B : Matrix) (s : ℕ → ℕ) (p u : ℕ → ℕ)
    (w : ArePermutation n p u) (s_code : (j : ℕ) → j < n → s j < q) (s_nonzero : (j : ℕ) → j < n → s j ≢ 0)
    (B_is : (i j : ℕ) → i < r → j < n → B i j ≡ times q (s j) (combination q r G (λ k. raised q t (A k (p j))) i)) where
  -- the coefficients of B's columns that belong to those of A's
  unfoldable pub turned_over : (ℕ → ℕ) → ℕ → ℕ
  turned_over a j = times q (inverse q (s j)) (raised q t (a (p j)))

  -- (s x) (s⁻¹ y) = x y
  cancelled : (s x y : ℕ) → s < q → s ≢ 0 → y < q → times q (times q s x) (times q (inverse q s) y) ≡ times q x y
  cancelled s x y l ne c =
      ap (λ z. times q z (times q (inverse q s) y)) (F.times_comm s x)
      ∙ F.times_assoc x s (times q (inverse q s) y)
      ∙ ap (times q x) (sym (F.times_assoc s (inverse q s) y) ∙ ap (λ z. times q z y) (F.times_inverse s l ne) ∙ F.times_one y c)

  -- B (turned a) = G (raised (A a))
  combination_carried : (a : ℕ → ℕ) → ((k : ℕ) → k < n → a k < q) → (i : ℕ) → i < r
      → combination q n B (turned_over a) i ≡ combination q r G (λ k. raised q t (combination q n A a k)) i
  unfolding turned_over
  combination_carried a c i l =
      sum_same q F n (λ j. times q (B i j) (turned_over a j)) (λ j. Y (p j)) (λ j m.
      ap (λ x. times q x (turned_over a j)) (B_is i j l m)
      ∙ cancelled (s j) (combination q r G (λ k. raised q t (A k (p j))) i) (raised q t (a (p j))) (s_code j m) (s_nonzero j m)
      (raised_below q F t (a (p j)) (c (p j) (w.below j m)))
      ∙ sym (sum_times_right q F r (raised q t (a (p j))) (λ k. times q (G i k) (raised q t (A k (p j)))))
      ∙ sum_same q F r (λ k. times q (times q (G i k) (raised q t (A k (p j)))) (raised q t (a (p j))))
      (λ k. times q (G i k) (raised q t (times q (A k (p j)) (a (p j))))) (λ k _.
      F.times_assoc (G i k) (raised q t (A k (p j))) (raised q t (a (p j))) ∙ ap (times q (G i k)) (sym (raised_times q F t (A k (p j)) (a (p j))))))
      ∙ sum_relabelled q F n p u w Y (λ j _. sum_below-code q F r (λ k. times q (G i k) (raised q t (times q (A k j) (a j)))))
      ∙ sum_swap q F n r (λ j k. times q (G i k) (raised q t (times q (A k j) (a j))))
      ∙ sum_same q F r (λ k. sum_below q n (λ j. times q (G i k) (raised q t (times q (A k j) (a j)))))
      (λ k. times q (G i k) (raised q t (combination q n A a k))) (λ k _.
      sum_times q F n (G i k) (λ j. raised q t (times q (A k j) (a j))) ∙ ap (times q (G i k)) (sym (raised_sum q F t n (λ j. times q (A k j) (a j)))))
    where
      Y : ℕ → ℕ
      Y j = sum_below q r (λ k. times q (G i k) (raised q t (times q (A k j) (a j))))

  -- what is orthogonal to A is so to B when turned
  pub turned_orthogonal : (a : ℕ → ℕ) → ((k : ℕ) → k < n → a k < q) → ((i : ℕ) → i < r → combination q n A a i ≡ 0) → (i : ℕ) →
      i < r → combination q n B (turned_over a) i ≡ 0
  turned_orthogonal a c z i l =
      combination_carried a c i l
      ∙ sum_same q F r (λ k. times q (G i k) (raised q t (combination q n A a k))) (λ _. 0)
      (λ k k'. ap (λ x. times q (G i k) (raised q t x)) (z k k') ∙ ap (times q (G i k)) (raised_zero q F t) ∙ times_zero q F (G i k))
      ∙ sum_zero q F r

  module _ (d : t < degree q) where
    carried_zero : (S : ℕ → Bool) → IsIndependent q r n B S → (a : ℕ → ℕ) → AreCoefficients q n (λ k. S (u k)) a →
        ((i : ℕ) → i < r → combination q n A a i ≡ 0) → (j : ℕ) → j < n → a (p j) ≡ 0
    unfolding turned_over
    carried_zero S h a c z = none
      where
        coefficients : AreCoefficients q n S (turned_over a)
        coefficients = record {
          codes = λ j m. F.times_below (inverse q (s j)) (raised q t (a (p j)));
          outside = λ j m o.
              ap (λ x. times q (inverse q (s j)) (raised q t x)) (c.outside (p j) (w.below j m) (ap S (w.there j m) ∙ o))
              ∙ ap (times q (inverse q (s j))) (raised_zero q F t) ∙ times_zero q F (inverse q (s j));
        }

        none : (j : ℕ) → j < n → a (p j) ≡ 0
        none j m =
            elim (cases_eq (a (p j)) 0) [
              | inl e ↦ e
              | inr ne ↦ absurd (times_nonzero q F (inverse q (s j)) (raised q t (a (p j))) (F.inverse_below (s j) (s_code j m))
                  (raised_below q F t (a (p j)) (c.codes (p j) (w.below j m)))
                  (inverse_nonzero q F (s j) (s_code j m) (s_nonzero j m))
                  (raised_nonzero q F t (a (p j)) d (c.codes (p j) (w.below j m)) ne)
                  (h.only_zero (turned_over a) coefficients (turned_orthogonal a c.codes z) j m))
            ]

    -- where columns of B are independent, so are the columns of A that they came from
    independent_carried : (S : ℕ → Bool) → IsIndependent q r n B S → IsIndependent q r n A (λ k. S (u k))
    independent_carried S h = record { only_zero = λ a c z k l. sym (ap a (w.back k l)) ∙ carried_zero S h a c z (u k) (w.inverse_below k l) }

-- ---- one move

-- a permutation's inverse is one
pub inverse_permutation : (n : ℕ) (p u : ℕ → ℕ) → ArePermutation n p u → ArePermutation n u p
inverse_permutation n p u v = record { below = v.inverse_below; inverse_below = v.below; there = v.back; back = v.there }

-- which numbers are equal stays
pub same_label : (n : ℕ) (p u : ℕ → ℕ) → ArePermutation n p u → (k i : ℕ) → k < n → i < n → (p k == p i) ≡ (k == i)
same_label n p u v k i l m =
    elim (cases_eq k i) [
      | inl e ↦ ap (λ x. p x == p i) e ∙ same_number (p i) ∙ sym (ap (λ x. x == i) e ∙ same_number i)
      | inr ne ↦ other_number (p k) (p i) (λ e. ne (sym (v.there k l) ∙ ap u e ∙ v.there i m)) ∙ sym (other_number k i ne)
    ]

-- an independent set of N came from one of M
independent_back : (mode : Mode) (M N : Rep) (m : Move) → IsShaped M → IsMove mode (shape M) m → TakesTo M m N → (f : ℕ) →
    f < count M → (S : ℕ → Bool) → IsIndependentIn N f S → IsIndependentIn M f (λ k. S (m.place k))
independent_back mode M N m s v t f l S b =
    independent_carried (order M f) (field_laws (order M f) (s.orders f l)) M.rank (size M) (m.power f) (m.rows f) (matrix M f)
    (matrix N f) (m.scalar f) m.label m.place
    v.labels (λ j n. v.scalars f j l n) (λ j n. v.nonzero f j l n) (λ i j n o. t.codes f i j l n o) (v.powers f l) S
    (subst (λ S'. IsIndependent (slice_index S'.factors f) S'.rank S'.size (matrix N f) S) t.same_shape b)

-- and one of M becomes one of N
independent_over : (mode : Mode) (M N : Rep) (m : Move) → IsShaped M → IsMove mode (shape M) m → TakesTo M m N → (f : ℕ) →
    f < count M → (S : ℕ → Bool) → IsIndependentIn M f S → IsIndependentIn N f (λ k. S (m.label k))
unfolding undo
independent_over mode M N m s v t f l S b =
    let e = sym t.same_shape in
    independent_back mode N M (undo (shape M) m) t.shaped
    (subst (λ S'. IsMove mode S' (undo (shape M) m)) e (undo_move mode (shape M) s.orders m v)) (takes_undone mode M N m s v t)
    f (subst (λ S'. f < length S'.factors) e l) S b

basis_back : (mode : Mode) (M N : Rep) (m : Move) → IsShaped M → IsMove mode (shape M) m → TakesTo M m N → (f : ℕ) → f < count M →
    (S : ℕ → Bool) → IsBasis N f S → IsBasis M f (λ k. S (m.place k))
basis_back mode M N m s v t f l S b = record {
  full = size_relabelled (size M) m.place m.label (inverse_permutation (size M) m.label m.place v.labels) S
      ∙ ap (λ S'. size_below S'.size S) (sym t.same_shape) ∙ b.full ∙ ap (λ S'. S'.rank) t.same_shape;
  independent = independent_back mode M N m s v t f l S b.independent;
}

basis_over : (mode : Mode) (M N : Rep) (m : Move) → IsShaped M → IsMove mode (shape M) m → TakesTo M m N → (f : ℕ) → f < count M →
    (S : ℕ → Bool) → IsBasis M f S → IsBasis N f (λ k. S (m.label k))
basis_over mode M N m s v t f l S b = record {
  full = ap (λ S'. size_below S'.size (λ k. S (m.label k))) t.same_shape ∙ size_relabelled (size M) m.label m.place v.labels S
      ∙ b.full ∙ ap (λ S'. S'.rank) (sym t.same_shape);
  independent = independent_over mode M N m s v t f l S b.independent;
}

-- a set is a basis of M exactly where the columns that it goes to are one of N
pub basis_carried : (mode : Mode) (M N : Rep) (m : Move) → IsShaped M → IsMove mode (shape M) m → TakesTo M m N → (f : ℕ) →
    f < count M → (S : ℕ → Bool) → IsBasis M f S ↔ IsBasis N f (λ j. S (m.label j))
basis_carried mode M N m s v t f l S = (
  basis_over mode M N m s v t f l S,
  λ b. IsBasis-same M f (λ k. S (m.label (m.place k))) S (λ j k. ap S (v.labels.back j k)) (basis_back mode M N m s v t f l (λ j. S (m.label j)) b),
)

-- ---- equivalent representations

-- both agree, or neither
agrees_over : (mode : Mode) (M N : Rep) → AreEquivalent mode M N → Agrees M → Agrees N
agrees_over mode M N e a = record {
  some = λ f l. let b = a.some f (back l) in ((λ k. b.0 (e.move.label k)), over f (back l) b.0 b.1);
  same = λ f g l m S b.
      let c = a.same f g (back l) (back m) (λ k. S (e.move.place k)) (basis_back mode M N e.move e.shaped e.valid e.takes f (back l) S b) in
      IsBasis-same N g (λ k. S (e.move.place (e.move.label k))) S (λ j k. ap S (e.valid.labels.there j (subst (λ S'. j < S'.size) e.takes.same_shape k)))
      (over g (back m) (λ k. S (e.move.place k)) c);
}
  where
    back : {f : ℕ} → f < count N → f < count M
    back {f} l = subst (λ S'. f < length S'.factors) e.takes.same_shape l

    over : (f : ℕ) → f < count M → (S : ℕ → Bool) → IsBasis M f S → IsBasis N f (λ k. S (e.move.label k))
    over f l S b = basis_over mode M N e.move e.shaped e.valid e.takes f l S b

pub agrees_carried : (mode : Mode) (M N : Rep) → AreEquivalent mode M N → Agrees M ↔ Agrees N
agrees_carried mode M N e = (agrees_over mode M N e, agrees_over mode N M (equivalent-symmetric mode M N e))

-- both are simple, or neither
simple_over : (mode : Mode) (M N : Rep) → AreEquivalent mode M N → IsSimple M → IsSimple N
simple_over mode M N e h f i j l m n =
    IsIndependent-same (order N f) N.rank (size N) (matrix N f) (λ k. (p k == p i) || (p k == p j)) (λ k. (k == i) || (k == j))
    (λ k o x. same_label (size M) p e.move.place e.valid.labels k i (back o) (back m) x || same_label
    (size M) p e.move.place e.valid.labels k j (back o) (back n) x)
    (independent_over mode M N e.move e.shaped e.valid e.takes f l' (λ k. (k == p i) || (k == p j))
    (h f (p i) (p j) l' (e.valid.labels.below i (back m)) (e.valid.labels.below j (back n))))
  where
    p : ℕ → ℕ
    p = e.move.label

    back : {k : ℕ} → k < size N → k < size M
    back {k} o = subst (λ S'. k < S'.size) e.takes.same_shape o

    l' : f < count M
    l' = subst (λ S'. f < length S'.factors) e.takes.same_shape l

pub simple_carried : (mode : Mode) (M N : Rep) → AreEquivalent mode M N → IsSimple M ↔ IsSimple N
simple_carried mode M N e = (simple_over mode M N e, simple_over mode N M (equivalent-symmetric mode M N e))
