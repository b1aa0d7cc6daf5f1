-- Equivalent representations have equivalent orthogonal representations, so they have the same dual form.
use Rattle.std.proofs.Common.{◌≡◌, ◌⊎◌, ℕ, ◌+◌, ◌<◌, ◌≤◌, refl, sym, ◌∙◌, ap, subst, arith, Bool, inl, inr, length, slice_index}
use Rattle.std.proofs.lemmas.Bool.{cases_lt}
use Rattle.matroid_theory.specs.Field.{times, inverse, raised, IsField}
use Rattle.matroid_theory.specs.Matrix.{Matrix, sum_below, combination, unit, AreInverse, size_below, IsIndependent}
use Rattle.matroid_theory.specs.Rep.{Rep, Shape, shape, count, size, order, matrix, IsShaped}
use Rattle.matroid_theory.specs.declared.Mode.{Mode}
use Rattle.matroid_theory.specs.Move.{Move, IsMove, moved, TakesTo, AreEquivalent}
use Rattle.matroid_theory.specs.Order.{IsForm}
use Rattle.matrix_lemmas.proofs.FieldLaws.{field_laws}
use Rattle.matrix_lemmas.proofs.Sums.{sum_same, sum_below-code, combination-unit}
use Rattle.matrix_lemmas.proofs.Frobenius.{raised_below, inverse_nonzero}
use Rattle.matrix_lemmas.proofs.Dimension.{unit_code}
use Rattle.matroid_laws.proofs.Equivalence.{allowed_zero, equivalent-reflexive, equivalent-symmetric, equivalent-transitive}
use Rattle.matroid_laws.proofs.Carried.{basis_carried, turned_over, turned_orthogonal}
use Rattle.matroid_laws.proofs.Forms.{one_form}
use Rattle.dual_theory.specs.Dual.{complement, AreOrthogonal, HasBases, IsDualForm}
use Rattle.matrix_lemmas.proofs.Masks.{IsIndependent-same}
use Rattle.dual_theory.proofs.Orthogonal.{complement_twice, change, change_back, change_codes, change_back_codes, change_inverse, changed}
use Rattle.dual_theory.proofs.OrthogonalReps.{independent_named, there, codes_named, complement_basis, orthogonal_symmetric}
use Rattle.matroid_laws.proofs.Built.{built, shape_built, matrix_built, shaped_built}
use Rattle.dual_theory.proofs.StandardDual.{standard_has_bases, standard_dual_orthogonal, standard_dual_has_bases, standard_dual_exists}

-- ---- equivalent representations have equivalent orthogonal ones

pub bases_over : (mode : Mode) (M N : Rep) → AreEquivalent mode M N → HasBases M → HasBases N
bases_over mode M N e h f l =
    let l' = subst (λ S. f < length S.factors) e.takes.same_shape l in
    let (S, b) = h f l' in
    let c = basis_carried mode M N e.move e.shaped e.valid e.takes f l' S in
    ((λ j. S (e.move.label j)), c.0 b)

module _ (mode : Mode) (M M' N : Rep) (m : Move) (s : IsShaped M) (v : IsMove mode (shape M) m) (k : TakesTo M m M')
    (t : IsShaped N) (o : AreOrthogonal M N) where
  -- the same move with the identity matrix and the inverse scalars
  abbrev turned_move : Move
  turned_move = record {
    power = m.power;
    rows = λ _. unit;
    back = λ _. unit;
    scalar = λ f j. inverse (order M f) (m.scalar f j);
    label = m.label;
    place = m.place;
  }

  abbrev S : Shape
  S = record { factors = M.factors; rank = N.rank; size = size M }

  shape_N : shape N ≡ S
  shape_N = λ i. record { factors = o.same_factors i; rank = N.rank; size = o.same_size i }

  field : (f : ℕ) → f < count M → IsField (order M f)
  field f l = field_laws (order M f) (s.orders f l)

  turned_valid : IsMove mode S turned_move
  turned_valid = record {
    powers = v.powers;
    allowed = v.allowed;
    codes = λ f i k l _ _. unit_code (order M f) (field f l) i k;
    back_codes = λ f i k l _ _. unit_code (order M f) (field f l) i k;
    inverse = λ f l. record {
      right = λ i j m n. combination-unit (order M f) (field f l) N.rank (λ k. unit k j) i m (unit_code (order M f) (field f l) i j);
      left = λ i j m n. combination-unit (order M f) (field f l) N.rank (λ k. unit k j) i m (unit_code (order M f) (field f l) i j);
    };
    scalars = λ f j l n. let F = field f l in F.inverse_below (m.scalar f j) (v.scalars f j l n);
    nonzero = λ f j l n. inverse_nonzero (order M f) (field f l) (m.scalar f j) (v.scalars f j l n) (v.nonzero f j l n);
    labels = v.labels;
  }

  abbrev turned : Rep
  turned = built S (moved S (matrix N) turned_move)

  turned_shaped : IsShaped turned
  turned_shaped = shaped_built S (moved S (matrix N) turned_move) s.orders (λ f i j l _ _. let F = field f l in F.times_below _ _)

  turned_takes : TakesTo N turned_move turned
  turned_takes = record {
    same_shape = shape_built S (moved S (matrix N) turned_move) ∙ sym shape_N;
    shaped = turned_shaped;
    codes = subst (λ S'. (f i j : ℕ) → f < length S'.factors → i < S'.rank → j < S'.size →
        matrix turned f i j ≡ moved S' (matrix N) turned_move f i j) (sym shape_N) (matrix_built S (moved S (matrix N) turned_move));
  }

  pub turned_equivalent : AreEquivalent mode N turned
  turned_equivalent = record {
    shaped = t;
    move = turned_move;
    valid = subst (λ S'. IsMove mode S' turned_move)
        (sym shape_N) turned_valid;
    takes = turned_takes;
  }

  shape_M : shape M' ≡ shape M
  shape_M = k.same_shape

  turned_products : (f i l : ℕ) → f < count M → i < M.rank → l < N.rank → combination (order M f) (size M) (matrix M' f) (matrix turned f l) i ≡ 0
  unfolding turned_over
  turned_products f i l h b n =
      sum_same q F (size M) (λ j. times q (matrix M' f i j) (matrix turned f l j))
      (λ j. times q (matrix M' f i j) (turn (matrix N f l) j)) (λ j x. ap (times q (matrix M' f i j))
      (matrix_built S (moved S (matrix N) turned_move) f l j h n x
      ∙ ap (times q (inverse q (m.scalar f j)))
      (combination-unit q F N.rank (λ k. raised q (m.power f) (matrix N f k (m.label j))) l n
      (raised_below q F (m.power f) _ (codes_named M N s t o f h l (m.label j) n (v.labels.below j x))))))
      ∙ turned_orthogonal q F M.rank (size M) (m.power f) (m.rows f) (matrix M f) (matrix M' f) (m.scalar f) m.label m.place v.labels
      (λ j x. v.scalars f j h x) (λ j x. v.nonzero f j h x) (λ i j x y. k.codes f i j h x y)
      (matrix N f l) (λ j x. codes_named M N s t o f h l j n x) (λ i x. o.products f i l h x n) i b
    where
      q : ℕ
      q = order M f

      F : IsField q
      F = field f h

      turn : (ℕ → ℕ) → ℕ → ℕ
      turn a j = times q (inverse q (m.scalar f j)) (raised q (m.power f) (a (m.label j)))

  ranks : M'.rank + N.rank ≡ size M'
  ranks = ap (λ S'. S'.rank + N.rank) shape_M ∙ o.ranks ∙ sym (ap (λ S'. S'.size) shape_M)

  pub turned_is_orthogonal : AreOrthogonal M' turned
  turned_is_orthogonal = record {
    same_factors = sym (ap (λ S'. S'.factors) shape_M);
    same_size = ap (λ S'. S'.size) (shape_built S (moved S (matrix N) turned_move)) ∙ sym (ap (λ S'. S'.size) shape_M);
    ranks = ranks;
    products = λ f i l h m n.
        ap (λ S'. sum_below (slice_index S'.factors f) S'.size (λ j. times (slice_index S'.factors f) (matrix M' f i j) (matrix turned f l j))) shape_M
        ∙ turned_products f i l (subst (λ S'. f < length S'.factors) shape_M h) (subst (λ S'. i < S'.rank) shape_M m) n;
  }

-- what is equivalent to M has an orthogonal representation that is equivalent to one of M
pub orthogonal_over : (mode : Mode) (M M' N : Rep) → AreEquivalent mode M M' → IsShaped N → AreOrthogonal M N →
    (L : Rep) × AreOrthogonal M' L × AreEquivalent mode N L
orthogonal_over mode M M' N e t o = (
  turned mode M M' N e.move e.shaped e.valid e.takes t o,
  turned_is_orthogonal mode M M' N e.move e.shaped e.valid e.takes t o,
  turned_equivalent mode M M' N e.move e.shaped e.valid e.takes t o,
)

-- ---- two representations that are orthogonal to one are equivalent

module _ (mode : Mode) (M N L : Rep) (s : IsShaped M) (t : IsShaped N) (u : IsShaped L) (o : AreOrthogonal M N)
    (p : AreOrthogonal M L) (h : HasBases M) (g : HasBases N) (k : HasBases L) where
  same_ranks : L.rank ≡ N.rank
  same_ranks = let a : M.rank + N.rank ≡ size M = o.ranks in let b : M.rank + L.rank ≡ size M = p.ranks in omega arith

  -- the matrix of factor f that takes the rows of N to those of L, with its inverse
  record Change (f : ℕ) : Type 0 where
    rows : Matrix
    back : Matrix
    codes : (i j : ℕ) → rows i j < order M f
    back_codes : (i j : ℕ) → back i j < order M f
    inverse : AreInverse (order M f) N.rank rows back
    taken : (i j : ℕ) → i < N.rank → j < size M → matrix L f i j ≡ combination (order M f) N.rank rows (λ l. matrix N f l j) i

  change_of : (f : ℕ) → f < count M → Change f
  change_of f l =
      let (T, c) = g f (there M N s t o f l) in
      let (U, d) = k f (there M L s u p f l) in
      let (S, b) = h f l in
      let x = complement_basis N M t s (orthogonal_symmetric M N s o) f (there M N s t o f l) T S c b in
      let y = complement_basis M L s u p f l (complement T) U x d in
      made T (sym (ap (λ n. size_below n T) o.same_size) ∙ c.full)
      (independent_named N f T M.factors (size M) o.same_factors o.same_size c.independent)
      (subst (λ r. IsIndependent (order M f) r (size M) (matrix L f) T) same_ranks
      (IsIndependent-same (order M f) L.rank (size M) (matrix L f) (complement (complement T)) T (λ j _. complement_twice T j)
      (independent_named L f (complement (complement T)) M.factors (size M) p.same_factors p.same_size y.independent)))
      x.independent
    where
      made : (T : ℕ → Bool) → size_below (size M) T ≡ N.rank → IsIndependent (order M f) N.rank (size M) (matrix N f) T →
          IsIndependent (order M f) N.rank (size M) (matrix L f) T
          → IsIndependent (order M f) M.rank (size M) (matrix M f) (complement T) → Change f
      made T full a b c = record {
        rows = change q F r n' n A B C B_codes C_codes B_o C_o T full a b c;
        back = change_back q F r n' n A B C B_codes C_codes B_o C_o T full a b c;
        codes = change_codes q F r n' n A B C B_codes C_codes B_o C_o T full a b c;
        back_codes = change_back_codes q F r n' n A B C B_codes C_codes B_o C_o T full a b c;
        inverse = change_inverse q F r n' n A B C B_codes C_codes B_o C_o T full a b c;
        taken = changed q F r n' n A B C B_codes C_codes B_o C_o T full a b c;
      }
        where
          q : ℕ
          q = order M f

          F : IsField q
          F = field_laws q (s.orders f l)

          r : ℕ
          r = M.rank

          n' : ℕ
          n' = N.rank

          n : ℕ
          n = size M

          A : Matrix
          A = matrix M f

          B : Matrix
          B = matrix N f

          C : Matrix
          C = matrix L f

          down : {i : ℕ} → i < N.rank → i < L.rank
          down {i} m = subst (λ r. i < r) (sym same_ranks) m

          B_codes : (i j : ℕ) → i < n' → j < n → B i j < q
          B_codes i j x y = codes_named M N s t o f l i j x y

          C_codes : (i j : ℕ) → i < n' → j < n → C i j < q
          C_codes i j x y = codes_named M L s u p f l i j (down x) y

          B_o : (i k : ℕ) → i < r → k < n' → combination q n A (B k) i ≡ 0
          B_o i k x y = o.products f i k l x y

          C_o : (i k : ℕ) → i < r → k < n' → combination q n A (C k) i ≡ 0
          C_o i k x y = p.products f i k l x (down y)

  -- at a factor of M, and the identity elsewhere
  abbrev rows_at : (f : ℕ) → (f < count M) ⊎ (count M ≤ f) → Matrix
  rows_at f (inl l) = let c = change_of f l in c.rows
  rows_at f (inr _) = unit

  abbrev back_at : (f : ℕ) → (f < count M) ⊎ (count M ≤ f) → Matrix
  back_at f (inl l) = let c = change_of f l in c.back
  back_at f (inr _) = unit

  rows_code : (f : ℕ) (c : (f < count M) ⊎ (count M ≤ f)) → f < count M → (i j : ℕ) → rows_at f c i j < order M f
  rows_code f (inl l) _ i j = let c = change_of f l in c.codes i j
  rows_code f (inr g) l i j = absurd (omega arith)

  back_code : (f : ℕ) (c : (f < count M) ⊎ (count M ≤ f)) → f < count M → (i j : ℕ) → back_at f c i j < order M f
  back_code f (inl l) _ i j = let c = change_of f l in c.back_codes i j
  back_code f (inr g) l i j = absurd (omega arith)

  inverse_at : (f : ℕ) (c : (f < count M) ⊎ (count M ≤ f)) → f < count M → AreInverse (order M f) N.rank (rows_at f c) (back_at f c)
  inverse_at f (inl l) _ = let c = change_of f l in c.inverse
  inverse_at f (inr g) l = absurd (omega arith)

  taken_at : (f : ℕ) (c : (f < count M) ⊎ (count M ≤ f)) → f < count M → (i j : ℕ) → i < N.rank → j < size M →
      matrix L f i j ≡ combination (order M f) N.rank (rows_at f c) (λ l. matrix N f l j) i
  taken_at f (inl l) _ i j = let c = change_of f l in c.taken i j
  taken_at f (inr g) l i j = absurd (omega arith)

  abbrev change_move : Move
  change_move = record {
    power = λ _. 0;
    rows = λ f. rows_at f (cases_lt f (count M));
    back = λ f. back_at f (cases_lt f (count M));
    scalar = λ _ _. 1;
    label = λ j. j;
    place = λ j. j;
  }

  abbrev common : Shape
  common = record { factors = M.factors; rank = N.rank; size = size M }

  common_N : shape N ≡ common
  common_N = λ i. record { factors = o.same_factors i; rank = N.rank; size = o.same_size i }

  common_L : shape L ≡ common
  common_L = λ i. record { factors = p.same_factors i; rank = same_ranks i; size = p.same_size i }

  change_valid : IsMove mode common change_move
  change_valid = record {
    powers = λ f l. let F = field_laws (order M f) (s.orders f l) in F.degree_positive;
    allowed = λ f l. allowed_zero mode;
    codes = λ f i j l _ _. rows_code f (cases_lt f (count M)) l i j;
    back_codes = λ f i j l _ _. back_code f (cases_lt f (count M)) l i j;
    inverse = λ f l. inverse_at f (cases_lt f (count M)) l;
    scalars = λ f j l _. let F = field_laws (order M f) (s.orders f l) in F.two;
    nonzero = λ f j l _ e. absurd (omega arith);
    labels = record { below = λ j l. l; inverse_below = λ j l. l; there = λ j l. refl; back = λ j l. refl };
  }

  change_codes_over : (f i j : ℕ) → f < length common.factors → i < common.rank → j < common.size → matrix L f i j ≡ moved common (matrix N) change_move f i j
  change_codes_over f i j l m n =
      let F = field_laws (order M f) (s.orders f l) in
      taken_at f (cases_lt f (count M)) l i j m n ∙ sym (F.times_one _ (sum_below-code (order M f) F N.rank _))

  pub change_equivalent : AreEquivalent mode N L
  change_equivalent = record {
    shaped = t;
    move = change_move;
    valid = subst (λ S'. IsMove mode S' change_move) (sym common_N) change_valid;
    takes = record {
      same_shape = common_L ∙ sym common_N;
      shaped = u;
      codes = subst (λ S'. (f i j : ℕ) → f < length S'.factors → i < S'.rank → j < S'.size →
          matrix L f i j ≡ moved S' (matrix N) change_move f i j) (sym common_N) change_codes_over;
    };
  }

-- ---- one dual

-- representations that are orthogonal to equivalent ones are equivalent
pub orthogonal_equivalent : (mode : Mode) (M M' N N' : Rep) → AreEquivalent mode M M' → AreOrthogonal M N → AreOrthogonal M' N' →
    HasBases M → IsShaped N → HasBases N → IsShaped N' → HasBases N' → AreEquivalent mode N N'
orthogonal_equivalent mode M M' N N' e o o' h t g t' g' =
    let (L, a, b) = orthogonal_over mode M M' N e t o in
    equivalent-transitive mode N L N' b
    (change_equivalent mode M' L N' e.takes.shaped b.takes.shaped t' a o' (bases_over mode M M' e h) (bases_over mode N L b g) g')

-- a representation that is equivalent to a form has bases
has_bases_of_form : (mode : Mode) (L N : Rep) → AreEquivalent mode L N → IsForm mode N → HasBases L
has_bases_of_form mode L N e form = bases_over mode N L (equivalent-symmetric mode L N e) (standard_has_bases N form.representation.shaped form.standard)

-- equivalent representations have one dual form
pub one_dual_form : (mode : Mode) (M M' N N' : Rep) → AreEquivalent mode M M' → HasBases M → IsDualForm mode M N → IsDualForm mode M' N' → N ≡ N'
one_dual_form mode M M' N N' e h d d' =
    one_form mode N N' d.form d'.form
    (equivalent-transitive mode N d.orthogonal N' (equivalent-symmetric mode d.orthogonal N d.equivalent)
    (equivalent-transitive mode d.orthogonal d'.orthogonal N'
    (orthogonal_equivalent mode M M' d.orthogonal d'.orthogonal e d.is_orthogonal d'.is_orthogonal h
    d.equivalent.shaped (has_bases_of_form mode d.orthogonal N d.equivalent d.form)
    d'.equivalent.shaped (has_bases_of_form mode d'.orthogonal N' d'.equivalent d'.form))
    d'.equivalent))

-- and the dual form of the one is that of the other
pub dual_form_over : (mode : Mode) (M M' N : Rep) → AreEquivalent mode M M' → IsDualForm mode M N → IsDualForm mode M' N
dual_form_over mode M M' N e d =
    let (L, a, b) = orthogonal_over mode M M' d.orthogonal e d.equivalent.shaped d.is_orthogonal in
    record {
      form = d.form;
      orthogonal = L;
      is_orthogonal = a;
      equivalent = equivalent-transitive mode L d.orthogonal N (equivalent-symmetric mode d.orthogonal L b) d.equivalent;
    }

-- the dual form of the dual form of a form is that form
pub dual_form_twice : (mode : Mode) (M N : Rep) → IsForm mode M → IsDualForm mode M N → IsDualForm mode N M
dual_form_twice mode M N form d =
    let (D, t, x) = standard_dual_exists N d.form.representation.shaped d.form.standard in
    let o = standard_dual_orthogonal N D d.form.representation.shaped d.form.standard x in
    record {
      form = form;
      orthogonal = D;
      is_orthogonal = o;
      equivalent = orthogonal_equivalent mode N d.orthogonal D M (equivalent-symmetric mode d.orthogonal N d.equivalent) o
          (orthogonal_symmetric M d.orthogonal form.representation.shaped d.is_orthogonal)
          (standard_has_bases N d.form.representation.shaped d.form.standard) t (standard_dual_has_bases N D d.form.representation.shaped d.form.standard x)
          form.representation.shaped (standard_has_bases M form.representation.shaped form.standard);
    }

-- so forms with the same dual form are equal
pub same_dual_form : (mode : Mode) (M M' N : Rep) → IsForm mode M → IsForm mode M' → IsDualForm mode M N → IsDualForm mode M' N → M ≡ M'
same_dual_form mode M M' N a b d d' =
    one_dual_form mode N N M M' (equivalent-reflexive mode N d.form.representation.shaped) (standard_has_bases N d.form.representation.shaped d.form.standard)
    (dual_form_twice mode M N a d) (dual_form_twice mode M' N b d')
