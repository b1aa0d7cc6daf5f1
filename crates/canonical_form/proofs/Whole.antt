-- What is reached from a representation, and the member of its class that is the form.
use Rattle.std.proofs.Common.{◌≡◌, ◌≢◌, ℕ, ◌<◌, ◌≤◌, refl, sym, ◌∙◌, ap, subst, arith, List, [], ◌++◌, length, take, drop, cond, inl, inr}
use Rattle.std.specs.Bool.{nat_lt}
use Rattle.std.specs.List.{slice_index_or}
use Rattle.std.specs.Cmp.Lexicographic.{slice_cmp}
use Rattle.std.specs.Ordering.{nat_cmp, ordering_then}
use Rattle.std.specs.declared.cmp.Ordering.{Ordering}
use Rattle.std.specs.declared.cmp.Ordering.TheVariants.{Equal, Greater}
use Rattle.std.proofs.lemmas.Bool.{cases_lt, le-ltb, lt-ltb}
use Rattle.std.proofs.lemmas.Cmp.{tied_itself}
use Rattle.std.proofs.lemmas.List.{ext_get_or, get_or-take, length-take-le, take-append-drop}
use Rattle.matroid_theory.specs.declared.Mode.TheVariants.{Linear}
use Rattle.matroid_theory.specs.Field.{times, inverse, IsField}
use Rattle.matroid_theory.specs.Matrix.{Matrix, combination}
use Rattle.matroid_theory.specs.Rep.{Rep, shape, count, size, order, matrix, IsShaped, IsStandard, KeepsLimits}
use Rattle.matroid_theory.specs.Matroid.{Agrees}
use Rattle.matroid_theory.specs.Move.{Move, AreEquivalent}
use Rattle.matroid_theory.specs.Order.{rep_cmp, IsForm}
use Rattle.matrix_lemmas.proofs.FieldLaws.{field_laws}
use Rattle.matrix_lemmas.proofs.Sums.{zero_below, sum_same, times_zero, sum_start}
use Rattle.matrix_lemmas.proofs.Frobenius.{times_nonzero, inverse_nonzero}
use Rattle.matrix_lemmas.proofs.Steps.{Independent, all_coefficients}
use Rattle.matroid_laws.proofs.Standard.{standard_basis, ordered_independent}
use Rattle.matroid_laws.proofs.Built.{standard_exists}
use Rattle.matroid_laws.proofs.Equivalence.{equivalent-transitive}
use Rattle.matroid_laws.proofs.Carried.{agrees_carried}
use Rattle.matroid_laws.proofs.Levels.{columns_total}
use Rattle.matroid_laws.proofs.First.{same_column}
use Rattle.matroid_laws.proofs.Prefix.{slice_cmp-append}
use Rattle.canonical_form.specs.Search.{Reaches, PicksFirst, row_scalar, later, columns_cmp, chosen, AreIndependentColumns, AreOfClass}

-- ---- a part of independent columns

module _ (q : ℕ) (F : IsField q) (r : ℕ) where
  -- the first k of n independent columns are independent
  pub first_independent : (k n : ℕ) (A : Matrix) → k ≤ n → Independent q r n A → Independent q r k A
  first_independent k n A le h = record {
    only_zero = λ a c z j l. sym (at a j l) ∙ h.only_zero (extended a) (all_coefficients q F r n n (extended a) (code a c.codes))
        (λ i m. rows a i ∙ z i m) j (omega arith);
  }
    where
      extended : (ℕ → ℕ) → ℕ → ℕ
      extended a j = cond (nat_lt j k) (a j) 0

      at : (a : ℕ → ℕ) (j : ℕ) → j < k → extended a j ≡ a j
      at a j l = ap (λ b. cond b (a j) 0) (lt-ltb j k l)

      past : (a : ℕ → ℕ) (j : ℕ) → k ≤ j → extended a j ≡ 0
      past a j g = ap (λ b. cond b (a j) 0) (le-ltb j k g)

      code : (a : ℕ → ℕ) → ((j : ℕ) → j < k → a j < q) → (j : ℕ) → j < n → extended a j < q
      code a c j _ =
          elim (cases_lt j k) [
            | inl b ↦ subst (λ (x : ℕ). x < q) (sym (at a j b)) (c j b)
            | inr g ↦ subst (λ (x : ℕ). x < q) (sym (past a j g)) (zero_below q F)
          ]

      rows : (a : ℕ → ℕ) (i : ℕ) → combination q n A (extended a) i ≡ combination q k A a i
      rows a i =
          sum_start q F k n (λ j. times q (A i j) (extended a j)) le (λ j g _. ap (times q (A i j)) (past a j g) ∙ times_zero q F (A i j))
          ∙ sum_same q F k (λ j. times q (A i j) (extended a j)) (λ j. times q (A i j) (a j)) (λ j l. ap (times q (A i j)) (at a j l))

  -- independence looks at the columns alone
  pub independent_same : (n : ℕ) (A B : Matrix) → ((i j : ℕ) → j < n → A i j ≡ B i j) → Independent q r n A → Independent q r n B
  independent_same n A B e h = record {
    only_zero = λ a c z. h.only_zero a c
        (λ i l. sum_same q F n (λ j. times q (A i j) (a j)) (λ j. times q (B i j) (a j)) (λ j m. ap (λ x. times q x (a j)) (e i j m)) ∙ z i l);
  }

-- ---- what is reached

-- something is reached where the factors agree
pub reached : (M : Rep) → KeepsLimits M → Agrees M → (m : Move) × (N : Rep) × Reaches M m N
reached M h a =
    let (N, standard, e) = standard_exists Linear M h.shaped (let F = h.fields in F.some) a in
    (e.move, N, record { valid = e.valid; takes = e.takes; standard = standard })

module _ (M : Rep) (m : Move) (N : Rep) (h : KeepsLimits M) (w : Reaches M m N) where
  room : M.rank ≤ size M
  room = subst (λ s. s.rank ≤ s.size) w.takes.same_shape w.standard.room

  row_inside : (i : ℕ) → i < M.rank → i < size M
  row_inside i l = let o : M.rank ≤ size M = room in omega arith

  first_inside : 0 < size M
  first_inside = row_inside 0 h.rank_positive

  module _ (f : ℕ) (l : f < count M) where
    field : IsField (order M f)
    field = field_laws (order M f) (let s = h.shaped in s.orders f l)

    code_of_row : (i : ℕ) → i < M.rank → row_scalar M m f i < order M f
    code_of_row i n = let F = field in F.times_below _ _

    nonzero_of_row : (i : ℕ) → i < M.rank → row_scalar M m f i ≢ 0
    nonzero_of_row i n =
        let c : m.scalar f i < order M f = w.valid.scalars f i l (row_inside i n) in
        let F = field in
        times_nonzero (order M f) field (m.scalar f 0) (inverse (order M f) (m.scalar f i)) (w.valid.scalars f 0 l first_inside)
        (F.inverse_below (m.scalar f i) c)
        (w.valid.nonzero f 0 l first_inside) (inverse_nonzero (order M f) field (m.scalar f i) c (w.valid.nonzero f i l (row_inside i n)))

    one_of_first : row_scalar M m f 0 ≡ 1
    one_of_first = let F = field in F.times_inverse (m.scalar f 0) (w.valid.scalars f 0 l first_inside) (w.valid.nonzero f 0 l first_inside)

    labels_independent : Independent (order M f) M.rank M.rank (λ i j. matrix M f i (m.label j))
    labels_independent =
        ordered_independent (order M f) field M.rank (size M) (matrix M f) m.label m.place room w.valid.labels
        (let b = standard_basis Linear M N m h.shaped w.standard w.valid w.takes f l in b.independent)

-- a row scalar is a code other than 0, and that of row 0 is 1
pub row_scalar_code : (M : Rep) (m : Move) (N : Rep) (f i : ℕ) → KeepsLimits M → Reaches M m N → f < count M → i < M.rank → row_scalar M m f i < order M f
row_scalar_code M m N f i h w l n = code_of_row M m N h w f l i n

pub row_scalar_nonzero : (M : Rep) (m : Move) (N : Rep) (f i : ℕ) → KeepsLimits M → Reaches M m N → f < count M → i < M.rank → row_scalar M m f i ≢ 0
row_scalar_nonzero M m N f i h w l n = nonzero_of_row M m N h w f l i n

pub row_scalar_first : (M : Rep) (m : Move) (N : Rep) (f : ℕ) → KeepsLimits M → Reaches M m N → f < count M → row_scalar M m f 0 ≡ 1
row_scalar_first M m N f h w l = one_of_first M m N h w f l

-- what begins with these columns has them independent
pub begins_independent : (M : Rep) (columns : List ℕ) (m : Move) (N : Rep) → KeepsLimits M → length columns ≤ M.rank →
    Reaches M m N → PicksFirst columns m → AreIndependentColumns M columns
begins_independent M columns m N h le w b = record {
  below = λ l n. subst (λ (x : ℕ). x < size M) (b l n) (w.valid.labels.below l (row_inside M m N h w l (omega arith)));
  independent = λ f l.
      independent_same (order M f) (field M m N h w f l) M.rank (length columns) (λ i j. matrix M f i (m.label j))
      (chosen M columns f) (λ i j n. ap (matrix M f i) (b j n))
      (first_independent (order M f) (field M m N h w f l) M.rank (length columns) M.rank (λ i j. matrix M f i (m.label j)) le
      (labels_independent M m N h w f l));
}

-- ---- the form

-- the representation with the factors and the rank of N, and other columns
abbrev with_columns : Rep → List (List ℕ) → Rep
with_columns N columns = record { factors = N.factors; rank = N.rank; columns = columns }

same_but_columns : (N P : Rep) → shape P ≡ shape N → P ≡ with_columns N P.columns
same_but_columns N P e = λ i. record { factors = ap (λ s. s.factors) e i; rank = ap (λ s. s.rank) e i; columns = P.columns }

-- standard representations of one shape have the same first columns
first_columns : (N : Rep) (columns : List (List ℕ)) → 0 < count N → IsShaped N → IsStandard N → IsShaped (with_columns N columns) →
    IsStandard (with_columns N columns) → take N.rank columns ≡ take N.rank N.columns
first_columns N columns p s t s' t' =
    let a : length (take N.rank columns) ≡ N.rank = length-take-le N.rank columns t'.room in
    let b : length (take N.rank N.columns) ≡ N.rank = length-take-le N.rank N.columns t.room in
    ext_get_or [] (take N.rank columns) (take N.rank N.columns) (a ∙ sym b) (λ j l. one j (subst (λ (n : ℕ). j < n) a l))
  where
    one : (j : ℕ) → j < N.rank → slice_index_or (take N.rank columns) j [] ≡ slice_index_or (take N.rank N.columns) j []
    one j l =
        let o : N.rank ≤ length columns = t'.room in
        let o' : N.rank ≤ size N = t.room in
        get_or-take N.rank columns j [] l
        ∙ same_column N.rank (count N) (slice_index_or columns j []) (slice_index_or N.columns j []) (s'.lengths j (omega arith)) (s.lengths j (omega arith)) p
        (λ f i m n. t'.units f i j m n l ∙ sym (t.units f i j m n l))
        ∙ sym (get_or-take N.rank N.columns j [] l)

first_columns_of : (N P : Rep) → 0 < count N → IsShaped N → IsStandard N → IsShaped P → IsStandard P → shape P ≡ shape N →
    take N.rank P.columns ≡ take N.rank N.columns
first_columns_of N P p s t s' t' e = first_columns N P.columns p s t (subst IsShaped (same_but_columns N P e) s') (subst IsStandard (same_but_columns N P e) t')

-- so the later columns decide how they compare
compared : (N P : Rep) → 0 < count N → IsShaped N → IsStandard N → IsShaped P → IsStandard P → shape P ≡ shape N → rep_cmp N P ≡ columns_cmp (later N) (later P)
compared N P p s t s' t' e =
    let first : take N.rank P.columns ≡ take N.rank N.columns = first_columns_of N P p s t s' t' e in
    let itself : slice_cmp (slice_cmp nat_cmp) (take N.rank N.columns) (take N.rank N.columns) ≡ Equal = tied_itself columns_total (take N.rank N.columns) in
    (λ i. slice_cmp (slice_cmp nat_cmp) (sym (take-append-drop N.rank N.columns) i) (sym (take-append-drop N.rank P.columns) i))
    ∙ ap (λ (xs : List (List ℕ)). slice_cmp (slice_cmp nat_cmp) (take N.rank N.columns ++ drop N.rank N.columns) (xs ++ drop N.rank P.columns)) first
    ∙ slice_cmp-append (slice_cmp nat_cmp) (take N.rank N.columns) (drop N.rank N.columns) (take N.rank N.columns) (drop N.rank P.columns) refl
    ∙ ap (λ (o : Ordering). ordering_then o (columns_cmp (drop N.rank N.columns) (drop N.rank P.columns))) itself
    ∙ ap (λ s. columns_cmp (drop N.rank N.columns) (drop s.rank P.columns)) (sym e)

-- and with the same later columns they are equal
pub same_later : (N P : Rep) → 0 < count N → IsShaped N → IsStandard N → IsShaped P → IsStandard P → shape P ≡ shape N → later P ≡ later N → P ≡ N
same_later N P p s t s' t' e d =
    same_but_columns N P e
    ∙ ap (with_columns N)
    (sym (take-append-drop N.rank P.columns)
    ∙ (λ i. first_columns_of N P p s t s' t' e i ++ (ap (λ s. drop s.rank P.columns) (sym e) ∙ d) i)
    ∙ take-append-drop N.rank N.columns)

-- a standard representation whose later columns are of the class is equivalent
pub class_equivalent : (M N : Rep) (columns : List (List ℕ)) → KeepsLimits M → IsShaped N → shape N ≡ shape M → IsStandard N → later N ≡ columns
    → AreOfClass M columns → AreEquivalent Linear M N
class_equivalent M N columns h s e t d c = subst (AreEquivalent Linear M) member c.equivalent
  where
    some : 0 < count N
    some = subst (λ s. 0 < length s.factors) (sym e) (let F = h.fields in F.some)

    member : c.member ≡ N
    member = let x = c.equivalent in same_later N c.member some s t x.takes.shaped c.standard (x.takes.same_shape ∙ sym e) (c.later_are ∙ sym d)

-- and where its later columns are not above those of any standard member, it is the form
pub class_form : (M N : Rep) (columns : List (List ℕ)) → KeepsLimits M → Agrees M → IsShaped N → shape N ≡ shape M → IsStandard N → later N ≡ columns
    → AreOfClass M columns
    → ((m : Move) (L : Rep) → Reaches M m L → columns_cmp columns (later L) ≢ Greater)
    → IsForm Linear N × AreEquivalent Linear M N
class_form M N columns h a s e t d c least = (
  record {
    representation = record { some = some; shaped = s; agrees = (agrees_carried Linear M N equivalent).0 a };
    standard = t;
    least = λ P u x g.
        let y : AreEquivalent Linear M P = equivalent-transitive Linear M N P equivalent x in
        least y.move P (record { valid = y.valid; takes = y.takes; standard = u })
        (ap (λ (xs : List (List ℕ)). columns_cmp xs (later P)) (sym d) ∙ sym (compared N P some s t x.takes.shaped u x.takes.same_shape) ∙ g);
  },
  equivalent,
)
  where
    some : 0 < count N
    some = subst (λ s. 0 < length s.factors) (sym e) (let F = h.fields in F.some)

    equivalent : AreEquivalent Linear M N
    equivalent = class_equivalent M N columns h s e t d c
