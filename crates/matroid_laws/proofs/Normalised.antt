-- The last column of a simple form is normalised.
use Rattle.std.proofs.Common.{◌≡◌, ◌≢◌, ℕ, zero, suc, ◌+◌, ◌*◌, ◌/◌, ◌%◌, ◌<◌, ◌≤◌, refl, sym, ◌∙◌, ap, subst, arith, List, [], ◌∷◌, length, cond, true, false, inl, inr, ◌⊎◌, slice_index}
use Rattle.std.specs.Bool.{◌==◌}
use Rattle.std.specs.Prelude.{◌||◌}
use Rattle.std.proofs.lemmas.Bool.{cases_lt, cases_eq, le-ltb}
use Rattle.std.proofs.lemmas.Nat.{mul-add-lt, mul-le}
use Rattle.std.proofs.Math.Nat.{mod-lt}
use Rattle.std.specs.Cmp.{nat_cmp_total}
use Rattle.std.proofs.lemmas.Cmp.{tied_itself}
use Rattle.std.specs.Cmp.Lexicographic.{slice_cmp}
use Rattle.std.specs.Ordering.{nat_cmp, ordering_then}
use Rattle.std.specs.declared.cmp.Ordering.{Ordering}
use Rattle.std.specs.declared.cmp.Ordering.TheVariants.{Less, Equal, Greater}
use Rattle.matroid_theory.specs.Field.{IsField, times, inverse}
use Rattle.matroid_theory.specs.Matrix.{Matrix, unit, size_below, IsIndependent}
use Rattle.matroid_theory.specs.Rep.{Rep, shape, count, size, order, matrix, IsShaped, IsStandard}
use Rattle.matroid_theory.specs.Matroid.{IsBasis, Agrees, IsSimple}
use Rattle.matroid_theory.specs.declared.Mode.{Mode}
use Rattle.matroid_theory.specs.Move.{Move, IsMove, moved, AreEquivalent}
use Rattle.matroid_theory.specs.Order.{rep_cmp, IsForm}
use Rattle.matroid_theory.specs.Level.{IsNormalised, followed_by}
use Rattle.matrix_lemmas.proofs.FieldLaws.{field_laws}
use Rattle.matrix_lemmas.proofs.Sums.{same_number, other_number, combination-unit, times_zero}
use Rattle.matrix_lemmas.proofs.Frobenius.{inverse_nonzero}
use Rattle.matroid_laws.proofs.Levels.{columns_total}
use Rattle.matroid_laws.proofs.First.{row_below, whole}
use Rattle.matroid_laws.proofs.Equivalence.{identity, identity_move}
use Rattle.matrix_lemmas.proofs.Columns.{column_with, column_with-at, column_with_codes}
use Rattle.matroid_laws.proofs.Followed.{matrix_before, matrix_last, size_followed, shaped_pushed, shaped_before, column_last, standard_followed, standard_before}
use Rattle.matroid_laws.proofs.Prefix.{slice_cmp-append, at_last, at_last-before, at_last-own}
use Rattle.matroid_laws.proofs.Supports.{exchanged, size_exchanged, exchanged_independent, exchanged_dependent, zeros_dependent}

-- ---- lists

-- the first number below r where c isn't zero
pub record Lead (r : ℕ) (c : ℕ → ℕ) : Type 0 where
  pub at : ℕ
  pub below : at < r
  pub nonzero : c at ≢ 0
  pub before : (k : ℕ) → k < at → c k ≡ 0

pub lead_or_zero : (r : ℕ) (c : ℕ → ℕ) → Lead r c ⊎ ((i : ℕ) → i < r → c i ≡ 0)
lead_or_zero zero c = inr (λ i l. absurd (omega arith))
lead_or_zero (suc r) c =
    elim (lead_or_zero r c) [
      | inl w ↦ inl (record { at = w.at; below = (let l : w.at < r = w.below in omega arith); nonzero = w.nonzero; before = w.before })
      | inr z ↦ elim (cases_eq (c r) 0) [
        | inl e ↦ inr (λ i l. elim (cases_lt i r) [ inl b ↦ z i b | inr g ↦ (let k : i ≡ r = omega arith in ap c k ∙ e) ])
        | inr n ↦ inl (record { at = r; below = omega arith; nonzero = n; before = z })
      ]
    ]

nat_cmp-above : (x y : ℕ) → y < x → nat_cmp x y ≡ Greater
nat_cmp-above x y l = ap (λ b. cond b Less (cond (x == y) Equal Greater)) (le-ltb x y (omega arith))
    ∙ ap (λ b. cond b Equal Greater) (other_number x y (λ e. absurd (omega arith)))

nat_cmp-same : (x y : ℕ) → x ≡ y → nat_cmp x y ≡ Equal
nat_cmp-same x y e = ap (nat_cmp x) (sym e) ∙ tied_itself nat_cmp_total x

-- of two lists as long, the one with the greater number at the first place where they differ is the greater
greater_at : (xs ys : List ℕ) (k : ℕ) → length xs ≡ length ys → k < length xs →
    ((e : ℕ) → e < k → slice_index xs e ≡ slice_index ys e) → slice_index ys k < slice_index xs k → slice_cmp nat_cmp xs ys ≡ Greater
greater_at [] ys k d l h g = absurd (omega arith)
greater_at (x ∷ xs) [] k d l h g = absurd (omega arith)
greater_at (x ∷ xs) (y ∷ ys) zero d l h g = ap (λ (o : Ordering). ordering_then o (slice_cmp nat_cmp xs ys)) (nat_cmp-above x y g)
greater_at (x ∷ xs) (y ∷ ys) (suc k) d l h g =
    ap (λ (o : Ordering). ordering_then o (slice_cmp nat_cmp xs ys)) (nat_cmp-same x y (h 0 (omega arith)))
    ∙ greater_at xs ys k (omega arith) (omega arith) (λ e b. h (suc e) (omega arith)) g

-- ---- the last column

module _ (P : Rep) (v : List ℕ) (shaped : IsShaped (followed_by P v)) (st : IsStandard P) where
  field : (f : ℕ) → f < count P → IsField (order P f)
  field f l = field_laws (order P f) (shaped.orders f l)

  -- the code of the last column at row i in factor f
  abbrev entry : ℕ → ℕ → ℕ
  entry i f = slice_index v (i * count P + f)

  entry_code : (i f : ℕ) → i < P.rank → f < count P → entry i f < order P f
  entry_code i f m l = let c = column_last P v shaped in c.codes i f m l

  last_below : size P < size (followed_by P v)
  last_below = let k : size (followed_by P v) ≡ suc (size P) = size_followed P v in omega arith

  units : (f : ℕ) → f < count P → (i j : ℕ) → i < P.rank → j < P.rank → matrix (followed_by P v) f i j ≡ unit i j
  units f l i j m n = let s = standard_followed P v st in s.units f i j l m n

  -- with the unit columns but column i it is a basis, where its code in row i isn't zero
  basis_of_nonzero : (f i : ℕ) → f < count P → i < P.rank → entry i f ≢ 0 → IsBasis (followed_by P v) f (exchanged P.rank (size P) i)
  basis_of_nonzero f i l m ne = record {
    full = ap (λ n. size_below n (exchanged P.rank (size P) i)) (size_followed P v) ∙ size_exchanged P.rank (size P) i st.room m;
    independent = subst (λ n. IsIndependent (order P f) P.rank n (matrix (followed_by P v) f) (exchanged P.rank (size P) i)) (sym (size_followed P v))
        (exchanged_independent (order P f) (field f l) P.rank (size P) (matrix (followed_by P v) f) st.room (units f l) i m
        (shaped.codes f i (size P) l m last_below) (λ e. ne (sym (matrix_last P v f i) ∙ e)));
  }

  no_basis_of_zero : (f i : ℕ) → f < count P → i < P.rank → entry i f ≡ 0 → ¬ (IsBasis (followed_by P v) f (exchanged P.rank (size P) i))
  no_basis_of_zero f i l m e b =
      exchanged_dependent (order P f) (field f l) P.rank (size P) (matrix (followed_by P v) f) st.room (units f l) i m
      (λ k o. shaped.codes f k (size P) l o last_below) (matrix_last P v f i ∙ e)
      (subst (λ n. IsIndependent (order P f) P.rank n (matrix (followed_by P v) f) (exchanged P.rank (size P) i)) (size_followed P v) b.independent)

  -- all factors have the same support
  pub same_support : Agrees (followed_by P v) → (i f g : ℕ) → i < P.rank → f < count P → g < count P → entry i f ≡ 0 → entry i g ≡ 0
  same_support a i f g m l o e =
      elim (cases_eq (entry i g) 0) [
        | inl z ↦ z
        | inr ne ↦ absurd (no_basis_of_zero f i l m e (a.same g f o l (exchanged P.rank (size P) i) (basis_of_nonzero g i o m ne)))
      ]

  -- it isn't zero
  pub not_zero : 0 < count P → IsSimple (followed_by P v) → ¬ ((i : ℕ) → i < P.rank → entry i 0 ≡ 0)
  not_zero pos h z =
      zeros_dependent (order P 0) (field 0 pos) P.rank (size P) (matrix (followed_by P v) 0) (λ k. (k == size P) || (k == size P))
      (ap (λ b. b || (size P == size P)) (same_number (size P)))
      (λ k l. matrix_last P v 0 k ∙ z k l)
      (subst (λ n. IsIndependent (order P 0) P.rank n (matrix (followed_by P v) 0) (λ k. (k == size P) || (k == size P)))
      (size_followed P v) (h 0 (size P) (size P) pos last_below last_below))

  -- ---- the last column of one factor scaled

  module _ (f : ℕ) (l : f < count P) (c : ℕ) (c_code : c < order P f) (c_nonzero : c ≢ 0) where
    factor_scalar : ℕ → ℕ
    factor_scalar g = cond (g == f) c 1

    scalar_own : factor_scalar f ≡ c
    unfolding factor_scalar
    scalar_own = ap (λ b. cond b c 1) (same_number f)

    scalar_other : (g : ℕ) → g ≢ f → factor_scalar g ≡ 1
    unfolding factor_scalar
    scalar_other g ne = ap (λ b. cond b c 1) (other_number g f ne)

    scalar_code : (g : ℕ) → g < count P → factor_scalar g < order P g
    scalar_code g o = elim (cases_eq g f) [
      | inl e ↦ subst (λ g. factor_scalar g < order P g) (sym e) (subst (λ (x : ℕ). x < order P f) (sym scalar_own) c_code)
      | inr ne ↦ (let F = field g o in subst (λ (x : ℕ). x < order P g) (sym (scalar_other g ne)) F.two)
    ]

    scalar_nonzero : (g : ℕ) → factor_scalar g ≢ 0
    scalar_nonzero g z = elim (cases_eq g f) [
      | inl e ↦ c_nonzero (sym scalar_own ∙ ap factor_scalar (sym e) ∙ z)
      | inr ne ↦ (let k : 1 ≡ zero = sym (scalar_other g ne) ∙ z in absurd (omega arith))
    ]

    scaling : Move
    scaling = record identity { scalar = λ g. at_last (size P) (factor_scalar g) (λ _. 1) }

    scaling_move : (mode : Mode) → IsMove mode (shape (followed_by P v)) scaling
    unfolding scaling identity
    scaling_move mode = record {
      powers = same.powers;
      allowed = same.allowed;
      codes = same.codes;
      back_codes = same.back_codes;
      inverse = same.inverse;
      scalars = λ g j o _. (let F = field g o in
          elim (j == size P) as (λ b. cond b (factor_scalar g) 1 < order P g) [ true ↦ scalar_code g o | false ↦ F.two ]);
      nonzero = λ g j o _. elim (j == size P) as (λ b. cond b (factor_scalar g) 1 ≢ 0)
          [ true ↦ scalar_nonzero g | false ↦ (λ z. let k : 1 ≡ zero = z in absurd (omega arith)) ];
      labels = same.labels;
    }
      where
        same : IsMove mode (shape (followed_by P v)) identity
        same = identity_move mode (shape (followed_by P v)) shaped.orders

    new_column : Matrix
    new_column g i = times (order P g) (factor_scalar g) (entry i g)

    scaled : List ℕ
    scaled = column_with P.rank (count P) new_column

    scaled-at : (g i : ℕ) → g < count P → i < P.rank → slice_index scaled (i * count P + g) ≡ times (order P g) (factor_scalar g) (entry i g)
    unfolding scaled new_column
    scaled-at g i o m = column_with-at P.rank (count P) new_column g i m o

    scaled_length : length scaled ≡ P.rank * count P
    unfolding scaled new_column
    scaled_length = let k = column_with_codes P.factors P.rank new_column (λ g i o m. (let F = field g o in F.times_below _ _)) in k.rows

    codes_moved : (g i j : ℕ) → g < count P → i < P.rank → j < size (followed_by P v) →
        matrix (followed_by P scaled) g i j ≡ moved (shape (followed_by P v)) (matrix (followed_by P v)) scaling g i j
    unfolding scaling identity
    codes_moved g i j o m n =
        let F = field g o in
        let same = combination-unit (order P g) F P.rank (λ k. matrix (followed_by P v) g k j) i m (shaped.codes g i j o m n) in
        elim (cases_lt j (size P)) [
          | inl b ↦ (matrix_before P scaled g i j b ∙ sym (matrix_before P v g i j b)
              ∙ sym ((λ t. times (order P g) (at_last-before (size P) (factor_scalar g) (λ _. 1) j b t) (same t))
              ∙ F.times_one (matrix (followed_by P v) g i j) (shaped.codes g i j o m n)))
          | inr h ↦ (let k : size (followed_by P v) ≡ suc (size P) = size_followed P v in
              let e : j ≡ size P = omega arith in
              ap (matrix (followed_by P scaled) g i) e ∙ matrix_last P scaled g i ∙ scaled-at g i o m
              ∙ sym ((λ t. times (order P g) ((ap (at_last (size P) (factor_scalar g) (λ _. 1)) e ∙ at_last-own (size P) (factor_scalar g) (λ _. 1)) t)
              ((same ∙ ap (matrix (followed_by P v) g i) e ∙ matrix_last P v g i) t)))
              )
        ]

    equivalent_scaled : (mode : Mode) → AreEquivalent mode (followed_by P v) (followed_by P scaled)
    unfolding scaled new_column
    equivalent_scaled mode = record {
      shaped = shaped;
      move = scaling;
      valid = scaling_move mode;
      takes = record {
        same_shape = λ i. record { factors = P.factors; rank = P.rank; size = (size_followed P scaled ∙ sym (size_followed P v)) i };
        shaped = shaped_pushed P scaled (shaped_before P v shaped)
            (column_with_codes P.factors P.rank new_column (λ g i o m. (let F = field g o in F.times_below _ _)));
        codes = codes_moved;
      };
    }

    -- where its code in row i and factor f gets less, and it has no code before it in that factor, it gets less
    scaled_less : (lead : ℕ) → lead < P.rank → ((k : ℕ) → k < lead → entry k f ≡ 0) →
        times (order P f) c (entry lead f) < entry lead f → rep_cmp (followed_by P v) (followed_by P scaled) ≡ Greater
    scaled_less lead d z less =
        slice_cmp-append (slice_cmp nat_cmp) P.columns (v ∷ []) P.columns (scaled ∷ []) refl
        ∙ ap (λ (o : Ordering). ordering_then o (slice_cmp (slice_cmp nat_cmp) (v ∷ []) (scaled ∷ []))) (tied_itself columns_total P.columns)
        ∙ ap (λ (o : Ordering). ordering_then o Equal)
        (greater_at v scaled place (as_long ∙ sym scaled_length) (subst (λ n. place < n) (sym as_long) inside) before
        (subst (λ (x : ℕ). x < slice_index v place) (sym (scaled-at f lead l d ∙ ap (λ s. times (order P f) s (entry lead f)) scalar_own)) less))
      where
        place : ℕ
        place = lead * count P + f

        as_long : length v ≡ P.rank * count P
        as_long = let k = column_last P v shaped in k.rows

        inside : place < P.rank * count P
        inside = let h : place < count P * P.rank = mul-add-lt lead (count P) f P.rank d l in omega arith

        before : (e : ℕ) → e < place → slice_index v e ≡ slice_index scaled e
        before e b =
            let pos : 0 < count P = omega arith in
            let i : e / count P < P.rank = row_below e (count P) P.rank pos (omega (arith, inside)) in
            let g : e % count P < count P = mod-lt e pos in
            let p : e / count P * count P + e % count P ≡ e = whole e (count P) pos in
            sym (ap (slice_index v) p)
            ∙ sym (scaled-at (e % count P) (e / count P) g i
            ∙ kept (e / count P) (e % count P) i g (subst (λ (x : ℕ). x < place) (sym p) b)) ∙ ap (slice_index scaled) p
          where
            kept : (i g : ℕ) → i < P.rank → g < count P → i * count P + g < place → times (order P g) (factor_scalar g) (entry i g) ≡ entry i g
            kept i g m o b =
                let F = field g o in
                elim (cases_eq g f) [
                  | inr ne ↦ ap (λ s. times (order P g) s (entry i g)) (scalar_other g ne) ∙ F.times_one (entry i g) (entry_code i g m o)
                  | inl e ↦ (let zero_code : entry i g ≡ 0 = ap (entry i) e ∙ z i (earlier e) in
                      ap (times (order P g) (factor_scalar g)) zero_code ∙ times_zero (order P g) F (factor_scalar g) ∙ sym zero_code)
                ]
              where
                earlier : g ≡ f → i < lead
                earlier e = elim (cases_lt i lead) [
                  | inl y ↦ y
                  | inr y ↦ (let k : lead * count P ≤ i * count P = mul-le lead (count P) i (count P) y (omega arith) in absurd (omega arith))
                ]

  -- in a form the first code that isn't zero is 1
  lead_one : (mode : Mode) → IsForm mode (followed_by P v) → (f lead : ℕ) → f < count P → lead < P.rank →
      ((k : ℕ) → k < lead → entry k f ≡ 0) → entry lead f ≢ 0 → entry lead f ≡ 1
  lead_one mode h f lead l d z ne =
      elim (cases_eq (entry lead f) 1) [
        | inl e ↦ e
        | inr other ↦ (let F = field f l in
            let x : entry lead f < order P f = entry_code lead f d l in
            let c = F.inverse_below (entry lead f) x in
            let n = inverse_nonzero (order P f) F (entry lead f) x ne in
            let one : times (order P f) (inverse (order P f) (entry lead f)) (entry lead f) ≡ 1 =
            F.times_comm (inverse (order P f) (entry lead f)) (entry lead f) ∙ F.times_inverse (entry lead f) x ne in
            absurd (h.least (followed_by P (scaled f l (inverse (order P f) (entry lead f)) c n))
            (standard_followed P (scaled f l (inverse (order P f) (entry lead f)) c n) st)
            (equivalent_scaled f l (inverse (order P f) (entry lead f)) c n mode)
            (scaled_less f l (inverse (order P f) (entry lead f)) c n lead d z (omega arith))))
      ]

  normalised : (mode : Mode) → IsForm mode (followed_by P v) → 0 < count P → Agrees (followed_by P v) → IsSimple (followed_by P v) →
      IsNormalised P.factors P.rank v
  normalised mode h pos a simple =
      elim (lead_or_zero P.rank (λ i. entry i 0)) [
        | inl w ↦ record {
          is_column = column_last P v shaped;
          lead = w.at;
          lead_below = w.below;
          zeros = zeros w;
          ones = λ f l. lead_one mode h f w.at l w.below (λ k b. zeros w k f b l) (λ e. w.nonzero (same_support a w.at f 0 w.below l pos e));
          support = same_support a;
        }
        | inr z ↦ absurd (not_zero pos simple z)
      ]
    where
      zeros : (w : Lead P.rank (λ i. entry i 0)) (k f : ℕ) → k < w.at → f < count P → entry k f ≡ 0
      zeros w k f b l = same_support a k 0 f (let d : w.at < P.rank = w.below in omega arith) pos l (w.before k b)

-- a last column that is a unit column is normalised
unit_normalised : (P : Rep) (v : List ℕ) → IsShaped (followed_by P v) → IsStandard (followed_by P v) → size P < P.rank → IsNormalised P.factors P.rank v
unit_normalised P v shaped st b = record {
  is_column = column_last P v shaped;
  lead = size P;
  lead_below = b;
  zeros = λ i f l m. code i f (omega arith) m ∙ ap (λ b. cond b 1 0) (other_number i (size P) (λ e. absurd (omega arith)));
  ones = λ f m. code (size P) f b m ∙ ap (λ b. cond b 1 0) (same_number (size P));
  support = λ i f g l m o e. code i g l o ∙ sym (code i f l m) ∙ e;
}
  where
    code : (i f : ℕ) → i < P.rank → f < count P → slice_index v (i * count P + f) ≡ unit i (size P)
    code i f l m = sym (matrix_last P v f i) ∙ st.units f i (size P) m l b

-- the last column of a simple form is normalised
pub last_normalised : (mode : Mode) (P : Rep) (v : List ℕ) → IsForm mode (followed_by P v) → IsSimple (followed_by P v) → IsNormalised P.factors P.rank v
last_normalised mode P v h simple =
    let w = h.representation in
    elim (cases_lt (size P) P.rank) [
      | inl b ↦ unit_normalised P v w.shaped h.standard b
      | inr room ↦ normalised P v w.shaped (standard_before P v room h.standard) mode h w.some w.agrees simple
    ]
