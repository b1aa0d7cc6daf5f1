-- Where the last column of a form is left out, a form is left.
use Rattle.std.proofs.Common.{◌≡◌, ◌≢◌, ℕ, zero, suc, ◌<◌, ◌≤◌, refl, sym, ◌∙◌, ap, subst, arith, List, [], ◌∷◌, ◌++◌, length, cond, inl, inr, slice_index}
use Rattle.std.specs.Bool.{◌==◌, nat_lt}
use Rattle.std.proofs.lemmas.Bool.{cases_lt}
use Rattle.std.specs.Cmp.Lexicographic.{slice_cmp}
use Rattle.std.specs.Ordering.{nat_cmp, ordering_then}
use Rattle.std.specs.declared.cmp.Ordering.{Ordering}
use Rattle.matroid_theory.specs.Field.{IsOrder, IsField, times, raised}
use Rattle.matroid_theory.specs.Matrix.{Matrix, combination}
use Rattle.matroid_theory.specs.Rep.{Rep, Shape, shape, count, size, order, matrix, IsShaped, IsStandard}
use Rattle.matroid_theory.specs.Matroid.{IsRepresentation}
use Rattle.matroid_theory.specs.declared.Mode.{Mode}
use Rattle.matroid_theory.specs.Move.{Move, IsMove, moved, AreEquivalent}
use Rattle.matroid_theory.specs.Order.{IsForm}
use Rattle.matroid_theory.specs.Level.{followed_by}
use Rattle.matrix_lemmas.proofs.FieldLaws.{field_laws}
use Rattle.matrix_lemmas.proofs.Sums.{same_number, other_number, combination-same}
use Rattle.matroid_laws.proofs.Rest.{units_basis, rest_agrees}
use Rattle.matrix_lemmas.proofs.Columns.{column_with, column_with-at, column_with_codes}
use Rattle.matroid_laws.proofs.Followed.{matrix_before, matrix_last, size_followed, shaped_pushed, shaped_before, standard_followed, standard_before}
use Rattle.matrix_lemmas.proofs.Orderings.{then_assoc}

-- the order of lists of columns whose first parts are as long
pub slice_cmp-append : {A : Type 0} (R : A → A → Ordering) (a b c d : List A) → length a ≡ length c →
    slice_cmp R (a ++ b) (c ++ d) ≡ ordering_then (slice_cmp R a c) (slice_cmp R b d)
slice_cmp-append R [] b [] d e = refl
slice_cmp-append R [] b (y ∷ ys) d e = absurd (omega arith)
slice_cmp-append R (x ∷ xs) b [] d e = absurd (omega arith)
slice_cmp-append R (x ∷ xs) b (y ∷ ys) d e =
    ap (ordering_then (R x y)) (slice_cmp-append R xs b ys d (omega arith)) ∙ sym (then_assoc (R x y) (slice_cmp R xs ys) (slice_cmp R b d))

-- a function with another value at n
abbrev pub at_last : {X : Type 0} → ℕ → X → (ℕ → X) → ℕ → X
at_last n x g j = cond (j == n) x (g j)

pub at_last-before : {X : Type 0} (n : ℕ) (x : X) (g : ℕ → X) (j : ℕ) → j < n → at_last n x g j ≡ g j
at_last-before n x g j l = let ne : j ≢ n = omega arith in ap (λ b. cond b x (g j)) (other_number j n ne)

pub at_last-own : {X : Type 0} (n : ℕ) (x : X) (g : ℕ → X) → at_last n x g n ≡ x
at_last-own n x g = ap (λ b. cond b x (g n)) (same_number n)

-- a permutation with one more number, which stays
pub kept : (n : ℕ) (p u : ℕ → ℕ) → ((j : ℕ) → j < n → p j < n) → ((j : ℕ) → j < n → u (p j) ≡ j) → (j : ℕ) → j < suc n → at_last n n u (at_last n n p j) ≡ j
kept n p u b t j l =
    elim (cases_lt j n) [
      | inl s ↦ ap (at_last n n u) (at_last-before n n p j s) ∙ at_last-before n n u (p j) (b j s) ∙ t j s
      | inr g ↦ (let e : j ≡ n = omega arith in ap (λ j. at_last n n u (at_last n n p j)) e ∙ ap (at_last n n u) (at_last-own n n p)
          ∙ at_last-own n n u ∙ sym e)
    ]

pub kept_below : (n : ℕ) (p : ℕ → ℕ) → ((j : ℕ) → j < n → p j < n) → (j : ℕ) → j < suc n → at_last n n p j < suc n
kept_below n p b j l =
    elim (cases_lt j n) [
      | inl s ↦ (let k : p j < n = b j s in subst (λ (x : ℕ). x < suc n) (sym (at_last-before n n p j s)) (omega arith))
      | inr g ↦ (let e : j ≡ n = omega arith in subst (λ (x : ℕ). x < suc n) (sym (ap (at_last n n p) e ∙ at_last-own n n p)) (omega arith))
    ]

-- the move, with one more column that keeps its place and has the scalar 1
pub extended : ℕ → Move → Move
extended n m = record m { scalar = λ f. at_last n 1 (m.scalar f); label = at_last n n m.label; place = at_last n n m.place }

extended_move : (mode : Mode) (S : Shape) → ((f : ℕ) → f < length S.factors → IsOrder (slice_index S.factors f)) → (m : Move) →
    IsMove mode S m → IsMove mode (record S { size = suc S.size }) (extended S.size m)
unfolding extended
extended_move mode S fields m v = record {
  powers = v.powers;
  allowed = v.allowed;
  codes = v.codes;
  back_codes = v.back_codes;
  inverse = v.inverse;
  scalars = λ f j l o. elim (cases_lt j S.size) [
    | inl s ↦ subst (λ (x : ℕ). x < slice_index S.factors f) (sym (at_last-before S.size 1 (m.scalar f) j s)) (v.scalars f j l s)
    | inr g ↦ (let e : j ≡ S.size = omega arith in let F : IsField (slice_index S.factors f) = field_laws (slice_index S.factors f) (fields f l) in
        subst (λ (x : ℕ). x < slice_index S.factors f) (sym (ap (at_last S.size 1 (m.scalar f)) e ∙ at_last-own S.size 1 (m.scalar f))) F.two)
  ];
  nonzero = λ f j l o z. elim (cases_lt j S.size) [
    | inl s ↦ v.nonzero f j l s (sym (at_last-before S.size 1 (m.scalar f) j s) ∙ z)
    | inr g ↦ (let e : j ≡ S.size = omega arith in
        let k : 1 ≡ zero = sym (ap (at_last S.size 1 (m.scalar f)) e ∙ at_last-own S.size 1 (m.scalar f)) ∙ z in omega arith)
  ];
  labels = record {
    below = kept_below S.size m.label v.labels.below;
    inverse_below = kept_below S.size m.place v.labels.inverse_below;
    there = kept S.size m.label m.place v.labels.below v.labels.there;
    back = kept S.size m.place m.label v.labels.inverse_below v.labels.back;
  };
}

module _ (mode : Mode) (P P' : Rep) (v : List ℕ) (whole : IsShaped (followed_by P v)) (e : AreEquivalent mode P P') where
  same_factors : P'.factors ≡ P.factors
  same_factors = ap (λ s. s.factors) e.takes.same_shape

  same_rank : P'.rank ≡ P.rank
  same_rank = ap (λ s. s.rank) e.takes.same_shape

  same_size : size P' ≡ size P
  same_size = ap (λ s. s.size) e.takes.same_shape

  -- the codes of the new last column
  new_column : Matrix
  new_column f i = moved (shape (followed_by P v)) (matrix (followed_by P v)) (extended (size P) e.move) f i (size P)

  last : List ℕ
  last = column_with P'.rank (count P') new_column

  whole_shape : shape (followed_by P' last) ≡ shape (followed_by P v)
  whole_shape = λ i. record { factors = same_factors i; rank = same_rank i; size = (size_followed P' last ∙ ap suc same_size ∙ sym (size_followed P v)) i }

  codes_before : (f i j : ℕ) → f < count P → i < P.rank → j < size P →
      matrix (followed_by P' last) f i j ≡ moved (shape (followed_by P v)) (matrix (followed_by P v)) (extended (size P) e.move) f i j
  unfolding extended
  codes_before f i j l m n =
      matrix_before P' last f i j (subst (λ s. j < s) (sym same_size) n)
      ∙ e.takes.codes f i j l m n
      ∙ (λ t. times (order P f) (sym (at_last-before (size P) 1 (e.move.scalar f) j n) t) (inner t))
    where
      inner : combination (order P f) P.rank (e.move.rows f) (λ k. raised (order P f) (e.move.power f) (matrix P f k (e.move.label j))) i
          ≡ combination (order P f) P.rank (e.move.rows f)
          (λ k. raised (order P f) (e.move.power f) (matrix (followed_by P v) f k (at_last (size P) (size P) e.move.label j))) i
      inner =
          combination-same (order P f) (field_laws (order P f) (e.shaped.orders f l)) P.rank (e.move.rows f)
          (λ k. raised (order P f) (e.move.power f) (matrix P f k (e.move.label j)))
          (λ k. raised (order P f) (e.move.power f) (matrix (followed_by P v) f k (at_last (size P) (size P) e.move.label j))) i
          (λ k k'. ap (raised (order P f) (e.move.power f))
          (sym (ap (matrix (followed_by P v) f k) (at_last-before (size P) (size P) e.move.label j n)
          ∙ matrix_before P v f k (e.move.label j) (e.valid.labels.below j n))))

  -- the same count of factors, and the code of the new column is one
  here : (f : ℕ) → f < count P' → f < count P
  here f l = subst (λ fs. f < length fs) same_factors l

  new_code : (f i : ℕ) → f < count P' → i < P'.rank → new_column f i < order P' f
  unfolding new_column
  new_code f i l m =
      let F : IsField (order P f) = field_laws (order P f) (e.shaped.orders f (here f l)) in
      subst (λ fs. new_column f i < slice_index fs f) (sym same_factors) (F.times_below _ _)

  equivalent_whole : AreEquivalent mode (followed_by P v) (followed_by P' last)
  unfolding last new_column
  equivalent_whole = record {
    shaped = whole;
    move = extended (size P) e.move;
    valid = subst (λ S. IsMove mode S (extended (size P) e.move))
        (λ i. record { factors = P.factors; rank = P.rank; size = sym (size_followed P v) i })
        (extended_move mode (shape P) e.shaped.orders e.move e.valid);
    takes = record {
      same_shape = whole_shape;
      shaped = shaped_pushed P' last e.takes.shaped (column_with_codes P'.factors P'.rank new_column new_code);
      codes = λ f i j l m n. elim (cases_lt j (size P)) [
        | inl b ↦ codes_before f i j l m b
        | inr g ↦ codes_last f i j l m n g
      ];
    };
  }
    where
      codes_last : (f i j : ℕ) → f < count P → i < P.rank → j < size (followed_by P v) → size P ≤ j →
          matrix (followed_by P' last) f i j ≡ moved (shape (followed_by P v)) (matrix (followed_by P v)) (extended (size P) e.move) f i j
      codes_last f i j l m n g =
          let k : size (followed_by P v) ≡ suc (size P) = size_followed P v in
          let o : j ≡ size P = omega arith in
          ap (matrix (followed_by P' last) f i) (o ∙ sym same_size)
          ∙ matrix_last P' last f i ∙ column_with-at P'.rank (count P') new_column f i (subst (λ r. i < r) (sym same_rank) m)
          (subst (λ fs. f < length fs) (sym same_factors) l)
          ∙ ap (moved (shape (followed_by P v)) (matrix (followed_by P v)) (extended (size P) e.move) f i) (sym o)

-- where the last column of a form is left out, and there are still rank many columns, a form is left
pub prefix_form : (mode : Mode) (P : Rep) (v : List ℕ) → P.rank ≤ size P → IsForm mode (followed_by P v) → IsForm mode P
prefix_form mode P v room h = record {
  representation = record {
    some = form.some;
    shaped = shaped_before P v whole;
    agrees = rest_agrees P v whole form.some (λ j. nat_lt j P.rank) (units_basis P (shaped_before P v whole) standard 0 form.some) form.agrees;
  };
  standard = standard;
  least = λ P' s e g. h.least (followed_by P' (last mode P P' v whole e)) (standard_followed P' (last mode P P' v whole e) s)
      (equivalent_whole mode P P' v whole e)
      (slice_cmp-append (slice_cmp nat_cmp) P.columns (v ∷ []) P'.columns (last mode P P' v whole e ∷ []) (sym (same_size mode P P' v whole e))
      ∙ ap (λ (o : Ordering). ordering_then o (slice_cmp (slice_cmp nat_cmp) (v ∷ []) (last mode P P' v whole e ∷ []))) g);
}
  where
    form : IsRepresentation (followed_by P v)
    form = h.representation

    whole : IsShaped (followed_by P v)
    whole = form.shaped

    standard : IsStandard P
    standard = standard_before P v room h.standard
