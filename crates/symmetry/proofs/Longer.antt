-- A move that takes a representation to itself, with one more column.
use Rattle.std.proofs.Common.{◌≡◌, ◌≢◌, ℕ, suc, ◌+◌, ◌*◌, ◌<◌, sym, ◌∙◌, ap, subst, arith, List, inl, inr, slice_index}
use Rattle.std.proofs.lemmas.Bool.{cases_lt}
use Rattle.matroid_theory.specs.Field.{times, raised}
use Rattle.matroid_theory.specs.Matrix.{combination}
use Rattle.matroid_theory.specs.Rep.{Rep, shape, count, size, order, matrix, IsShaped, IsProductColumn}
use Rattle.matroid_theory.specs.declared.Mode.{Mode}
use Rattle.matroid_theory.specs.Move.{Move, IsMove, TakesTo, moved, AreEquivalent}
use Rattle.matroid_theory.specs.Level.{followed_by}
use Rattle.matrix_lemmas.proofs.FieldLaws.{field_laws}
use Rattle.matrix_lemmas.proofs.Sums.{combination-same}
use Rattle.matroid_laws.proofs.Followed.{matrix_before, matrix_last, size_followed, shaped_pushed}
use Rattle.matroid_laws.proofs.Prefix.{at_last, at_last-before, at_last-own, kept, kept_below}

-- the columns v and u follow P, and u is v raised, multiplied by the move's matrix and scaled
module _ (mode : Mode) (P : Rep) (m : Move) (shaped : IsShaped P) (valid : IsMove mode (shape P) m) (takes : TakesTo P m P)
    (v u : List ℕ) (is_column : IsProductColumn P.factors P.rank v) (is_image : IsProductColumn P.factors P.rank u)
    (s : ℕ → ℕ) (s_code : (f : ℕ) → f < count P → s f < order P f) (s_nonzero : (f : ℕ) → f < count P → s f ≢ 0)
    (codes : (f i : ℕ) → f < count P → i < P.rank →
    slice_index u (i * count P + f) ≡ times (order P f) (s f)
    (combination (order P f) P.rank (m.rows f) (λ k. raised (order P f) (m.power f) (slice_index v (k * count P + f))) i)) where
  -- the move with one more column, which keeps its place
  longer : Move
  longer = record m { scalar = λ f. at_last (size P) (s f) (m.scalar f); label = at_last (size P) (size P) m.label; place = at_last (size P) (size P) m.place }

  longer_move : IsMove mode (shape (followed_by P v)) longer
  unfolding longer
  longer_move = subst (λ n. IsMove mode (record { factors = P.factors; rank = P.rank; size = n }) longer) (sym (size_followed P v)) record {
    powers = valid.powers;
    allowed = valid.allowed;
    codes = valid.codes;
    back_codes = valid.back_codes;
    inverse = valid.inverse;
    scalars = λ f j l o. elim (cases_lt j (size P)) [
      | inl b ↦ subst (λ (x : ℕ). x < order P f) (sym (at_last-before (size P) (s f) (m.scalar f) j b)) (valid.scalars f j l b)
      | inr g ↦ (let e : j ≡ size P = omega arith in
          subst (λ (x : ℕ). x < order P f) (sym (ap (at_last (size P) (s f) (m.scalar f)) e ∙ at_last-own (size P) (s f) (m.scalar f))) (s_code f l))
    ];
    nonzero = λ f j l o z. elim (cases_lt j (size P)) [
      | inl b ↦ valid.nonzero f j l b (sym (at_last-before (size P) (s f) (m.scalar f) j b) ∙ z)
      | inr g ↦ (let e : j ≡ size P = omega arith in
          s_nonzero f l (sym (ap (at_last (size P) (s f) (m.scalar f)) e ∙ at_last-own (size P) (s f) (m.scalar f)) ∙ z))
    ];
    labels = record {
      below = kept_below (size P) m.label valid.labels.below;
      inverse_below = kept_below (size P) m.place valid.labels.inverse_below;
      there = kept (size P) m.label m.place valid.labels.below valid.labels.there;
      back = kept (size P) m.place m.label valid.labels.inverse_below valid.labels.back;
    };
  }

  -- a code of column j after the longer move
  after : ℕ → ℕ → ℕ → ℕ
  after = moved (shape (followed_by P v)) (matrix (followed_by P v)) longer

  codes_before : (f i j : ℕ) → f < count P → i < P.rank → j < size P → matrix (followed_by P u) f i j ≡ after f i j
  unfolding after longer
  codes_before f i j l o b =
      matrix_before P u f i j b
      ∙ takes.codes f i j l o b
      ∙ (λ t. times (order P f) (sym (at_last-before (size P) (s f) (m.scalar f) j b) t) (inner t))
    where
      inner : combination (order P f) P.rank (m.rows f) (λ k. raised (order P f) (m.power f) (matrix P f k (m.label j))) i
          ≡ combination (order P f) P.rank (m.rows f)
          (λ k. raised (order P f) (m.power f) (matrix (followed_by P v) f k (at_last (size P) (size P) m.label j))) i
      inner =
          combination-same (order P f) (field_laws (order P f) (shaped.orders f l)) P.rank (m.rows f)
          (λ k. raised (order P f) (m.power f) (matrix P f k (m.label j)))
          (λ k. raised (order P f) (m.power f) (matrix (followed_by P v) f k (at_last (size P) (size P) m.label j))) i
          (λ k k'. ap (raised (order P f) (m.power f))
          (sym (ap (matrix (followed_by P v) f k) (at_last-before (size P) (size P) m.label j b)
          ∙ matrix_before P v f k (m.label j) (valid.labels.below j b))))

  code_last : (f i : ℕ) → f < count P → i < P.rank → matrix (followed_by P u) f i (size P) ≡ after f i (size P)
  unfolding after longer
  code_last f i l o =
      matrix_last P u f i
      ∙ codes f i l o
      ∙ (λ t. times (order P f) (sym (at_last-own (size P) (s f) (m.scalar f)) t) (inner t))
    where
      inner : combination (order P f) P.rank (m.rows f) (λ k. raised (order P f) (m.power f) (slice_index v (k * count P + f))) i
          ≡ combination (order P f) P.rank (m.rows f)
          (λ k. raised (order P f) (m.power f) (matrix (followed_by P v) f k (at_last (size P) (size P) m.label (size P)))) i
      inner =
          combination-same (order P f) (field_laws (order P f) (shaped.orders f l)) P.rank (m.rows f)
          (λ k. raised (order P f) (m.power f) (slice_index v (k * count P + f)))
          (λ k. raised (order P f) (m.power f) (matrix (followed_by P v) f k (at_last (size P) (size P) m.label (size P)))) i
          (λ k k'. ap (raised (order P f) (m.power f)) (sym (ap (matrix (followed_by P v) f k) (at_last-own (size P) (size P) m.label) ∙ matrix_last P v f k)))

  codes_all : (f i j : ℕ) → f < count P → i < P.rank → j < size (followed_by P v) → matrix (followed_by P u) f i j ≡ after f i j
  codes_all f i j l o b = elim (cases_lt j (size P)) [
    | inl d ↦ codes_before f i j l o d
    | inr g ↦ (let n : size (followed_by P v) ≡ suc (size P) = size_followed P v in let e : j ≡ size P = omega arith in
        ap (matrix (followed_by P u) f i) e ∙ code_last f i l o ∙ ap (after f i) (sym e))
  ]

  -- so P followed by the one is equivalent to P followed by the other
  pub equivalent_images : AreEquivalent mode (followed_by P v) (followed_by P u)
  unfolding after
  equivalent_images = record {
    shaped = shaped_pushed P v shaped is_column;
    move = longer;
    valid = longer_move;
    takes = record {
      same_shape = λ i. record { factors = P.factors; rank = P.rank; size = (size_followed P u ∙ sym (size_followed P v)) i };
      shaped = shaped_pushed P u shaped is_image;
      codes = codes_all;
    };
  }
