-- The image of a column under a move that takes a representation to itself.
use Rattle.std.proofs.Common.{◌≡◌, ℕ, ◌<◌, List, length, sym, ◌∙◌, ap, subst, slice_index, arith, inl, inr}
use Rattle.std.proofs.lemmas.Bool.{cases_eq}
use Rattle.matroid_theory.specs.declared.Mode.{Mode}
use Rattle.matroid_theory.specs.declared.Mode.TheVariants.{Semilinear}
use Rattle.matroid_theory.specs.Field.{IsField, times}
use Rattle.matroid_theory.specs.Rep.{Rep, Shape, shape, count, order, IsShaped, IsProductColumn}
use Rattle.matroid_theory.specs.Move.{Move, MoveTable, IsMove, TakesTo, AreEquivalent, move_of}
use Rattle.matroid_theory.specs.Level.{followed_by}
use Rattle.matrix_lemmas.proofs.Frobenius.{times_nonzero}
use Rattle.matrix_lemmas.proofs.Sums.{times_zero}
use Rattle.symmetry.specs.Images.{code_at, mapped, AreLeadScalars, HasLeadOnes, IsImageBy}
use Rattle.symmetry.specs.Symmetric.{IsSymmetry}
use Rattle.symmetry.proofs.Longer.{equivalent_images}

-- a move of any mode is semilinear
pub semilinear : (mode : Mode) (S : Shape) (m : Move) → IsMove mode S m → IsMove Semilinear S m
semilinear mode S m v = record {
  powers = v.powers;
  allowed = λ f l. tt;
  codes = v.codes;
  back_codes = v.back_codes;
  inverse = v.inverse;
  scalars = v.scalars;
  nonzero = v.nonzero;
  labels = v.labels;
}

-- a column of the move's shape is one of the representation's
pub column_of_shape : (P : Rep) (t : MoveTable) (v : List ℕ) → t.shape ≡ shape P → IsProductColumn t.shape.factors t.shape.rank v →
    IsProductColumn P.factors P.rank v
column_of_shape P t v e h = subst (λ (S : Shape). IsProductColumn S.factors S.rank v) e h

pub column_of_rep : (P : Rep) (t : MoveTable) (v : List ℕ) → t.shape ≡ shape P → IsProductColumn P.factors P.rank v →
    IsProductColumn t.shape.factors t.shape.rank v
column_of_rep P t v e h = subst (λ (S : Shape). IsProductColumn S.factors S.rank v) (sym e) h

module _ (P : Rep) (t : MoveTable) (e : t.shape ≡ shape P) (shaped : IsShaped P) (v w u scalars : List ℕ)
    (is_column : IsProductColumn P.factors P.rank v) (is_image : IsProductColumn P.factors P.rank u)
    (maps : (f i : ℕ) → f < length t.shape.factors → i < t.shape.rank → code_at t.shape.factors w f i ≡ mapped t v f i)
    (leads : AreLeadScalars P.factors P.rank w scalars)
    (codes : (f i : ℕ) → f < count P → i < P.rank → code_at P.factors u f i ≡ times (order P f) (slice_index scalars f) (code_at P.factors w f i)) where
  -- the code of the column that was multiplied, by the shape of P
  maps_here : (f i : ℕ) → f < count P → i < P.rank → code_at P.factors w f i ≡ mapped (record t { shape = shape P }) v f i
  maps_here = subst (λ (S : Shape). (f i : ℕ) → f < length S.factors → i < S.rank → code_at S.factors w f i ≡ mapped (record t { shape = S }) v f i) e maps

  pub image_equivalent : (mode : Mode) → IsSymmetry mode P t → AreEquivalent mode (followed_by P v) (followed_by P u)
  image_equivalent mode h =
      equivalent_images mode P (move_of (record t { shape = shape P })) shaped (at_shape mode h).0
      (at_shape mode h).1 v u is_column is_image (slice_index scalars)
      (λ f l. let s = leads.each f l in s.code) (λ f l. let s = leads.each f l in s.nonzero)
      (λ f i l m. codes f i l m ∙ ap (times (order P f) (slice_index scalars f)) (maps_here f i l m))
    where
      at_shape : (mode : Mode) → IsSymmetry mode P t → IsMove mode (shape P) (move_of (record t { shape = shape P }))
          × TakesTo P (move_of (record t { shape = shape P })) P
      at_shape mode h = subst (λ (S : Shape). IsMove mode (shape P) (move_of (record t { shape = S }))
          × TakesTo P (move_of (record t { shape = S })) P) e (h.valid, h.takes)

  pub image_ones : ((f : ℕ) → f < count P → IsField (order P f)) → IsProductColumn P.factors P.rank w → HasLeadOnes P.factors P.rank u
  image_ones fields is_mapped f i l m z n =
      let s = leads.each f l in
      codes f i l m ∙ s.one i m zero_before
      (λ o. n (codes f i l m ∙ ap (times (order P f) (slice_index scalars f)) o
      ∙ times_zero (order P f) (fields f l) (slice_index scalars f)))
    where
      zero_before : (k : ℕ) → k < i → code_at P.factors w f k ≡ 0
      zero_before k b =
          let s = leads.each f l in
          let o : k < P.rank = omega arith in
          elim (cases_eq (code_at P.factors w f k) 0) [
            | inl e ↦ e
            | inr ne ↦ absurd (times_nonzero (order P f) (fields f l) (slice_index scalars f) (code_at P.factors w f k) s.code
                (is_mapped.codes k f o l) s.nonzero ne (sym (codes f k l o) ∙ z k b))
          ]

  pub image_by : ((f : ℕ) → f < count P → IsField (order P f)) → IsProductColumn P.factors P.rank w → IsImageBy t v u
  image_by fields is_mapped = subst (λ (S : Shape). IsImageBy (record t { shape = S }) v u) (sym e) record {
    column = is_image;
    scaled = image_ones fields is_mapped;
    scalar = slice_index scalars;
    scalar_code = λ f l. let s = leads.each f l in s.code;
    scalar_nonzero = λ f l. let s = leads.each f l in s.nonzero;
    codes = λ f i l m. codes f i l m ∙ ap (times (order P f) (slice_index scalars f)) (maps_here f i l m);
  }
