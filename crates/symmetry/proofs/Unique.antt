-- The image of a column under a move is determined, so what holds of the computed image of a column holds of its image.
use Rattle.std.proofs.Common.{◌≡◌, ◌≢◌, ℕ, ◌+◌, ◌<◌, ◌≤◌, arith, List, length, inl, inr, sym, ◌∙◌, ap, subst, slice_index}
use Rattle.std.specs.Cmp.Lexicographic.{slice_cmp}
use Rattle.std.specs.Ordering.{nat_cmp}
use Rattle.std.specs.declared.cmp.Ordering.TheVariants.{Less}
use Rattle.std.proofs.lemmas.Bool.{cases_lt}
use Rattle.std.proofs.lemmas.Option.{get_or_from_slice_get, slice_get_within}
use Rattle.matroid_theory.specs.Field.{IsField, times}
use Rattle.matroid_theory.specs.Rep.{Shape, count, order, IsShaped}
use Rattle.matroid_theory.specs.Move.{MoveTable}
use Rattle.matrix_lemmas.proofs.FieldLaws.{field_laws}
use Rattle.matrix_lemmas.proofs.Frobenius.{times_nonzero}
use Rattle.matrix_lemmas.proofs.Sums.{sum_below-code, times_zero}
use Rattle.matroid_laws.proofs.First.{same_column}
use Rattle.matroid_laws.proofs.Normalised.{lead_or_zero}
use Rattle.symmetry.specs.Images.{mapped, IsImageBy}
use Rattle.symmetry.specs.Symmetric.{MovesOf, IsSymmetry, AreSymmetries, IsImageUnder, HasLowerImage}

-- the first product that isn't 0 is 1
abbrev HasLeadOne : ℕ → ℕ → ℕ → (ℕ → ℕ) → Type 0
HasLeadOne q r a g = (i : ℕ) → i < r → ((k : ℕ) → k < i → times q a (g k) ≡ 0) → times q a (g i) ≢ 0 → times q a (g i) ≡ 1

-- scaled multiples of the same codes are the same
module _ (q : ℕ) (F : IsField q) (r : ℕ) (g : ℕ → ℕ) (codes : (k : ℕ) → k < r → g k < q) (a b : ℕ) (a_code : a < q) (b_code : b < q)
    (a_nonzero : a ≢ 0) (b_nonzero : b ≢ 0) (a_scaled : HasLeadOne q r a g) (b_scaled : HasLeadOne q r b g) where
  one_at : (s j : ℕ) → s < q → s ≢ 0 → HasLeadOne q r s g → j < r → g j ≢ 0 → ((k : ℕ) → k < j → g k ≡ 0) → times q s (g j) ≡ 1
  one_at s j l n scaled b nonzero zeros =
      scaled j b (λ k c. ap (times q s) (zeros k c) ∙ times_zero q F s) (times_nonzero q F s (g j) l (codes j b) n nonzero)

  -- two codes that both have the product 1 with a third one
  same_scalar : (x : ℕ) → times q a x ≡ 1 → times q b x ≡ 1 → a ≡ b
  same_scalar x e d =
      sym (F.times_one a a_code) ∙ ap (λ y. times q y a) (sym d) ∙ F.times_assoc b x a ∙ ap (times q b) (F.times_comm x a ∙ e)
      ∙ F.times_comm b 1 ∙ F.times_one b b_code

  same_multiples : (i : ℕ) → i < r → times q a (g i) ≡ times q b (g i)
  same_multiples i l =
      elim (lead_or_zero r g) [
        | inl w ↦ ap (λ s. times q s (g i)) (same_scalar (g w.at)
            (one_at a w.at a_code a_nonzero a_scaled w.below w.nonzero w.before)
            (one_at b w.at b_code b_nonzero b_scaled w.below w.nonzero w.before))
        | inr z ↦ ap (times q a) (z i l) ∙ times_zero q F a ∙ sym (times_zero q F b) ∙ sym (ap (times q b) (z i l))
      ]

module _ (t : MoveTable) (fields : (f : ℕ) → f < length t.shape.factors → IsField (slice_index t.shape.factors f)) (some : 0 < length t.shape.factors)
    (v : List ℕ) where
  scaled_by : (u : List ℕ) (h : IsImageBy t v u) (f : ℕ) → f < length t.shape.factors →
      HasLeadOne (slice_index t.shape.factors f) t.shape.rank (h.scalar f) (mapped t v f)
  scaled_by u h f l i m z n =
      sym (h.codes f i l m) ∙ h.scaled f i l m (λ k b. h.codes f k l (omega arith) ∙ z k b) (λ e. n (sym (h.codes f i l m) ∙ e))

  one_image_by : (u w : List ℕ) → IsImageBy t v u → IsImageBy t v w → u ≡ w
  one_image_by u w a b =
      same_column t.shape.rank (length t.shape.factors) u w a.column.rows b.column.rows some
      (λ f i l m. a.codes f i l m
      ∙ same_multiples (slice_index t.shape.factors f) (fields f l) t.shape.rank (mapped t v f)
      (λ k _. sum_below-code (slice_index t.shape.factors f) (fields f l) t.shape.rank _)
      (a.scalar f) (b.scalar f) (a.scalar_code f l) (b.scalar_code f l) (a.scalar_nonzero f l) (b.scalar_nonzero f l)
      (scaled_by u a f l) (scaled_by w b f l) i m
      ∙ sym (b.codes f i l m))

-- none of the images of v under the moves before a place is below v
abbrev pub AreNotLower : MovesOf → List ℕ → ℕ → Type 0
AreNotLower s v i = (k : ℕ) (w : List ℕ) → k < i → IsImageUnder s k v w → ¬ (slice_cmp nat_cmp w v ≡ Less)

module _ (s : MovesOf) (shaped : IsShaped s.parent) (some : 0 < count s.parent) (all : AreSymmetries s) (v : List ℕ) where
  -- there is one image under a move
  pub one_image : (i : ℕ) (u w : List ℕ) → IsImageUnder s i v u → IsImageUnder s i v w → u ≡ w
  one_image i u w a b =
      let t : MoveTable = a.0 in
      let here : t ≡ b.0 = sym (get_or_from_slice_get s.moves i t t a.1) ∙ get_or_from_slice_get s.moves i b.0 t b.1 in
      let h : IsSymmetry s.mode s.parent t = subst (IsSymmetry s.mode s.parent) (get_or_from_slice_get s.moves i t t a.1)
      (all i t (slice_get_within s.moves i t a.1)) in
      one_image_by t
      (subst (λ (S : Shape). (f : ℕ) → f < length S.factors → IsField (slice_index S.factors f)) (sym h.same_shape)
      (λ f l. field_laws (order s.parent f) (shaped.orders f l)))
      (subst (λ (S : Shape). 0 < length S.factors) (sym h.same_shape) some) v u w a.2
      (subst (λ (t : MoveTable). IsImageBy t v w) (sym here) b.2)

  pub not_lower_more : (i : ℕ) (u : List ℕ) → AreNotLower s v i → IsImageUnder s i v u → ¬ (slice_cmp nat_cmp u v ≡ Less) → AreNotLower s v (i + 1)
  not_lower_more i u h image n k w l under less = elim (cases_lt k i) [
    | inl b ↦ h k w b under less
    | inr g ↦ (let e : k ≡ i = omega arith in
        n (subst (λ (x : List ℕ). slice_cmp nat_cmp x v ≡ Less) (one_image i w u (subst (λ (k : ℕ). IsImageUnder s k v w) e under) image) less))
  ]

  pub none_lower : (i : ℕ) → length s.moves ≤ i → AreNotLower s v i → ¬ (HasLowerImage s v)
  none_lower i l h (u, lower) =
      let b : lower.index < length s.moves = slice_get_within s.moves lower.index lower.by.0 lower.by.1 in
      h lower.index u (omega arith) lower.by lower.below
