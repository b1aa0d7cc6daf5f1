-- A column that is scaled to begin with 1 in each factor.
use Rattle.std.proofs.Common.{◌≡◌, ◌≢◌, ℕ, ◌+◌, ◌*◌, ◌<◌, sym, ◌∙◌, ap, subst, arith, List, [], ◌∷◌, ◌++◌, length, length-append, inl, inr}
use Rattle.std.specs.List.{slice_index}
use Rattle.std.proofs.lemmas.Bool.{cases_lt, cases_eq}
use Rattle.matroid_theory.specs.Field.{times, IsOrder, IsField}
use Rattle.matroid_theory.specs.Rep.{Rep, count, order, IsProductColumn}
use Rattle.matrix_lemmas.proofs.FieldLaws.{field_laws}
use Rattle.matrix_lemmas.proofs.Frobenius.{times_nonzero}
use Rattle.matrix_lemmas.proofs.Sums.{times_zero}
use Rattle.canonical_form.specs.Search.{IsScaled}
use Rattle.canonical_form.proofs.Places.{one_more_item}

-- the codes of factor f before row i are 0
abbrev pub AreZerosBefore : Rep → List ℕ → ℕ → ℕ → Type 0
AreZerosBefore M v f i = (k : ℕ) → k < i → slice_index v (k * count M + f) ≡ 0

-- s makes 1 of the first code of factor f that isn't 0
abbrev pub Leads : Rep → List ℕ → ℕ → ℕ → Type 0
Leads M v f s = (i : ℕ) → i < M.rank → AreZerosBefore M v f i → slice_index v (i * count M + f) ≢ 0 → times (order M f) s (slice_index v (i * count M + f)) ≡ 1

-- the first code that isn't 0 stands at one row
pub leads_by_first : (M : Rep) (v : List ℕ) (f j q s x : ℕ) → IsOrder (order M f) → q ≡ order M f →
    x ≡ slice_index v (j * count M + f) → x ≢ 0 → AreZerosBefore M v f j → times q x s ≡ 1 → Leads M v f s
leads_by_first M v f j q s x o e d n z t i l z' n' =
    elim (cases_lt i j) [
      | inl b ↦ absurd (n' (z i b))
      | inr g ↦ elim (cases_lt j i) [
        | inl b ↦ absurd (n (d ∙ z' j b))
        | inr g' ↦ (let k : i ≡ j = omega arith in let F : IsField (order M f) = field_laws (order M f) o in
            F.times_comm s (slice_index v (i * count M + f))
            ∙ ap (λ (y : ℕ). times (order M f) y s) (ap (λ (r : ℕ). slice_index v (r * count M + f)) k ∙ sym d)
            ∙ ap (λ (p : ℕ). times p x s) (sym e)
            ∙ t)
      ]
    ]

-- what the products of the scalars with the codes are made of
pub record AreProducts (M : Rep) (scalars c products : List ℕ) : Type 0 where
  pub column : IsProductColumn M.factors M.rank products
  pub entries : (i f : ℕ) → i < M.rank → f < count M →
      slice_index products (i * count M + f) ≡ times (order M f) (slice_index scalars (i * count M + f)) (slice_index c (i * count M + f))

-- a scale for each factor that makes its first code 1
pub record AreScales (M : Rep) (n : ℕ) (v scales : List ℕ) : Type 0 where
  pub numbers : length scales ≡ n
  pub codes : (f : ℕ) → f < n → slice_index scales f < order M f
  pub nonzero : (f : ℕ) → f < n → slice_index scales f ≢ 0
  pub leads : (f : ℕ) → f < n → Leads M v f (slice_index scales f)

-- the products, scaled
pub scaled_is : (M : Rep) (scalars c products scales v : List ℕ) → ((f : ℕ) → f < count M → IsOrder (order M f)) →
    AreProducts M scalars c products → AreScales M (count M) products scales → length v ≡ M.rank * count M
    → ((i f : ℕ) → i < M.rank → f < count M →
    slice_index v (i * count M + f) ≡ times (order M f) (slice_index scales f) (slice_index products (i * count M + f))) →
    IsScaled M scalars c v
scaled_is M scalars c products scales v o p s l e = record {
  column = record {
    rows = l;
    codes = λ i f m k. (let F : IsField (order M f) = field_laws (order M f) (o f k) in subst (λ (x : ℕ). x < order M f) (sym (e i f m k)) (F.times_below _ _));
  };
  scale = slice_index scales;
  scale_code = s.codes;
  scale_nonzero = s.nonzero;
  entries = λ i f m k. e i f m k ∙ ap (times (order M f) (slice_index scales f)) (p.entries i f m k);
  leads = λ i f m k z n.
      e i f m k
      ∙ s.leads f k i m
      (λ j b. (let m' : j < M.rank = omega arith in elim (cases_eq (slice_index products (j * count M + f)) 0) [
        | inl y ↦ y
        | inr y ↦ absurd (times_nonzero (order M f) (field_laws (order M f) (o f k)) (slice_index scales f)
            (slice_index products (j * count M + f)) (s.codes f k) (p.column.codes j f m' k) (s.nonzero f k) y (sym (e j f m' k) ∙ z j b))
      ]))
      (λ y. n (e i f m k ∙ ap (times (order M f) (slice_index scales f)) y ∙ times_zero (order M f) (field_laws (order M f) (o f k)) (slice_index scales f)));
}

-- a scale of one more factor
pub more_scales : (M : Rep) (n s : ℕ) (v xs ys : List ℕ) → AreScales M n v xs → ys ≡ xs ++ s ∷ [] → s < order M n → s ≢ 0 →
    Leads M v n s → AreScales M (n + 1) v ys
more_scales M n s v xs ys h e c z l = record {
  numbers = ap (λ (w : List ℕ). length w) e ∙ length-append xs (s ∷ []) ∙ ap (λ (m : ℕ). m + 1) h.numbers;
  codes = one_more_item (λ f x. x < order M f) xs ys s 0 n h.numbers e h.codes c;
  nonzero = one_more_item (λ f x. x ≢ 0) xs ys s 0 n h.numbers e h.nonzero z;
  leads = one_more_item (λ f x. Leads M v f x) xs ys s 0 n h.numbers e h.leads l;
}
