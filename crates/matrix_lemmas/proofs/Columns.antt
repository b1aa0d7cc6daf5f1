-- A column made from its codes.
use Rattle.std.proofs.Common.{◌≡◌, ℕ, zero, suc, ◌+◌, ◌*◌, ◌/◌, ◌%◌, ◌<◌, refl, sym, ◌∙◌, ap, subst, arith, List, [], ◌∷◌, ◌++◌, length, length-append, slice_index, inl, inr}
use Rattle.std.proofs.lemmas.Bool.{cases_lt}
use Rattle.std.proofs.lemmas.Nat.{div-mul-add, mod-mul-add, mul-add-lt}
use Rattle.std.proofs.Math.Seq.{get_or-append_seam}
use Rattle.std.proofs.Math.ListN.{get_or-append}
use Rattle.matroid_theory.specs.Matrix.{Matrix}
use Rattle.matroid_theory.specs.Rep.{IsProductColumn}

-- the list g 0, .., g (n - 1)
abbrev pub values : ℕ → (ℕ → ℕ) → List ℕ
values zero g = []
values (suc n) g = values n g ++ g n ∷ []

pub length-values : (n : ℕ) (g : ℕ → ℕ) → length (values n g) ≡ n
length-values zero g = refl
length-values (suc n) g = let e : length (values n g) ≡ n = length-values n g in omega (arith, length-append (values n g) (g n ∷ []))

values-at : (n : ℕ) (g : ℕ → ℕ) (i : ℕ) → i < n → slice_index (values n g) i ≡ g i
values-at zero g i l = absurd (omega arith)
values-at (suc n) g i l =
    let e : length (values n g) ≡ n = length-values n g in
    elim (cases_lt i n) [
      | inl b ↦ (let m : i < length (values n g) = omega arith in get_or-append (values n g) (g n ∷ []) 0 i m ∙ values-at n g i b)
      | inr h ↦ (let k : i ≡ length (values n g) = omega arith in let k' : i ≡ n = omega arith in
          ap (slice_index (values n g ++ g n ∷ [])) k ∙ get_or-append_seam (values n g) (g n) [] 0 ∙ sym (ap g k'))
    ]

-- the column with the code w f i at row i in factor f
abbrev pub column_with : ℕ → ℕ → Matrix → List ℕ
column_with rank count w = values (rank * count) (λ e. w (e % count) (e / count))

pub column_with-at : (rank count : ℕ) (w : Matrix) (f i : ℕ) → i < rank → f < count → slice_index (column_with rank count w) (i * count + f) ≡ w f i
column_with-at rank count w f i l m =
    values-at (rank * count) (λ e. w (e % count) (e / count)) (i * count + f)
    (let h : i * count + f < count * rank = mul-add-lt i count f rank l m in omega arith)
    ∙ (λ t. w (mod-mul-add i count f m t) (div-mul-add i count f m t))

-- it is a column of the factors where its codes are below their orders
pub column_with_codes : (factors : List ℕ) (rank : ℕ) (w : Matrix) →
    ((f i : ℕ) → f < length factors → i < rank → w f i < slice_index factors f) →
    IsProductColumn factors rank (column_with rank (length factors) w)
column_with_codes factors rank w c = record {
  rows = length-values (rank * length factors) _;
  codes = λ i f l m. subst (λ (x : ℕ). x < slice_index factors f) (sym (column_with-at rank (length factors) w f i l m)) (c f i m l);
}
