-- Columns of all factors, code by code, and one more of them.
use Rattle.std.proofs.Common.{◌≡◌, ℕ, ◌+◌, ◌-◌, ◌*◌, ◌/◌, ◌%◌, ◌<◌, ◌≤◌, sym, ◌∙◌, ap, subst, arith, cond, true, false, List, length, inl, inr}
use Rattle.std.specs.List.{slice_index}
use Rattle.std.proofs.lemmas.Bool.{cases_lt}
use Rattle.std.proofs.lemmas.Nat.{div-mul-add, mod-mul-add, mul-add-lt}
use Rattle.std.specs.Bool.{nat_lt}
use Rattle.matroid_theory.specs.Field.{negative}
use Rattle.matroid_theory.specs.Matrix.{Matrix, unit}
use Rattle.matroid_theory.specs.Rep.{Rep, size, count, order, matrix, KeepsLimits, IsProductColumn}
use Rattle.matroid_theory.specs.Level.{followed_by}
use Rattle.matrix_lemmas.proofs.Dimension.{unit_code}
use Rattle.matrix_lemmas.proofs.FieldLaws.{field_laws}
use Rattle.matroid_laws.proofs.Followed.{matrix_before, matrix_last}
use Rattle.dual_theory.specs.Dual.{dual_matrix}

-- the codes of a list, row by row and factor by factor
pub code-at : (B : Matrix) (n c r : ℕ) (xs : List ℕ) → r * c ≤ n → ((k : ℕ) → k < n → slice_index xs k ≡ B (k % c) (k / c))
    → (i f : ℕ) → i < r → f < c → slice_index xs (i * c + f) ≡ B f i
code-at B n c r xs e h i f l m =
    let b : i * c + f < c * r = mul-add-lt i c f r l m in
    h (i * c + f) (omega arith) ∙ (λ t. B (mod-mul-add i c f m t) (div-mul-add i c f m t))

-- one more column
pub next_codes : (P : Rep) (v : List ℕ) (B : ℕ → Matrix) (j : ℕ) → size P ≡ j
    → ((f i k : ℕ) → f < count P → i < P.rank → k < j → matrix P f i k ≡ B f i k)
    → ((i f : ℕ) → i < P.rank → f < count P → slice_index v (i * count P + f) ≡ B f i j)
    → (f i k : ℕ) → f < count P → i < P.rank → k < j + 1 → matrix (followed_by P v) f i k ≡ B f i k
next_codes P v B j s u h f i k l m o =
    elim (cases_lt k j) [
      | inl b ↦ matrix_before P v f i k (omega arith) ∙ u f i k l m b
      | inr g ↦ (let e : k ≡ size P = omega arith in
          ap (λ (k : ℕ). matrix (followed_by P v) f i k) e ∙ matrix_last P v f i ∙ h i f m l ∙ ap (λ (k : ℕ). B f i k) (sym s ∙ sym e))
    ]

-- a column of the standard dual may follow
pub dual_column_follows : (M P : Rep) (j : ℕ) (v : List ℕ) → KeepsLimits M → P.factors ≡ M.factors → P.rank ≡ size M - M.rank
    → length v ≡ (size M - M.rank) * count M
    → ((i f : ℕ) → i < size M - M.rank → f < count M → slice_index v (i * count M + f) ≡ dual_matrix M f i j) → IsProductColumn P.factors P.rank v
dual_column_follows M P j v h fe re l c =
    subst (λ (fs : List ℕ). IsProductColumn fs P.rank v) (sym fe) (subst (λ (r : ℕ). IsProductColumn M.factors r v) (sym re) (record {
      rows = l;
      codes = λ i f m o. subst (λ (x : ℕ). x < order M f) (sym (c i f m o)) (code f i o);
    }))
  where
    code : (f i : ℕ) → f < count M → dual_matrix M f i j < order M f
    code f i o =
        let F = field_laws (order M f) (h.fields.fields f o) in
        elim (nat_lt j M.rank) as (λ b. cond b (negative (order M f) (matrix M f j (M.rank + i))) (unit (M.rank + i) j) < order M f) [
          | true ↦ F.negative_below _
          | false ↦ unit_code (order M f) F (M.rank + i) j
        ]
