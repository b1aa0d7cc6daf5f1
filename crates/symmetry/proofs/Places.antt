-- Lists of codes, row by row and factor by factor.
use Rattle.std.proofs.Common.{◌≡◌, ◌≢◌, ℕ, ◌+◌, ◌*◌, ◌/◌, ◌%◌, ◌<◌, ◌≤◌, List, [], ◌∷◌, ◌++◌, length, inl, inr, sym, ◌∙◌, ap, subst, arith, slice_index, add-one}
use Rattle.std.proofs.lemmas.Bool.{cases_lt}
use Rattle.std.proofs.lemmas.Nat.{div-mul-add, mod-mul-add}
use Rattle.std.proofs.Math.Nat.{mod-lt}
use Rattle.std.proofs.Math.Seq.{get_or-append_seam}
use Rattle.std.proofs.Math.ListN.{get_or-append}
use Rattle.matroid_theory.specs.Field.{IsField, plus, times}
use Rattle.matroid_theory.specs.Matrix.{sum_below}
use Rattle.matroid_theory.specs.Rep.{IsProductColumn}
use Rattle.matroid_laws.proofs.First.{row_below, whole}
use Rattle.matrix_lemmas.proofs.Sums.{times_zero}
use Rattle.product_rep.proofs.PiecesLemmas.{place_below}
use Rattle.symmetry.specs.Images.{code_at}

-- what holds of each place of a list and of one more entry
pub pushed : (P : ℕ → ℕ → Type 0) (xs ys : List ℕ) (x n : ℕ) → length xs ≡ n → ys ≡ xs ++ x ∷ [] →
    ((k : ℕ) → k < n → P k (slice_index xs k)) → P n x → (k : ℕ) → k < n + 1 → P k (slice_index ys k)
pushed P xs ys x n l e h p k b =
    subst (λ (zs : List ℕ). P k (slice_index zs k)) (sym e)
    (elim (cases_lt k n) [
      | inl d ↦ subst (P k) (sym (get_or-append xs (x ∷ []) 0 k (omega arith))) (h k d)
      | inr d ↦ (let s : length xs ≡ k = omega arith in let u : n ≡ k = omega arith in
          subst (λ (k : ℕ). P k (slice_index (xs ++ x ∷ []) k)) s
          (subst (P (length xs)) (sym (get_or-append_seam xs x [] 0)) (subst (λ (n : ℕ). P n x) (sym l) p)))
    ])

-- one more term of a sum
pub sum_more : (q k : ℕ) (g : ℕ → ℕ) (sum term more : ℕ) → sum ≡ sum_below q k g → term ≡ g k → more ≡ plus q sum term → more ≡ sum_below q (k + 1) g
sum_more q k g sum term more s t m = m ∙ (λ i. plus q (s i) (t i)) ∙ sym (ap (λ n. sum_below q n g) (add-one k))

-- what has the product 1 isn't 0
pub not_zero : (q : ℕ) → IsField q → (a x : ℕ) → times q a x ≡ 1 → x ≢ 0
not_zero q F a x one z = never (times q a 0) (times q a x) (times_zero q F a) one (ap (times q a) (sym z))
  where
    never : (a b : ℕ) → a ≡ 0 → b ≡ 1 → a ≡ b → ⊥
    never a b z o e = omega arith

-- the code at a place of a column is below the order of the place's factor
pub code_below : (factors : List ℕ) (rank c p : ℕ) (v : List ℕ) → IsProductColumn factors rank v → c ≡ length factors →
    p < rank * c → 0 < c → slice_index v p < slice_index factors (p % c)
code_below factors rank c p v h e l pos =
    subst (λ (p' : ℕ). slice_index v p' < slice_index factors (p % c)) (whole p c pos)
    (subst (λ (n : ℕ). slice_index v (p / c * n + p % c) < slice_index factors (p % c)) (sym e)
    (h.codes (p / c) (p % c) (row_below p c rank pos (omega arith)) (subst (λ (n : ℕ). p % c < n) e (mod-lt p pos))))

-- the codes of a list by row and factor
pub made-at : (factors : List ℕ) (rank c n : ℕ) (xs : List ℕ) (g : ℕ → ℕ → ℕ) → c ≡ length factors → rank * c ≤ n →
    ((k : ℕ) → k < n → slice_index xs k ≡ g (k % c) (k / c)) → (f i : ℕ) → f < length factors → i < rank → code_at factors xs f i ≡ g f i
made-at factors rank c n xs g e l h f i m o =
    let m' : f < c = subst (λ (n : ℕ). f < n) (sym e) m in
    let b : i * c + f < rank * c = place_below rank c i f o m' in
    ap (λ (n : ℕ). slice_index xs (i * n + f)) (sym e) ∙ h (i * c + f) (omega arith) ∙ (λ u. g (mod-mul-add i c f m' u) (div-mul-add i c f m' u))

-- a place by its row and factor
pub placed : (factors : List ℕ) (c p : ℕ) (v : List ℕ) → c ≡ length factors → 0 < c → slice_index v p ≡ code_at factors v (p % c) (p / c)
placed factors c p v e pos = ap (slice_index v) (sym (whole p c pos)) ∙ ap (λ (n : ℕ). slice_index v (p / c * n + p % c)) e

-- codes below the orders make a column
pub column_of_codes : (factors : List ℕ) (rank : ℕ) (v : List ℕ) → length v ≡ rank * length factors →
    ((f i : ℕ) → f < length factors → i < rank → code_at factors v f i < slice_index factors f) → IsProductColumn factors rank v
column_of_codes factors rank v l h = record { rows = l; codes = λ i f m o. h f i o m }

-- the length of a list that was filled up to its end
pub filled : (factors : List ℕ) (rank c n m : ℕ) → c ≡ length factors → m ≡ n → n ≤ rank * c → rank * c ≤ n → m ≡ rank * length factors
filled factors rank c n m e l a b = (let r : m ≡ rank * c = omega arith in r) ∙ ap (λ (n : ℕ). rank * n) e
