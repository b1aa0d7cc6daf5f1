-- Columns of all factors, whose codes words spell, and one more of them.
use Rattle.std.proofs.Common.{◌≡◌, ℕ, ◌+◌, ◌*◌, ◌/◌, ◌%◌, ◌<◌, ◌≤◌, sym, ◌∙◌, ap, subst, arith, List, [], ◌∷◌, ◌++◌, length, inl, inr}
use Rattle.std.specs.List.{slice_index}
use Rattle.std.proofs.lemmas.Bool.{cases_lt}
use Rattle.std.proofs.lemmas.List.{get_or_append_left}
use Rattle.std.proofs.Math.Nat.{mod-lt, div-lt_iff_lt-mul}
use Rattle.std.proofs.Math.Seq.{get_or-append_seam}
use Rattle.std.proofs.lemmas.Nat.{div-mul-add, mod-mul-add, mul-add-lt}
use Rattle.matroid_theory.specs.Rep.{Rep, count, size, matrix, IsProductColumn}
use Rattle.matroid_theory.specs.Level.{followed_by}
use Rattle.matroid_laws.proofs.Followed.{matrix_before, matrix_last}
use Rattle.ask_run.specs.Layouts.{HasEntry, IsColumnOf}
use Rattle.ask_run.specs.declared.layout.Layout.{Layout}

-- what holds at each place of a list, row by row and factor by factor
at_places : (P : ℕ → ℕ → ℕ → Type 0) (n c r : ℕ) (xs : List ℕ) → r * c ≤ n → ((k : ℕ) → k < n → P (k % c) (k / c) (slice_index xs k))
    → (i f : ℕ) → i < r → f < c → P f i (slice_index xs (i * c + f))
at_places P n c r xs e h i f l m =
    let b : i * c + f < c * r = mul-add-lt i c f r l m in
    subst (λ (x : ℕ). P f x (slice_index xs (i * c + f))) (div-mul-add i c f m)
    (subst (λ (x : ℕ). P x ((i * c + f) / c) (slice_index xs (i * c + f))) (mod-mul-add i c f m) (h (i * c + f) (omega arith)))

-- and one more place
pub one_more : (P : ℕ → ℕ → Type 0) (xs items : List ℕ) (n x : ℕ) → length xs ≡ n → items ≡ xs ++ x ∷ [] → ((k : ℕ) → k < n → P k (slice_index xs k)) → P n x
    → (k : ℕ) → k < n + 1 → P k (slice_index items k)
one_more P xs items n x e a h p k l =
    elim (cases_lt k n) [
      | inl b ↦ subst (P k) (sym (ap (λ (ys : List ℕ). slice_index ys k) a ∙ get_or_append_left xs (x ∷ []) 0 k (omega arith))) (h k b)
      | inr g ↦ (let d : n ≡ k = omega arith in let d' : k ≡ length xs = omega arith in
          subst (λ (y : ℕ). P y (slice_index items k)) d
          (subst (P n) (sym (ap (λ (ys : List ℕ). slice_index ys k) a ∙ ap (slice_index (xs ++ x ∷ [])) d' ∙ get_or-append_seam xs x [] 0)) p))
    ]

-- the row and the factor of a place
pub row_below : (r c k : ℕ) → 0 < c → k < r * c → k / c < r
row_below r c k some l = (div-lt_iff_lt-mul some).1 l

pub factor_below : (c k : ℕ) → 0 < c → k % c < c
factor_below c k some = mod-lt k some

pub is_column : (words : List (List ℕ)) (orders : List ℕ) (layout : Layout) (j n : ℕ) (xs : List ℕ) → length xs ≡ n → n ≡ layout.rows * layout.factors
    → ((k : ℕ) → k < n → (slice_index xs k < slice_index orders (k % layout.factors))
    × HasEntry words layout (k % layout.factors) (k / layout.factors) j (slice_index xs k)) → IsColumnOf words orders layout j xs
is_column words orders layout j n xs l e h =
    let both = at_places (λ f i x. (x < slice_index orders f) × HasEntry words layout f i j x) n layout.factors layout.rows xs (omega arith) h in
    record {
      rows = l ∙ e;
      codes = λ i f m o. (both i f m o).0;
      entries = λ i f m o. (both i f m o).1;
    }

-- the column may follow columns of these factors
pub column_follows : (words : List (List ℕ)) (orders : List ℕ) (layout : Layout) (j : ℕ) (xs : List ℕ) (P : Rep) → P.factors ≡ orders → P.rank ≡ layout.rows
    → length orders ≡ layout.factors → IsColumnOf words orders layout j xs → IsProductColumn P.factors P.rank xs
column_follows words orders layout j xs P fe re e h =
    subst (λ (fs : List ℕ). IsProductColumn fs P.rank xs) (sym fe) (subst (λ (r : ℕ). IsProductColumn orders r xs) (sym re) (record {
      rows = h.rows ∙ ap (λ (n : ℕ). layout.rows * n) (sym e);
      codes = λ i f m o. subst (λ (n : ℕ). slice_index xs (i * n + f) < slice_index orders f) (sym e) (h.codes i f m (subst (λ (n : ℕ). f < n) e o));
    }))

-- one more column
pub next_entries : (words : List (List ℕ)) (orders : List ℕ) (layout : Layout) (P : Rep) (j : ℕ) (xs : List ℕ) →
    P.factors ≡ orders → length orders ≡ layout.factors
    → size P ≡ j → IsColumnOf words orders layout j xs
    → ((f i k : ℕ) → f < layout.factors → i < layout.rows → k < j → HasEntry words layout f i k (matrix P f i k))
    → (f i k : ℕ) → f < layout.factors → i < layout.rows → k < j + 1 → HasEntry words layout f i k (matrix (followed_by P xs) f i k)
next_entries words orders layout P j xs fe e s h u f i k l m o =
    elim (cases_lt k j) [
      | inl b ↦ subst (λ (x : ℕ). HasEntry words layout f i k x) (sym (matrix_before P xs f i k (omega arith))) (u f i k l m b)
      | inr g ↦ (let a : k ≡ j = omega arith in let n : layout.factors ≡ count P = sym e ∙ ap (λ (fs : List ℕ). length fs) (sym fe) in
          subst (λ (k : ℕ). HasEntry words layout f i k (matrix (followed_by P xs) f i k)) (sym a)
          (subst (λ (k : ℕ). HasEntry words layout f i j (matrix (followed_by P xs) f i k)) s
          (subst (λ (x : ℕ). HasEntry words layout f i j x) (ap (λ (n : ℕ). slice_index xs (i * n + f)) n ∙ sym (matrix_last P xs f i)) (h.entries i f m l))))
    ]
