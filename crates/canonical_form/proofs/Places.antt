-- Places of codes in a column of all factors, and lists that are made place by place.
use Rattle.std.proofs.Common.{◌≡◌, ℕ, ◌+◌, ◌*◌, ◌/◌, ◌%◌, ◌<◌, ◌≤◌, sym, ◌∙◌, ap, subst, arith, List, [], ◌∷◌, ◌++◌, length, get_or, inl, inr}
use Rattle.std.specs.List.{slice_index, slice_index_or}
use Rattle.std.proofs.lemmas.Bool.{cases_lt}
use Rattle.std.proofs.lemmas.Nat.{div-mul-add, mod-mul-add}
use Rattle.std.proofs.Math.Nat.{div-add-mod, mod-lt, div-lt_iff_lt-mul}
use Rattle.std.proofs.Math.Seq.{get_or-append_seam}
use Rattle.std.proofs.Math.ListN.{get_or-append}
use Rattle.matroid_theory.specs.Field.{IsOrder, IsFactors}
use Rattle.matroid_theory.specs.Rep.{Rep, count, order, IsProductColumn}
use Rattle.product_rep.proofs.PiecesLemmas.{place_below}

-- what holds of each place holds by row and factor
pub by_place : (P : ℕ → ℕ → ℕ → Type 0) (rank c n : ℕ) → rank * c ≤ n → ((k : ℕ) → k < n → P (k % c) (k / c) k) → (i f : ℕ) →
    i < rank → f < c → P f i (i * c + f)
by_place P rank c n le h i f l m =
    let b : i * c + f < rank * c = place_below rank c i f l m in
    subst (λ x. P f x (i * c + f)) (div-mul-add i c f m) (subst (λ x. P x ((i * c + f) / c) (i * c + f)) (mod-mul-add i c f m) (h (i * c + f) (omega arith)))

-- and the other way
pub to_place : (P : ℕ → ℕ → ℕ → Type 0) (rank c : ℕ) → 0 < c → ((i f : ℕ) → i < rank → f < c → P f i (i * c + f)) → (k : ℕ) → k < rank * c → P (k % c) (k / c) k
to_place P rank c s h k l =
    let e : c * (k / c) + k % c ≡ k = div-add-mod k c in
    let d : (k / c) * c + k % c ≡ k = omega arith in
    subst (P (k % c) (k / c)) d (h (k / c) (k % c) ((div-lt_iff_lt-mul s).1 l) (mod-lt k s))

-- the field of a place
pub field_at : (M : Rep) (fs : List ℕ) (q c p : ℕ) → fs ≡ M.factors → c ≡ length fs → q ≡ slice_index fs (p % c) → q ≡ order M (p % count M)
field_at M fs q c p e k h =
    h
    ∙ ap (λ (x : ℕ). slice_index fs (p % x)) (k ∙ ap (λ (xs : List ℕ). length xs) e)
    ∙ ap (λ (xs : List ℕ). slice_index xs (p % count M)) e

-- the code at a place is below the order of the place's field
pub code_at : (M : Rep) (v : List ℕ) → 0 < count M → IsProductColumn M.factors M.rank v → (p : ℕ) → p < length v → slice_index v p < order M (p % count M)
code_at M v s h p l = to_place (λ f i k. slice_index v k < order M f) M.rank (count M) s h.codes p (let e : length v ≡ M.rank * count M = h.rows in omega arith)

pub some_factor : (M : Rep) (fs : List ℕ) → fs ≡ M.factors → 0 < length fs → 0 < count M
some_factor M fs e l = subst (λ (xs : List ℕ). 0 < length xs) e l

-- one more item of a list whose items have a property each
pub one_more_item : {X : Type 0} (P : ℕ → X → Type 0) (xs ys : List X) (x d : X) (n : ℕ) → length xs ≡ n → ys ≡ xs ++ x ∷ [] →
    ((k : ℕ) → k < n → P k (slice_index_or xs k d)) → P n x → (k : ℕ) → k < n + 1 → P k (slice_index_or ys k d)
one_more_item {X} P xs ys x d n l e h p k b =
    subst (λ (w : List X). P k (get_or w k d)) (sym e)
    (elim (cases_lt k n) [
      | inl m ↦ subst (P k) (sym (get_or-append xs (x ∷ []) d k (omega arith))) (h k m)
      | inr m ↦ (let s : n ≡ k = omega arith in let t : length xs ≡ k = omega arith in
          subst (λ (j : ℕ). P j (get_or (xs ++ x ∷ []) j d)) s
          (subst (P n) (sym (ap (λ (j : ℕ). get_or (xs ++ x ∷ []) j d) (sym l) ∙ get_or-append_seam xs x [] d)) p))
    ])

-- the order of a factor is that of a field
pub order_at : (M : Rep) (fs : List ℕ) (f : ℕ) → fs ≡ M.factors → IsFactors fs → f < count M → IsOrder (order M f)
order_at M fs f e h l = let g = subst IsFactors e h in g.fields f l

-- the number of factors, as the code has it
pub count_at : (M : Rep) (fs : List ℕ) (c : ℕ) → fs ≡ M.factors → c ≡ length fs → c ≡ count M
count_at M fs c e k = k ∙ ap (λ (xs : List ℕ). length xs) e

pub order_of : (M : Rep) (fs : List ℕ) (q f : ℕ) → fs ≡ M.factors → q ≡ slice_index fs f → q ≡ order M f
order_of M fs q f e k = k ∙ ap (λ (xs : List ℕ). slice_index xs f) e
