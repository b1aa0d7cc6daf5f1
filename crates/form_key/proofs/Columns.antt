-- The codes of columns, one after the other.
use Rattle.std.proofs.Common.{◌≡◌, ℕ, zero, suc, ◌+◌, ◌-◌, ◌*◌, ◌/◌, ◌%◌, ◌<◌, ◌≤◌, refl, sym, ◌∙◌, ap, subst, arith, List, [], ◌∷◌, ◌++◌, length, take, drop, slice_get, Some, slice_index, inl, inr, length-append, length-drop, rules, lit≤}
use Rattle.std.specs.List.{slice_index_or, concat, AllByRecursion}
use Rattle.std.proofs.lemmas.Bool.{cases_lt}
use Rattle.std.proofs.lemmas.List.{take_more, take_all, length-take-le, append-nil, get_or-take, get_or_past, get_or-append_right, get_or-drop, drop-append-le}
use Rattle.std.proofs.lemmas.List.Folds.{concat-append}
use Rattle.std.proofs.Math.ListN.{get_or-append}
use Rattle.std.proofs.lemmas.Nat.{mul-add-lt, mod-mul-add}
use Rattle.std.proofs.lemmas.Option.{get_or_from_slice_get}
use Rattle.std.proofs.Math.Nat.{mod-lt, mul_comm, mul-add-mod_self_right, mul-le-mul, le_refl}
use Rattle.matroid_theory.specs.Field.{orders, IsOrder}
use Rattle.matroid_theory.specs.Rep.{Rep, count, size, KeepsLimits, IsShaped, IsProductColumn}
use Rattle.matroid_theory.specs.Level.{followed_by}
use Rattle.matroid_laws.proofs.First.{row_below, whole, columns_positive}
use Rattle.form_key.specs.Codes.{AreHalves, AreCodesOf}
use Rattle.form_key.specs.Packing.{later_codes}

abbrev pub AreColumns : List ℕ → ℕ → List (List ℕ) → Type 0
AreColumns factors rank columns = (j : ℕ) → j < length columns → IsProductColumn factors rank (slice_index_or columns j [])

tail_columns : (factors : List ℕ) (rank : ℕ) (v : List ℕ) (columns : List (List ℕ)) → AreColumns factors rank (v ∷ columns) → AreColumns factors rank columns
tail_columns factors rank v columns h j l = h (suc j) (omega arith)

pub length-concat : (factors : List ℕ) (rank : ℕ) (columns : List (List ℕ)) → AreColumns factors rank columns
    → length (concat columns) ≡ length columns * (rank * length factors)
length-concat factors rank [] h = omega arith
length-concat factors rank (v ∷ columns) h =
    let e : length v ≡ rank * length factors = (h 0 (omega arith)).rows in
    let d : length (concat columns) ≡ length columns * (rank * length factors) = length-concat factors rank columns (tail_columns factors rank v columns h) in
    omega (arith, length-append v (concat columns))

column_codes : (factors : List ℕ) (rank : ℕ) (v : List ℕ) → IsProductColumn factors rank v → AreCodesOf factors v
column_codes factors rank v h k l =
    let m : k < rank * length factors = subst (λ n. k < n) h.rows l in
    let p : 0 < length factors = columns_positive k rank (length factors) m in
    subst (λ n. slice_index v n < slice_index factors (k % length factors)) (whole k (length factors) p)
    (h.codes (k / length factors) (k % length factors) (row_below k (length factors) rank p m) (mod-lt k p))

codes_behind : (factors : List ℕ) (rank : ℕ) (v rest : List ℕ) → IsProductColumn factors rank v → AreCodesOf factors rest → AreCodesOf factors (v ++ rest)
codes_behind factors rank v rest h g k l = elim (cases_lt k (length v)) [
  | inl b ↦ subst (λ x. x < slice_index factors (k % length factors)) (sym (get_or-append v rest 0 k b)) (column_codes factors rank v h k b)
  | inr b ↦ (
      let m : k - length v < length rest = omega (arith, length-append v rest) in
      let e : k ≡ rank * length factors + (k - length v) = omega (arith, h.rows) in
      let turn : k % length factors ≡ (k - length v) % length factors = ap (λ n. n % length factors) e
      ∙ mul-add-mod_self_right rank (length factors) (k - length v) in
      subst (λ f. slice_index (v ++ rest) k < slice_index factors f) (sym turn)
      (subst (λ x. x < slice_index factors ((k - length v) % length factors)) (sym (get_or-append_right v rest (length v) k 0 refl b)) (g (k - length v) m)))
]

pub concat_codes : (factors : List ℕ) (rank : ℕ) (columns : List (List ℕ)) → AreColumns factors rank columns → AreCodesOf factors (concat columns)
concat_codes factors rank [] h = λ k l. absurd (omega arith)
concat_codes factors rank (v ∷ columns) h =
    codes_behind factors rank v (concat columns) (h 0 (omega arith)) (concat_codes factors rank columns (tail_columns factors rank v columns h))

-- the columns of a representation
pub shaped_columns : (M : Rep) → IsShaped M → AreColumns M.factors M.rank M.columns
shaped_columns M s j l = record { rows = s.lengths j l; codes = λ i f m n. s.codes f i j n m l }

pub later_columns : (M : Rep) → IsShaped M → AreColumns M.factors M.rank (drop M.rank M.columns)
later_columns M s j l =
    let l' : j < length (drop M.rank M.columns) = l in
    subst (IsProductColumn M.factors M.rank) (sym (get_or-drop M.rank M.columns j []))
    (shaped_columns M s (M.rank + j) (omega (arith, length-drop M.rank M.columns)))

pub length-later : (M : Rep) → IsShaped M → length (later_codes M) ≡ (size M - M.rank) * (M.rank * count M)
length-later M s = length-concat M.factors M.rank (drop M.rank M.columns) (later_columns M s) ∙ ap (λ n. n * (M.rank * count M)) (length-drop M.rank M.columns)

pub later_are_codes : (M : Rep) → IsShaped M → AreCodesOf M.factors (later_codes M)
later_are_codes M s = concat_codes M.factors M.rank (drop M.rank M.columns) (later_columns M s)

-- one more column
pub later_codes-followed : (P : Rep) (v : List ℕ) → P.rank ≤ size P → later_codes (followed_by P v) ≡ later_codes P ++ v
later_codes-followed P v room =
    ap concat (drop-append-le P.rank P.columns (v ∷ []) room) ∙ concat-append (drop P.rank P.columns) (v ∷ []) ∙ ap (λ w. later_codes P ++ w) (append-nil v)

-- the codes of a field fit in half a byte
within : (xs : List ℕ) → AllByRecursion (λ x. x ≤ 16) xs → (k d : ℕ) → k < length xs → slice_index_or xs k d ≤ 16
within [] h k d l = absurd (omega arith)
within (x ∷ xs) h zero d l = h.0
within (x ∷ xs) h (suc k) d l = within xs h.1 k d (omega arith)

pub order_most : (q : ℕ) → IsOrder q → q ≤ 16
order_most q h = subst (λ x. x ≤ 16) h.listed.2 (within orders (search rules) h.listed.0 q h.listed.1)

pub codes_are_halves : (factors codes : List ℕ) → ((f : ℕ) → f < length factors → IsOrder (slice_index factors f)) → AreCodesOf factors codes → AreHalves codes
codes_are_halves factors codes fields h k l = elim (cases_lt (k % length factors) (length factors)) [
  | inl b ↦ (
      let c : slice_index codes k < slice_index factors (k % length factors) = h k l in
      let o : slice_index factors (k % length factors) ≤ 16 = order_most _ (fields (k % length factors) b) in
      omega arith)
  | inr b ↦ (
      let c : slice_index codes k < slice_index factors (k % length factors) = h k l in
      let z : slice_index factors (k % length factors) ≡ 0 = get_or_past factors (k % length factors) 0 b in
      absurd (omega arith))
]

-- one column after the other: their codes, and that there is room for them
later-more : (M : Rep) (m : ℕ) (v : List ℕ) → M.rank + m < size M → slice_get M.columns (M.rank + m) ≡ Some v
    → concat (take (m + 1) (drop M.rank M.columns)) ≡ concat (take m (drop M.rank M.columns)) ++ v
later-more M m v l g =
    ap concat (take_more (drop M.rank M.columns) m [] (omega (arith, length-drop M.rank M.columns)))
    ∙ ap (λ x. concat (take m (drop M.rank M.columns) ++ x ∷ [])) (get_or-drop M.rank M.columns m [] ∙ get_or_from_slice_get M.columns (M.rank + m) v [] g)
    ∙ concat-append (take m (drop M.rank M.columns)) (v ∷ [])
    ∙ ap (λ w. concat (take m (drop M.rank M.columns)) ++ w) (append-nil v)

most_codes : (r c n m : ℕ) → r ≤ 6 → c ≤ 3 → r + m ≤ n → n ≤ 16 → m * (r * c) ≤ 180
most_codes r c n m a b d e =
    let rows : r * c ≤ r * 3 = mul-le-mul (le_refl r) b in
    let all : m * (r * c) ≤ (16 - r) * (r * 3) = mul-le-mul (omega arith) rows in
    let most : (16 - r) * (r * 3) ≤ 180 = at_most r a in
    omega arith
  where
    at_most : (r : ℕ) → r ≤ 6 → (16 - r) * (r * 3) ≤ 180
    at_most zero l = lit≤ tt
    at_most (suc zero) l = lit≤ tt
    at_most (suc (suc zero)) l = lit≤ tt
    at_most (suc (suc (suc zero))) l = lit≤ tt
    at_most (suc (suc (suc (suc zero)))) l = lit≤ tt
    at_most (suc (suc (suc (suc (suc zero))))) l = lit≤ tt
    at_most (suc (suc (suc (suc (suc (suc zero)))))) l = lit≤ tt
    at_most (suc (suc (suc (suc (suc (suc (suc r))))))) l = absurd (omega arith)

taken_columns : (M : Rep) (m : ℕ) → IsShaped M → m ≤ size M - M.rank → AreColumns M.factors M.rank (take m (drop M.rank M.columns))
taken_columns M m s l j k =
    let n : length (take m (drop M.rank M.columns)) ≡ m = length-take-le m (drop M.rank M.columns) (omega (arith, length-drop M.rank M.columns)) in
    subst (IsProductColumn M.factors M.rank) (sym (get_or-take m (drop M.rank M.columns) j [] (omega arith)))
    (later_columns M s j (omega (arith, length-drop M.rank M.columns)))

later_room : (M : Rep) (m : ℕ) (v : List ℕ) → KeepsLimits M → M.rank + m < size M → slice_get M.columns (M.rank + m) ≡ Some v
    → length (concat (take m (drop M.rank M.columns))) + length v ≤ 180
later_room M m v h l g =
    let n : length (take m (drop M.rank M.columns)) ≡ m = length-take-le m (drop M.rank M.columns) (omega (arith, length-drop M.rank M.columns)) in
    let before : length (concat (take m (drop M.rank M.columns))) ≡ m * (M.rank * count M) =
    length-concat M.factors M.rank (take m (drop M.rank M.columns)) (taken_columns M m h.shaped (omega arith)) ∙ ap (λ n. n * (M.rank * count M)) n in
    let here : length v ≡ M.rank * count M = ap (λ (w : List ℕ). length w) (sym (get_or_from_slice_get M.columns (M.rank + m) v [] g))
    ∙ h.shaped.lengths (M.rank + m) l in
    let most : suc m * (M.rank * count M) ≤ 180 = most_codes M.rank (count M) (size M) (suc m) h.rank_most h.fields.few (omega arith) h.size_most in
    omega arith

-- the same by the number of the column
pub column_more : (M : Rep) (j : ℕ) (v codes new : List ℕ) → M.rank ≤ j → j < size M → slice_get M.columns j ≡ Some v
    → codes ≡ concat (take (j - M.rank) (drop M.rank M.columns)) → new ≡ codes ++ v
    → new ≡ concat (take (j + 1 - M.rank) (drop M.rank M.columns))
column_more M j v codes new r l g so_far one =
    let e : j ≡ M.rank + (j - M.rank) = omega arith in
    let f : j + 1 - M.rank ≡ (j - M.rank) + 1 = omega arith in
    one ∙ ap (λ xs. xs ++ v) so_far ∙ sym (later-more M (j - M.rank) v (omega arith) (subst (λ k. slice_get M.columns k ≡ Some v) e g))
    ∙ ap (λ n. concat (take n (drop M.rank M.columns))) (sym f)

pub column_room : (M : Rep) (j : ℕ) (v codes : List ℕ) → KeepsLimits M → M.rank ≤ j → j < size M → slice_get M.columns j ≡ Some v
    → codes ≡ concat (take (j - M.rank) (drop M.rank M.columns)) → length codes + length v ≤ 180
column_room M j v codes h r l g so_far =
    let e : j ≡ M.rank + (j - M.rank) = omega arith in
    subst (λ (xs : List ℕ). length xs + length v ≤ 180) (sym so_far)
    (later_room M (j - M.rank) v h (omega arith) (subst (λ k. slice_get M.columns k ≡ Some v) e g))

-- a column of its codes
pub piece_is_column : (factors codes : List ℕ) (rank j : ℕ) → AreCodesOf factors codes → (j + 1) * (rank * length factors) ≤ length codes
    → IsProductColumn factors rank (take (rank * length factors) (drop (j * (rank * length factors)) codes))
piece_is_column factors codes rank j h l = record {
  rows = length-take-le w (drop (j * w) codes) (omega (arith, length-drop (j * w) codes));
  codes = λ i f m n.
      let place : i * length factors + f < w =
      subst (λ x. i * length factors + f < x) (mul_comm (length factors) rank) (mul-add-lt i (length factors) f rank m n) in
      let turn : (j * w + (i * length factors + f)) % length factors ≡ f =
      ap (λ x. x % length factors) (turns (j * rank + i) f i) ∙ mod-mul-add (j * rank + i) (length factors) f n in
      subst (λ x. x < slice_index factors f) (sym (get_or-take w (drop (j * w) codes) (i * length factors + f) 0 place
      ∙ get_or-drop (j * w) codes (i * length factors + f) 0))
      (subst (λ g. slice_index codes (j * w + (i * length factors + f)) < slice_index factors g) turn (h (j * w + (i * length factors + f)) (omega arith)));
}
  where
    w : ℕ
    w = rank * length factors

    turns : (k f i : ℕ) → j * (rank * length factors) + (i * length factors + f) ≡ (j * rank + i) * length factors + f
    turns k f i = omega arith

pub later_halves : (M : Rep) (j : ℕ) (codes : List ℕ) → IsShaped M → codes ≡ concat (take (j - M.rank) (drop M.rank M.columns)) → size M ≤ j → AreHalves codes
later_halves M j codes s so_far l =
    let n : length (drop M.rank M.columns) ≤ j - M.rank = omega (arith, length-drop M.rank M.columns) in
    subst AreHalves (sym (so_far ∙ ap concat (take_all (j - M.rank) (drop M.rank M.columns) n)))
    (codes_are_halves M.factors (later_codes M) s.orders (later_are_codes M s))
