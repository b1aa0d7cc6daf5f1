-- Columns as numbers: those of a later column are greater, and there is a number above all.
use Rattle.std.proofs.Common.{◌≡◌, ℕ, zero, suc, ◌+◌, ◌-◌, ◌*◌, ◌/◌, ◌%◌, ◌^◌, ◌<◌, ◌≤◌, refl, sym, ◌∙◌, ap, subst, arith, List, [], ◌∷◌, length, slice_index, inl, inr, lit<}
use Rattle.std.specs.Cmp.Lexicographic.{slice_cmp}
use Rattle.std.specs.Ordering.{nat_cmp, ordering_then}
use Rattle.std.specs.declared.cmp.Ordering.TheVariants.{Less, Greater}
use Rattle.std.proofs.lemmas.Bool.{cases_eq}
use Rattle.std.proofs.lemmas.Cmp.{ranked, by_ranked}
use Rattle.std.proofs.lemmas.Nat.{mul-add-lt}
use Rattle.std.proofs.Math.Nat.{mul-le-mul, le_refl, pow-succ', pow-le-pow_right, one-le-pow}
use Rattle.matroid_theory.specs.Field.{IsFactors}
use Rattle.matroid_theory.specs.Rep.{IsProductColumn}
use Rattle.matroid_theory.specs.Level.{IsNormalised}
use Rattle.matrix_lemmas.proofs.FieldLaws.{order_most}
use Rattle.matroid_laws.proofs.First.{whole, row_below, digit_less}
use Rattle.extension.specs.Admissible.{value, above_values}
use Rattle.extension.specs.Steps.{IsStart}
use Rattle.extension.proofs.Nexts.{normalised_length}

-- each code is a digit in base 13
abbrev pub AreDigits : List ℕ → Type 0
AreDigits xs = (p : ℕ) → p < length xs → slice_index xs p ≤ 12

rest_digits : (x : ℕ) (xs : List ℕ) → AreDigits (x ∷ xs) → AreDigits xs
rest_digits x xs h p l = h (suc p) (omega arith)

-- one digit more
digit_below : (x n v : ℕ) → x ≤ 12 → v < n → x * n + v < 13 * n
digit_below x n v l m = let h : x * n ≤ 12 * n = mul-le-mul l (le_refl n) in omega arith

pub value_below : (xs : List ℕ) → AreDigits xs → value xs < 13 ^ length xs
value_below [] h = lit< tt
value_below (x ∷ xs) h = subst (λ (n : ℕ). x * 13 ^ length xs + value xs < n) (sym (pow-succ' 13 (length xs)))
    (digit_below x (13 ^ length xs) (value xs) (h 0 (omega arith)) (value_below xs (rest_digits x xs h)))

value_less : (xs ys : List ℕ) → AreDigits xs → length xs ≡ length ys → slice_cmp nat_cmp xs ys ≡ Less → value xs < value ys
value_less [] [] h e l = cc
value_less [] (y ∷ ys) h e l = absurd (omega arith)
value_less (x ∷ xs) [] h e l = absurd (omega arith)
value_less (x ∷ xs) (y ∷ ys) h e l =
    let m : length xs ≡ length ys = omega arith in
    let n : 13 ^ length xs ≡ 13 ^ length ys = ap (λ k. 13 ^ k) m in
    by_ranked (x < y) (x ≡ y) (y < x) (nat_cmp x y) (ranked x y (nat_cmp x y) refl)
    (λ _ b. subst (λ (k : ℕ). x * 13 ^ length xs + value xs < y * k + value ys) n
    (digit_less x y (13 ^ length xs) (value xs) (value ys) b (value_below xs (rest_digits x xs h))))
    (λ o s. let k : value xs < value ys = value_less xs ys (rest_digits x xs h) m (sym (ap (λ o. ordering_then o (slice_cmp nat_cmp xs ys)) o) ∙ l) in
    let t : x * 13 ^ length xs ≡ y * 13 ^ length ys = (λ i. s i * n i) in omega arith)
    (λ o _. let k : Greater ≡ Less = sym (ap (λ o. ordering_then o (slice_cmp nat_cmp xs ys)) o) ∙ l in cc)

-- 18 digits, the first of them at most 1
value_short : (xs : List ℕ) → AreDigits xs → length xs ≤ 18 → slice_index xs 0 ≤ 1 → value xs < above_values
value_short [] h l first = lit< tt
value_short (x ∷ xs) h l first =
    let most : x * 13 ^ length xs ≤ 1 * 13 ^ length xs = mul-le-mul first (le_refl (13 ^ length xs)) in
    let rest : value xs < 13 ^ length xs = value_below xs (rest_digits x xs h) in
    let short : length xs ≤ 17 = omega arith in
    let room : 13 ^ length xs ≤ 13 ^ 17 = pow-le-pow_right (lit< tt) short in
    omega arith

-- a list with a code that isn't 0
value_positive : (p : ℕ) (xs : List ℕ) → p < length xs → 0 < slice_index xs p → 0 < value xs
value_positive p [] l h = absurd (omega arith)
value_positive zero (x ∷ xs) l h =
    let o : 1 ≤ 13 ^ length xs = one-le-pow (length xs) 13 (lit< tt) in
    let m : 1 * 1 ≤ x * 13 ^ length xs = mul-le-mul (let k : 1 ≤ x = omega arith in k) o in omega arith
value_positive (suc p) (x ∷ xs) l h = let k : 0 < value xs = value_positive p xs (omega arith) h in omega arith

module _ (factors : List ℕ) (fs : IsFactors factors) (rank : ℕ) (low : rank ≤ 6) where
  digits_of : (v : List ℕ) → IsNormalised factors rank v → AreDigits v
  digits_of v n p l =
      let c : IsProductColumn factors rank v = n.is_column in
      let some : 0 < length factors = fs.some in
      let below : p < rank * length factors = (let e : length v ≡ rank * length factors = c.rows in omega arith) in
      let f : p % length factors < length factors = omega arith in
      let m : slice_index factors (p % length factors) ≤ 13 = order_most (slice_index factors (p % length factors)) (fs.fields (p % length factors) f) in
      let o : slice_index v p < slice_index factors (p % length factors) =
      subst (λ (q : ℕ). slice_index v q < slice_index factors (p % length factors)) (whole p (length factors) some)
      (c.codes (p / length factors) (p % length factors) (row_below p (length factors) rank some below) f) in
      omega arith

  -- the first code is 1 where the first row is the lead, and 0 otherwise
  first_code : (v : List ℕ) → IsNormalised factors rank v → slice_index v 0 ≤ 1
  first_code v n = elim (cases_eq n.lead 0) [
    | inl z ↦ (let row : n.lead * length factors ≡ 0 * length factors = ap (λ lead. lead * length factors) z in
        let place : 0 ≡ n.lead * length factors + 0 = omega arith in
        let one : slice_index v 0 ≡ 1 = ap (slice_index v) place ∙ n.ones 0 fs.some in omega arith)
    | inr ne ↦ (let place : 0 ≡ 0 * length factors + 0 = omega arith in
        let zero : slice_index v 0 ≡ 0 = ap (slice_index v) place ∙ n.zeros 0 0 (omega arith) fs.some in omega arith)
  ]

  pub value_most : (v : List ℕ) → IsNormalised factors rank v → value v < above_values
  value_most v n =
      let c : IsProductColumn factors rank v = n.is_column in
      let w : rank * length factors ≤ 6 * 3 = mul-le-mul low fs.few in
      let e : length v ≡ rank * length factors = c.rows in
      value_short v (digits_of v n) (omega arith) (first_code v n)

  pub value_rises : (u v : List ℕ) → IsStart factors rank u → IsNormalised factors rank v → slice_cmp nat_cmp u v ≡ Less → value u < value v
  value_rises u v s n l = elim s [
    | inr m ↦ value_less u v (digits_of u m) (normalised_length factors fs rank u m ∙ sym (normalised_length factors fs rank v n)) l
    | inl e ↦ subst (λ (u : List ℕ). value u < value v) (sym e)
        (let some : 0 < length factors = fs.some in
        value_positive (n.lead * length factors + 0) v (place some)
        (let o : slice_index v (n.lead * length factors + 0) ≡ 1 = n.ones 0 some in omega arith))
  ]
    where
      place : 0 < length factors → n.lead * length factors + 0 < length v
      place some =
          let c : IsProductColumn factors rank v = n.is_column in
          let a : n.lead * length factors + 0 < length factors * rank = mul-add-lt n.lead (length factors) 0 rank n.lead_below some in
          let e : length v ≡ rank * length factors = c.rows in omega arith

  -- so each next column is nearer to the end
  pub nearer : (u v : List ℕ) → IsStart factors rank u → IsNormalised factors rank v → slice_cmp nat_cmp u v ≡ Less →
      above_values - value v < above_values - value u
  nearer u v s n l = let a : value u < value v = value_rises u v s n l in let b : value v < above_values = value_most v n in omega arith
