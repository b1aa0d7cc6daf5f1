-- The columns of a representation as numbers, and the first column at which two representations differ.
use Rattle.std.proofs.Common.{◌≡◌, ◌≢◌, ℕ, zero, suc, ◌+◌, ◌*◌, ◌/◌, ◌%◌, ◌-◌, ◌^◌, ◌<◌, ◌≤◌, refl, sym, ◌∙◌, ap, subst, arith, List, [], ◌∷◌, length, slice_index, slice_index_or, lit<}
use Rattle.std.specs.Cmp.{IsTotalOrder, nat_cmp_total}
use Rattle.std.specs.Cmp.Lexicographic.{slice_cmp, lists_total}
use Rattle.std.specs.Ordering.{nat_cmp, ordering_then}
use Rattle.std.specs.declared.cmp.Ordering.{Ordering}
use Rattle.std.specs.declared.cmp.Ordering.TheVariants.{Less, Equal, Greater}
use Rattle.std.proofs.lemmas.Cmp.{tied_itself}
use Rattle.std.proofs.lemmas.List.{ext_get_or}
use Rattle.std.proofs.Math.Nat.{mod-lt, mul-le-mul, le_refl, pow-le-pow_right, add-mul}
use Rattle.matroid_theory.specs.Rep.{Rep, Shape, shape, count, size, order, matrix, IsShaped}
use Rattle.matroid_laws.proofs.First.{row_below, whole, columns_positive}
use Rattle.matrix_lemmas.proofs.FieldLaws.{order_most}
use Rattle.form_trails.specs.Numbers.{value, weighed}
use Rattle.form_trails.specs.Least.{number}
use Rattle.form_trails.proofs.Numbers.{AreDigits, value-weighed, weighed_same, value_at_most, value_same, value_from, value_within}

-- the list of codes of a column
abbrev pub column : Rep → ℕ → List ℕ
column N p = slice_index_or N.columns p []

then_first : (o p : Ordering) → ordering_then o p ≢ Greater → o ≢ Greater
then_first Less p n e = cc
then_first Equal p n e = cc
then_first Greater p n e = n refl

-- of two lists that agree before place p, the one that isn't above the other has no greater element there
pub first_difference : {X : Type 0} (R : X → X → Ordering) (o : IsTotalOrder R) (xs ys : List X) (z : X) (p : ℕ) → length xs ≡ length ys → p < length xs
    → ((j : ℕ) → j < p → slice_index_or xs j z ≡ slice_index_or ys j z) → slice_cmp R xs ys ≢ Greater →
    R (slice_index_or xs p z) (slice_index_or ys p z) ≢ Greater
first_difference R o [] ys z p e l h n = absurd (omega arith)
first_difference R o (x ∷ xs) [] z p e l h n = absurd (omega arith)
first_difference R o (x ∷ xs) (y ∷ ys) z zero e l h n = then_first (R x y) (slice_cmp R xs ys) n
first_difference R o (x ∷ xs) (y ∷ ys) z (suc p) e l h n =
    first_difference R o xs ys z p (omega arith) (omega arith) (λ j m. h (suc j) (omega arith))
    (λ g. n (ap (λ r. ordering_then r (slice_cmp R xs ys)) (ap (R x) (sym (h 0 (omega arith))) ∙ tied_itself o x) ∙ g))

module _ (M N : Rep) (shaped : IsShaped N) (same : shape N ≡ shape M) (p : ℕ) (b : p < size M) where
  here : p < size N
  here = subst (λ (S : Shape). p < S.size) (sym same) b

  pub column_length : length (column N p) ≡ M.rank * count M
  column_length = shaped.lengths p here ∙ ap (λ (S : Shape). S.rank * length S.factors) same

  some_factor : (e : ℕ) → e < M.rank * count M → 0 < count M
  some_factor e l = columns_positive e M.rank (count M) l

  -- the code at a place
  code_at : (e : ℕ) → e < M.rank * count M → slice_index (column N p) e ≡ matrix N (e % count M) (e / count M) p
  code_at e l =
      let c : 0 < count M = some_factor e l in
      ap (slice_index (column N p)) (sym (whole e (count M) c) ∙ ap (λ (S : Shape). e / count M * length S.factors + e % count M) (sym same))

  pub column_digits : AreDigits (column N p)
  column_digits e l =
      let m : e < M.rank * count M = subst (λ n. e < n) column_length l in
      let c : 0 < count M = some_factor e m in
      let f : e % count M < count M = mod-lt e c in
      let f' : e % count M < count N = subst (λ (S : Shape). e % count M < length S.factors) (sym same) f in
      let i' : e / count M < N.rank = subst (λ (S : Shape). e / count M < S.rank) (sym same) (row_below e (count M) M.rank c m) in
      let o : matrix N (e % count M) (e / count M) p < order N (e % count M) = shaped.codes (e % count M) (e / count M) p f' i' here in
      let w : order N (e % count M) ≤ 13 = order_most (order N (e % count M)) (shaped.orders (e % count M) f') in
      let z : slice_index (column N p) e ≡ matrix N (e % count M) (e / count M) p = code_at e m in
      omega arith

  pub column_number : value (column N p) ≡ number M (λ f i. matrix N f i p)
  column_number =
      value-weighed (column N p) ∙ ap (weighed (slice_index (column N p))) column_length
      ∙ weighed_same (slice_index (column N p)) (λ e. matrix N (e % count M) (e / count M) p) (M.rank * count M) code_at

  -- the code of a row and factor
  pub column_code : (f i : ℕ) → matrix N f i p ≡ slice_index (column N p) (i * count M + f)
  column_code f i = ap (λ (S : Shape). slice_index (column N p) (i * length S.factors + f)) same

  -- a code that isn't 0 before row k
  pub number_from : (k f i : ℕ) → f < count M → i < k → k ≤ M.rank → matrix N f i p ≢ 0 → 16 ^ ((M.rank - k) * count M) ≤ number M (λ f i. matrix N f i p)
  number_from k f i l m o ne =
      let row : (i + 1) * count M ≤ k * count M = mul-le-mul (let a : i + 1 ≤ k = omega arith in a) (le_refl (count M)) in
      let all : k * count M + (M.rank - k) * count M ≡ M.rank * count M = rest in
      let n : i * count M + f + (M.rank * count M - (i * count M + f) - 1) < length (column N p) =
      (let e : length (column N p) ≡ M.rank * count M = column_length in omega arith) in
      let w : 16 ^ (M.rank * count M - (i * count M + f) - 1) ≤ value (column N p) =
      value_from (i * count M + f) (M.rank * count M - (i * count M + f) - 1) (column N p) n
      (let e : length (column N p) ≡ M.rank * count M = column_length in omega arith) (λ e. ne (column_code f i ∙ e)) in
      let t : 16 ^ ((M.rank - k) * count M) ≤ 16 ^ (M.rank * count M - (i * count M + f) - 1) = pow-le-pow_right (lit< tt) (omega arith) in
      let v : value (column N p) ≡ number M (λ f i. matrix N f i p) = column_number in
      omega arith
    where
      rest : k * count M + (M.rank - k) * count M ≡ M.rank * count M
      rest = let e : k + (M.rank - k) ≡ M.rank = omega arith in sym (add-mul k (M.rank - k) (count M)) ∙ ap (λ x. x * count M) e

  -- codes that are 0 before row k
  pub number_within : (k : ℕ) → k ≤ M.rank → ((f i : ℕ) → f < count M → i < k → matrix N f i p ≡ 0) →
      number M (λ f i. matrix N f i p) < 16 ^ ((M.rank - k) * count M)
  number_within k o z =
      subst (λ v. v < 16 ^ ((M.rank - k) * count M)) column_number
      (value_within (k * count M) ((M.rank - k) * count M) (column N p) column_digits (column_length ∙ sym rest) zeros)
    where
      rest : k * count M + (M.rank - k) * count M ≡ M.rank * count M
      rest = let e : k + (M.rank - k) ≡ M.rank = omega arith in sym (add-mul k (M.rank - k) (count M)) ∙ ap (λ x. x * count M) e

      zeros : (e : ℕ) → e < k * count M → slice_index (column N p) e ≡ 0
      zeros e l =
          let c : 0 < count M = columns_positive e k (count M) l in
          let all : k * count M ≤ M.rank * count M = mul-le-mul o (le_refl (count M)) in
          code_at e (omega arith) ∙ z (e % count M) (e / count M) (mod-lt e c) (row_below e (count M) k c l)

-- columns with the same codes have one number
pub number_entries : (M : Rep) (a b : ℕ → ℕ → ℕ) → ((f i : ℕ) → f < count M → i < M.rank → a f i ≡ b f i) → number M a ≡ number M b
number_entries M a b h =
    weighed_same (λ e. a (e % count M) (e / count M)) (λ e. b (e % count M) (e / count M)) (M.rank * count M)
    (λ e l. let c : 0 < count M = columns_positive e M.rank (count M) l in h (e % count M) (e / count M) (mod-lt e c) (row_below e (count M) M.rank c l))

-- columns of two representations of one shape
module _ (M N L : Rep) (n_shaped : IsShaped N) (l_shaped : IsShaped L) (n_same : shape N ≡ shape M) (l_same : shape L ≡ shape M) (p : ℕ) (b : p < size M) where
  as_long : length (column N p) ≡ length (column L p)
  as_long = column_length M N n_shaped n_same p b ∙ sym (column_length M L l_shaped l_same p b)

  -- are equal where their codes are
  pub same_column : ((f i : ℕ) → f < count M → i < M.rank → matrix N f i p ≡ matrix L f i p) → column N p ≡ column L p
  same_column h = ext_get_or 0 (column N p) (column L p) as_long code
    where
      code : (e : ℕ) → e < length (column N p) → slice_index (column N p) e ≡ slice_index (column L p) e
      code e l =
          let m : e < M.rank * count M = subst (λ n. e < n) (column_length M N n_shaped n_same p b) l in
          let c : 0 < count M = columns_positive e M.rank (count M) m in
          code_at M N n_shaped n_same p b e m ∙ h (e % count M) (e / count M) (mod-lt e c) (row_below e (count M) M.rank c m)
          ∙ sym (code_at M L l_shaped l_same p b e m)

  -- the order of the columns is that of their numbers
  pub number_at_most : slice_cmp nat_cmp (column N p) (column L p) ≢ Greater → number M (λ f i. matrix N f i p) ≤ number M (λ f i. matrix L f i p)
  number_at_most n =
      subst (λ v. v ≤ number M (λ f i. matrix L f i p)) (column_number M N n_shaped n_same p b)
      (subst (λ w. value (column N p) ≤ w) (column_number M L l_shaped l_same p b)
      (value_at_most (column N p) (column L p) (column_digits M N n_shaped n_same p b) (column_digits M L l_shaped l_same p b) as_long n))

  -- columns with one number have the same codes
  pub number_same : number M (λ f i. matrix N f i p) ≡ number M (λ f i. matrix L f i p) → (f i : ℕ) → matrix N f i p ≡ matrix L f i p
  number_same e f i =
      let c : column N p ≡ column L p = value_same (column N p) (column L p) (column_digits M N n_shaped n_same p b)
      (column_digits M L l_shaped l_same p b) as_long
      (column_number M N n_shaped n_same p b ∙ e ∙ sym (column_number M L l_shaped l_same p b)) in
      column_code M N n_shaped n_same p b f i ∙ (λ t. slice_index (c t) (i * count M + f)) ∙ sym (column_code M L l_shaped l_same p b f i)

-- of two representations with the same columns before p, where the one isn't above the other
module _ (M N L : Rep) (n_shaped : IsShaped N) (l_shaped : IsShaped L) (n_same : shape N ≡ shape M) (l_same : shape L ≡ shape M) (p : ℕ) (b : p < size M) where
  pub next_at_most : ((j f i : ℕ) → j < p → f < count M → i < M.rank → matrix N f i j ≡ matrix L f i j) →
      slice_cmp (slice_cmp nat_cmp) N.columns L.columns ≢ Greater
      → number M (λ f i. matrix N f i p) ≤ number M (λ f i. matrix L f i p)
  next_at_most h n =
      number_at_most M N L n_shaped l_shaped n_same l_same p b
      (first_difference (slice_cmp nat_cmp) (lists_total nat_cmp_total) N.columns L.columns [] p
      (ap (λ (S : Shape). S.size) (n_same ∙ sym l_same)) (here M N n_shaped n_same p b)
      (λ j l. same_column M N L n_shaped l_shaped n_same l_same j (omega arith) (λ f i m o. h j f i l m o)) n)
