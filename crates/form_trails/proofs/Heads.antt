-- Which columns lie in the rows from k on after a pivot: those that agree with the chosen one in the rows up to k.
use Rattle.std.proofs.Common.{◌≡◌, ◌≢◌, inl, inr, ℕ, zero, ◌<◌, ◌≤◌, sym, ◌∙◌, ap, arith, cond}
use Rattle.std.proofs.lemmas.Bool.{cases_lt, cases_eq}
use Rattle.matroid_theory.specs.Field.{IsField, plus, times}
use Rattle.matroid_theory.specs.Rep.{Rep, count, order, IsShaped}
use Rattle.matrix_lemmas.proofs.Sums.{same_number, other_number, plus_cancel, times_zero, zero_times}
use Rattle.matroid_theory.specs.Exchange.{exchange}
use Rattle.form_trails.specs.Pivot.{cleared, pivoted}
use Rattle.matrix_lemmas.proofs.Exchanges.{exchange_one, exchange_two, exchange_other}
use Rattle.form_trails.proofs.Entries.{field}

module _ (M : Rep) (shaped : IsShaped M) (p k : ℕ) (p_most : p ≤ k) (k_below : k < M.rank) (minus e : ℕ → ℕ → ℕ) where
  abbrev F : (f : ℕ) → f < count M → IsField (order M f)
  F f l = field M shaped f l

  -- the rows after k
  pub pivoted_after : (f i : ℕ) → k < i → pivoted M p k minus e f i ≡ plus (order M f) (e f i) (times (order M f) (e f p) (minus f i))
  pivoted_after f i g =
      ap (cleared M p minus e f) (exchange_other p k i (λ e. absurd (omega arith)) (λ e. absurd (omega arith)))
      ∙ ap (λ b. cond b (e f p) (plus (order M f) (e f i) (times (order M f) (e f p) (minus f i)))) (other_number i p (λ e. absurd (omega arith)))

  -- row k
  pub pivoted_here : (f : ℕ) → pivoted M p k minus e f k ≡ e f p
  pivoted_here f = ap (cleared M p minus e f) (exchange_two p k)
      ∙ ap (λ b. cond b (e f p) (plus (order M f) (e f p) (times (order M f) (e f p) (minus f p)))) (same_number p)

  -- the rows before k have the other rows up to k
  pub before_from : (i : ℕ) → i < k → (exchange p k i ≤ k) × (exchange p k i ≢ p)
  before_from i l = elim (cases_eq i p) [
    | inl o ↦ (let z : exchange p k i ≡ k = ap (exchange p k) o ∙ exchange_one p k in (omega arith, λ q. (let y : k ≡ p = sym z ∙ q in absurd (omega arith))))
    | inr n ↦ (let z : exchange p k i ≡ i = exchange_other p k i n (λ e. absurd (omega arith)) in (omega arith, λ q. n (sym z ∙ q)))
  ]

  pub before_onto : (j : ℕ) → j ≤ k → j ≢ p → (i : ℕ) × (i < k) × (exchange p k i ≡ j)
  before_onto j l n = elim (cases_eq j k) [
    | inl o ↦ (p, (let m : p ≢ k = (λ q. n (o ∙ sym q)) in omega arith), exchange_one p k ∙ sym o)
    | inr m ↦ (j, omega arith, exchange_other p k j n m)
  ]

  cleared_other : (f j : ℕ) → j ≢ p → cleared M p minus e f j ≡ plus (order M f) (e f j) (times (order M f) (e f p) (minus f j))
  cleared_other f j n = ap (λ b. cond b (e f p) (plus (order M f) (e f j) (times (order M f) (e f p) (minus f j)))) (other_number j p n)

  module _ (c : ℕ → ℕ → ℕ) (c_code : (f i : ℕ) → f < count M → i < M.rank → c f i < order M f)
      (e_code : (f i : ℕ) → f < count M → i < M.rank → e f i < order M f)
      (m_code : (f i : ℕ) → f < count M → i < M.rank → minus f i < order M f)
      (opposite : (f i : ℕ) → f < count M → i < M.rank → plus (order M f) (c f i) (minus f i) ≡ 0) (ones : (f : ℕ) → f < count M → c f p ≡ 1) where
    -- where the columns agree up to row k
    module _ (same : (f i : ℕ) → f < count M → i ≤ k → e f i ≡ c f i) where
      one : (f : ℕ) → f < count M → e f p ≡ 1
      one f l = same f p l p_most ∙ ones f l

      pub layer_before : (f i : ℕ) → f < count M → i < k → pivoted M p k minus e f i ≡ 0
      layer_before f i l b =
          let w = before_from i b in
          let w0 : exchange p k i ≤ k = w.0 in
          let j_below : exchange p k i < M.rank = omega arith in
          cleared_other f (exchange p k i) w.1
          ∙ (λ t. plus (order M f) (same f (exchange p k i) l w.0 t) (times (order M f) (one f l t) (minus f (exchange p k i))))
          ∙ ap (plus (order M f) (c f (exchange p k i))) (let G = F f l in G.times_one (minus f (exchange p k i)) (m_code f (exchange p k i) l j_below))
          ∙ opposite f (exchange p k i) l j_below

      pub layer_here : (f : ℕ) → f < count M → pivoted M p k minus e f k ≡ 1
      layer_here f l = pivoted_here f ∙ one f l

      pub layer_after : (f i : ℕ) → f < count M → k < i → i < M.rank → pivoted M p k minus e f i ≡ plus (order M f) (e f i) (minus f i)
      layer_after f i l g b =
          pivoted_after f i g ∙ ap (λ y. plus (order M f) (e f i) (times (order M f) y (minus f i))) (one f l)
          ∙ ap (plus (order M f) (e f i)) (let G = F f l in G.times_one (minus f i) (m_code f i l b))

    -- where the pivot leaves nothing before row k, the column is a multiple of the chosen one up to row k
    module _ (none : (f i : ℕ) → f < count M → i < k → pivoted M p k minus e f i ≡ 0) where
      multiple : (f j : ℕ) → f < count M → j ≤ k → e f j ≡ times (order M f) (e f p) (c f j)
      multiple f j l b = let G = F f l in elim (cases_eq j p) [
        | inl o ↦ ap (e f) o ∙ sym
            (ap (λ j. times (order M f) (e f p) (c f j)) o ∙ ap (times (order M f) (e f p)) (ones f l) ∙ G.times_comm (e f p) 1
            ∙ G.times_one (e f p) (e_code f p l (omega arith)))
        | inr n ↦ (let (i, bi, z) = before_onto j b n in
            plus_cancel (order M f) G (times (order M f) (e f p) (minus f j)) (e f j) (times (order M f) (e f p) (c f j))
            (e_code f j l (omega arith)) (G.times_below _ _)
            (G.plus_comm (times (order M f) (e f p) (minus f j)) (e f j) ∙ sym (cleared_other f j n) ∙ ap (cleared M p minus e f) (sym z) ∙ none f i l bi
            ∙ sym (sym (G.times_plus (e f p) (minus f j) (c f j))
            ∙ ap (times (order M f) (e f p)) (G.plus_comm (minus f j) (c f j) ∙ opposite f j l (omega arith))
            ∙ times_zero (order M f) G (e f p))))
      ]

      -- if both begin with 1 in every factor, and the chosen one at row p, they agree
      pub head_same : ((f i : ℕ) → f < count M → i < p → c f i ≡ 0) → (t : ℕ) → t ≤ k → ((f : ℕ) → f < count M → e f t ≡ 1) →
          ((f i : ℕ) → f < count M → i < t → e f i ≡ 0)
          → (f j : ℕ) → f < count M → j ≤ k → e f j ≡ c f j
      head_same zc t bt one ze f j l b = let G = F f l in
          multiple f j l b ∙ ap (λ y. times (order M f) y (c f j)) at_p ∙ G.times_one (c f j) (c_code f j l (omega arith))
        where
          -- the lead of the column is row p
          at_p : e f p ≡ 1
          at_p = elim (cases_lt t p) [
            | inl q ↦ (let n : zero ≡ 1 =
                sym (multiple f t l bt ∙ ap (times (order M f) (e f p)) (zc f t l q) ∙ times_zero (order M f) (F f l) (e f p))
                ∙ one f l in absurd (omega arith))
            | inr g ↦ elim (cases_lt p t) [
              | inl q ↦ (let n : zero ≡ 1 =
                  sym (multiple f t l bt ∙ ap (λ y. times (order M f) y (c f t)) (ze f p l q)
                  ∙ zero_times (order M f) (F f l) (c f t)) ∙ one f l in absurd (omega arith))
              | inr g' ↦ (let o : t ≡ p = omega arith in ap (e f) (sym o) ∙ one f l)
            ]
          ]
