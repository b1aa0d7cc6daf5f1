-- A pivot: one column of the frame gives way to a column that the frame's columns are combined to.
use Rattle.std.proofs.Common.{◌≡◌, inl, inr, ℕ, ◌<◌, sym, ◌∙◌, ap, subst, cond}
use Rattle.std.specs.Bool.{◌==◌}
use Rattle.std.proofs.lemmas.Bool.{cases_eq}
use Rattle.matroid_theory.specs.Field.{IsField, plus, times}
use Rattle.matroid_theory.specs.Matrix.{Matrix, combination, sum_below}
use Rattle.matrix_lemmas.proofs.Sums.{same_number, other_number, sum_same, sum_plus, sum_one, times_zero, combination-scaled, plus_zero_right}
use Rattle.matrix_lemmas.proofs.Steps.{Independent, all_coefficients}

module _ (q : ℕ) (F : IsField q) (r : ℕ) (U : Matrix) (p : ℕ) (p_below : p < r) (B : ℕ → ℕ) (one : B p ≡ 1) where
  -- the column that comes
  abbrev pub base : ℕ → ℕ
  base i = combination q r U B i

  -- it takes the place p
  abbrev pub pivoted : Matrix
  pivoted i l = cond (l == p) (base i) (U i l)

  combination_plus : (a b : ℕ → ℕ) (i : ℕ) → combination q r U (λ l. plus q (a l) (b l)) i ≡ plus q (combination q r U a i) (combination q r U b i)
  combination_plus a b i =
      sum_same q F r (λ l. times q (U i l) (plus q (a l) (b l))) (λ l. plus q (times q (U i l) (a l)) (times q (U i l) (b l)))
      (λ l _. F.times_plus (U i l) (a l) (b l))
      ∙ sum_plus q F r (λ l. times q (U i l) (a l)) (λ l. times q (U i l) (b l))

  -- with these coefficients it is U with those that are 0 at p, and a p times the base
  split : (a : ℕ → ℕ) (i : ℕ) → combination q r pivoted a i ≡ plus q (combination q r U (λ l. cond (l == p) 0 (a l)) i) (times q (base i) (a p))
  split a i =
      sum_same q F r (λ l. times q (pivoted i l) (a l)) (λ l. plus q (times q (U i l) (cond (l == p) 0 (a l))) (cond (l == p) (times q (base i) (a p)) 0)) each
      ∙ sum_plus q F r (λ l. times q (U i l) (cond (l == p) 0 (a l))) (λ l. cond (l == p) (times q (base i) (a p)) 0)
      ∙ ap (plus q (combination q r U (λ l. cond (l == p) 0 (a l)) i)) alone
    where
      alone : sum_below q r (λ l. cond (l == p) (times q (base i) (a p)) 0) ≡ times q (base i) (a p)
      alone =
          sum_one q F r p (λ l. cond (l == p) (times q (base i) (a p)) 0) p_below
          (subst (λ x. x < q) (ap (λ b. cond b (times q (base i) (a p)) 0) (sym (same_number p))) (F.times_below (base i) (a p)))
          (λ l _ ne. ap (λ b. cond b (times q (base i) (a p)) 0) (other_number l p ne))
          ∙ ap (λ b. cond b (times q (base i) (a p)) 0) (same_number p)

      each : (l : ℕ) → l < r → times q (pivoted i l) (a l) ≡ plus q (times q (U i l) (cond (l == p) 0 (a l))) (cond (l == p) (times q (base i) (a p)) 0)
      each l b = elim (cases_eq l p) [
        | inl e ↦ subst (λ l. times q (pivoted i l) (a l) ≡ plus q (times q (U i l) (cond (l == p) 0 (a l))) (cond (l == p) (times q (base i) (a p)) 0)) (sym e)
            (ap (λ b. times q (cond b (base i) (U i p)) (a p)) (same_number p)
            ∙ sym (ap (λ b. plus q (times q (U i p) (cond b 0 (a p))) (cond b (times q (base i) (a p)) 0)) (same_number p)
            ∙ ap (λ x. plus q x (times q (base i) (a p))) (times_zero q F (U i p)) ∙ F.plus_zero (times q (base i) (a p)) (F.times_below (base i) (a p))))
        | inr n ↦ ap (λ b. times q (cond b (base i) (U i l)) (a l)) (other_number l p n)
            ∙ sym (ap (λ b. plus q (times q (U i l) (cond b 0 (a l))) (cond b (times q (base i) (a p)) 0)) (other_number l p n)
            ∙ plus_zero_right q F (times q (U i l) (a l)) (F.times_below (U i l) (a l)))
      ]

  -- the coefficients in U that say the same
  abbrev restored : (ℕ → ℕ) → ℕ → ℕ
  restored a l = plus q (cond (l == p) 0 (a l)) (times q (a p) (B l))

  same_combination : (a : ℕ → ℕ) (i : ℕ) → combination q r pivoted a i ≡ combination q r U (restored a) i
  same_combination a i =
      split a i
      ∙ sym (combination_plus (λ l. cond (l == p) 0 (a l)) (λ l. times q (a p) (B l)) i
      ∙ ap (plus q (combination q r U (λ l. cond (l == p) 0 (a l)) i)) (combination-scaled q F r U (a p) B i ∙ F.times_comm (a p) (base i)))

  -- ---- independence

  pub pivoted_independent : Independent q r r U → Independent q r r pivoted
  pivoted_independent h = record {
    only_zero = λ a c z l b. (let all : (l : ℕ) → l < r → restored a l ≡ 0 =
        h.only_zero (restored a) (all_coefficients q F r r r (restored a) (λ l _. F.plus_below _ _)) (λ i o. sym (same_combination a i) ∙ z i o) in
        let own : a p ≡ 0 = sym (ap (λ b. plus q (cond b 0 (a p)) (times q (a p) (B p))) (same_number p)
        ∙ F.plus_zero (times q (a p) (B p)) (F.times_below (a p) (B p))
        ∙ ap (times q (a p)) one ∙ F.times_comm (a p) 1 ∙ F.times_one (a p) (c.codes p p_below)) ∙ all p p_below in
        elim (cases_eq l p) [
          | inl e ↦ ap a e ∙ own
          | inr n ↦ sym (ap (λ b. plus q (cond b 0 (a l)) (times q (a p) (B l))) (other_number l p n)
              ∙ ap (λ x. plus q (a l) (times q x (B l))) own ∙ ap (plus q (a l)) (F.times_comm 0 (B l) ∙ times_zero q F (B l))
              ∙ plus_zero_right q F (a l) (c.codes l b)) ∙ all l b
        ]);
  }

  -- ---- the other columns: the coefficient at p stays, and its multiple of the base is taken from the others

  module _ (minus : ℕ → ℕ) (opposite : (l : ℕ) → l < r → plus q (B l) (minus l) ≡ 0) (S : ℕ → ℕ) (codes : (l : ℕ) → l < r → S l < q) where
    abbrev pub cleared : ℕ → ℕ
    cleared l = cond (l == p) (S p) (plus q (S l) (times q (S p) (minus l)))

    pub cleared_combined : (i : ℕ) → combination q r pivoted cleared i ≡ combination q r U S i
    cleared_combined i =
        same_combination cleared i
        ∙ sum_same q F r (λ l. times q (U i l) (restored cleared l)) (λ l. times q (U i l) (S l)) (λ l b. ap (times q (U i l)) (each l b))
      where
        at : cleared p ≡ S p
        at = ap (λ b. cond b (S p) (plus q (S p) (times q (S p) (minus p)))) (same_number p)

        each : (l : ℕ) → l < r → restored cleared l ≡ S l
        each l b = elim (cases_eq l p) [
          | inl e ↦ ap (λ b. plus q (cond b 0 (cleared l)) (times q (cleared p) (B l))) (ap (λ l. l == p) e ∙ same_number p)
              ∙ F.plus_zero (times q (cleared p) (B l)) (F.times_below (cleared p) (B l)) ∙ (λ t. times q (at t) (B (e t)))
              ∙ ap (times q (S p)) one ∙ F.times_comm (S p) 1 ∙ F.times_one (S p) (codes p p_below) ∙ ap S (sym e)
          | inr n ↦ ap (λ b. plus q (cond b 0 (cond b (S p) (plus q (S l) (times q (S p) (minus l))))) (times q (cleared p) (B l))) (other_number l p n)
              ∙ ap (λ x. plus q (plus q (S l) (times q (S p) (minus l))) (times q x (B l))) at
              ∙ F.plus_assoc (S l) (times q (S p) (minus l)) (times q (S p) (B l))
              ∙ ap (plus q (S l)) (sym (F.times_plus (S p) (minus l) (B l))
              ∙ ap (times q (S p)) (F.plus_comm (minus l) (B l) ∙ opposite l b) ∙ times_zero q F (S p))
              ∙ plus_zero_right q F (S l) (codes l b)
        ]
