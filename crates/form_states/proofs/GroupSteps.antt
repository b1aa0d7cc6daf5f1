-- The factors of groups and their marks, row by row.
use Rattle.std.proofs.Common.{◌≡◌, ◌≢◌, ◌⊎◌, inl, inr, refl, ℕ, ◌+◌, ◌*◌, ◌/◌, ◌%◌, ◌<◌, ◌≤◌, Bool, true, false, List, [], length, slice_index, slice_index_or, sym, ◌∙◌, ap, subst, arith}
use Rattle.std.specs.List.{slice_set}
use Rattle.std.proofs.lemmas.Bool.{cases_lt, cases_eq}
use Rattle.std.proofs.lemmas.List.{get_or-set_same, get_or-set_other}
use Rattle.matroid_theory.specs.Field.{times}
use Rattle.std.proofs.Math.Nat.{mod-lt}
use Rattle.matroid_laws.proofs.First.{row_below}
use Rattle.form_trails.proofs.Numbers.{weighed_same}
use Rattle.form_states.specs.Codes.{code}
use Rattle.form_states.specs.Groups.{AreGroupFactors, MarksGroups}
use Rattle.form_states.specs.States.{IsScaledNumber}

-- the same of the rows below i, where the marked groups have been seen
pub record AreFactorsSoFar (fields : List ℕ) (count : ℕ) (groups : ℕ → ℕ) (i : ℕ) (c : ℕ → ℕ → ℕ) (seen : List Bool) (factors : ℕ → ℕ → ℕ) : Type 0 where
  pub factors_are : AreGroupFactors fields count groups i c factors
  pub unseen : (j : ℕ) → j < i → slice_index_or seen (groups j) false ≡ false → c 0 j ≡ 0
  pub found : (g : ℕ) → g < 6 → slice_index_or seen g false ≡ true → (j : ℕ) × (j < i) × (groups j ≡ g) × (c 0 j ≢ 0)

differ : true ≡ false → ⊥
differ e = cc

-- a list set at a place
pub set_at : {X : Type 0} (xs : List X) (p : ℕ) (x z : X) (q : ℕ) → p < length xs → (P : X → Type 0) → (q ≡ p → P x) → (q ≢ p → P (slice_index_or xs q z)) →
    P (slice_index_or (slice_set xs p x) q z)
set_at xs p x z q l P own other = elim (cases_eq q p) [
  | inl e ↦ subst P (sym (ap (λ q. slice_index_or (slice_set xs p x) q z) e ∙ get_or-set_same xs p x z l)) (own e)
  | inr n ↦ subst P (sym (get_or-set_other xs p q x z n)) (other n)
]

module _ (fields : List ℕ) (count : ℕ) (few : count ≤ 3) (groups : ℕ → ℕ) (i : ℕ) (c : ℕ → ℕ → ℕ) (seen : List Bool) (factors : List (List ℕ))
    (group_below : (j : ℕ) → j < 6 → groups j < 6) (i_below : i < 6)
    (h : AreFactorsSoFar fields count groups i c seen (code factors)) where
  -- a row that is 0, or whose group was seen
  pub factors_passed : (c 0 i ≡ 0) ⊎ (slice_index_or seen (groups i) false ≡ true) → AreFactorsSoFar fields count groups (i + 1) c seen (code factors)
  factors_passed w = record {
    factors_are = let a = h.factors_are in record {
      nonzero = a.nonzero;
      leads = λ j l z n. elim (cases_lt j i) [
        | inl b ↦ a.leads j b z n
        | inr b ↦ (let e : j ≡ i = omega arith in absurd (elim w [
          | inl o ↦ n (ap (c 0) e ∙ o)
          | inr s ↦ (let (j', b', g, n') = h.found (groups i) (group_below i i_below) s in n' (z j' (omega arith) (g ∙ ap groups (sym e))))
        ]))
      ];
    };
    unseen = λ j l u. elim (cases_lt j i) [
      | inl b ↦ h.unseen j b u
      | inr b ↦ (let e : j ≡ i = omega arith in elim w [
        | inl o ↦ ap (c 0) e ∙ o
        | inr s ↦ absurd
            (differ (sym s ∙ ap (λ j. slice_index_or seen (groups j) false) (sym e) ∙ u))
      ])
    ];
    found = λ g l s. (let (j, b, e, n) = h.found g l s in (j, omega arith, e, n));
  }

  -- the first row of its group that isn't 0
  pub factors_taken : c 0 i ≢ 0 → slice_index_or seen (groups i) false ≡ false → length seen ≡ 6 → length factors ≡ 6 → (own : List ℕ) →
      ((f : ℕ) → f < 3 → slice_index own f ≢ 0)
      → ((f : ℕ) → f < count → c f i ≢ 0 → times (slice_index fields f) (slice_index own f) (c f i) ≡ 1)
      → AreFactorsSoFar fields count groups (i + 1) c (slice_set seen (groups i) true) (code (slice_set factors (groups i) own))
  factors_taken n u ls lf own on one = record {
    factors_are = let a = h.factors_are in record {
      nonzero = λ f g lt b. set_at factors (groups i) own [] g (let q : groups i < 6 = group_below i i_below in omega arith) (λ row. slice_index row f ≢ 0)
          (λ _. on f lt) (λ _. a.nonzero f g lt b);
      leads = λ j l z nj f lt nf. set_at factors (groups i) own [] (groups j) (let q : groups i < 6 = group_below i i_below in omega arith)
          (λ row. times (slice_index fields f) (slice_index row f) (c f j) ≡ 1)
          (λ e. elim (cases_lt j i) [
            | inl b ↦ absurd (nj (h.unseen j b (ap (λ g. slice_index_or seen g false) e ∙ u)))
            | inr b ↦ (let o : j ≡ i = omega arith in ap (λ j. times (slice_index fields f) (slice_index own f) (c f j)) o ∙ one f lt
                (λ y. nf (ap (c f) o ∙ y)))
          ])
          (λ e. elim (cases_lt j i) [
            | inl b ↦ a.leads j b z nj f lt nf
            | inr b ↦ absurd (e (let o : j ≡ i = omega arith in ap groups o))
          ]);
    };
    unseen = λ j l. set_at seen (groups i) true false (groups j) (let q : groups i < 6 = group_below i i_below in omega arith) (λ b. b ≡ false → c 0 j ≡ 0)
        (λ _ e. absurd (differ e)) (λ e v. elim (cases_lt j i) [ inl b ↦ h.unseen j b v | inr b ↦ absurd (e (let o : j ≡ i = omega arith in ap groups o)) ]);
    found = λ g l. set_at seen (groups i) true false g (let q : groups i < 6 = group_below i i_below in omega arith)
        (λ b. b ≡ true → (j : ℕ) × (j < i + 1) × (groups j ≡ g) × (c 0 j ≢ 0))
        (λ e _. (i, omega arith, sym e, n)) (λ _ s. (let (j, b, e, n') = h.found g l s in (j, omega arith, e, n')));
  }

-- ---- marks of the groups that are met

module _ (groups : ℕ → ℕ) (i : ℕ) (c : ℕ → ℕ → ℕ) (met : List Bool) (group_below : (j : ℕ) → j < 6 → groups j < 6) (i_below : i < 6)
    (h : MarksGroups groups i c met) where
  pub marks_passed : c 0 i ≡ 0 → MarksGroups groups (i + 1) c met
  marks_passed z = record {
    marked = λ j l n. elim (cases_lt j i) [ inl b ↦ h.marked j b n | inr b ↦ absurd (n (let e : j ≡ i = omega arith in ap (c 0) e ∙ z)) ];
    found = λ g l s. (let (j, b, e, n) = h.found g l s in (j, omega arith, e, n));
  }

  pub marks_taken : c 0 i ≢ 0 → length met ≡ 6 → MarksGroups groups (i + 1) c (slice_set met (groups i) true)
  marks_taken n lm = record {
    marked = λ j l nj. set_at met (groups i) true false (groups j) (let q : groups i < 6 = group_below i i_below in omega arith) (λ b. b ≡ true) (λ _. refl)
        (λ e. elim (cases_lt j i) [ inl b ↦ h.marked j b nj | inr b ↦ absurd (e (let o : j ≡ i = omega arith in ap groups o)) ]);
    found = λ g l. set_at met (groups i) true false g (let q : groups i < 6 = group_below i i_below in omega arith)
        (λ b. b ≡ true → (j : ℕ) × (j < i + 1) × (groups j ≡ g) × (c 0 j ≢ 0))
        (λ e _. (i, omega arith, sym e, n)) (λ _ s. (let (j, b, e, n') = h.found g l s in (j, omega arith, e, n')));
  }

-- ---- columns with the same codes

-- factors of groups for a column are factors for the same column
pub factors_same : (fields : List ℕ) (count rows : ℕ) (groups : ℕ → ℕ) (c v own : ℕ → ℕ → ℕ) → 1 ≤ count → ((f i : ℕ) → f < count → i < rows → c f i ≡ v f i)
    → AreGroupFactors fields count groups rows c own → AreGroupFactors fields count groups rows v own
factors_same fields count rows groups c v own one e w = record {
  nonzero = w.nonzero;
  leads = λ i l z n f m k.
      ap (times (slice_index fields f) (own f (groups i))) (sym (e f i m l))
      ∙ w.leads i l (λ j b o. e 0 j (omega arith) (omega arith) ∙ z j b o) (λ o. n (sym (e 0 i (omega arith) l) ∙ o)) f m (λ o. k (sym (e f i m l) ∙ o));
}

-- and its number is the same
pub scaled_same : (fields : List ℕ) (count rows : ℕ) (groups : ℕ → ℕ) (c v : ℕ → ℕ → ℕ) (n : ℕ) → 1 ≤ count → ((f i : ℕ) → f < count → i < rows → c f i ≡ v f i)
    → IsScaledNumber fields groups count rows c n → IsScaledNumber fields groups count rows v n
scaled_same fields count rows groups c v n one e w = record {
  own = w.own;
  own_code = w.own_code;
  own_factors = factors_same fields count rows groups c v w.own one e w.own_factors;
  number_is = w.number_is ∙ weighed_same (λ e. times (slice_index fields (e % count)) (w.own (e % count) (groups (e / count))) (c (e % count) (e / count)))
      (λ e. times (slice_index fields (e % count)) (w.own (e % count) (groups (e / count))) (v (e % count) (e / count))) (rows * count)
      (λ k l. ap (times (slice_index fields (k % count)) (w.own (k % count) (groups (k / count))))
      (e (k % count) (k / count) (mod-lt k (let y : 0 < count = omega arith in y)) (row_below k count rows (let y : 0 < count = omega arith in y) l)));
}
