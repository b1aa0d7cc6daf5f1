-- The rising list of the sets that a test takes, mask by mask.
use Rattle.std.proofs.Common.{◌≡◌, ℕ, ◌+◌, ◌^◌, ◌<◌, sym, subst, arith, ◌↔◌, ◌⊎◌, Bool, true, false, inl, inr, List, [], ◌∷◌, ◌++◌, IsTrue, IsFalse, refl, ◌∙◌, not, Option, Some, None, is_some}
use Rattle.std.specs.List.{Contains}
use Rattle.std.specs.List.Sorted.{IsStrictlyIncreasing}
use Rattle.std.proofs.lemmas.Bool.{cases_lt, false≢true}
use mathlib.Core.Bool.{true≢false}
use Rattle.std.proofs.lemmas.List.Elements.{Contains-get_or, Contains-append_left, Contains-push, Contains-push_cases}
use Rattle.std.proofs.lemmas.List.Kept.{AllPairs-from_increasing}
use Rattle.std.proofs.lemmas.List.Quantifiers.{all_pairs_push}
use Rattle.matroid_theory.specs.Matrix.{size_below}
use Rattle.matroid_theory.specs.Matroid.{members}
use Rattle.column_sets.specs.Sets.{IsSetOfSize, AreMasks, AreTaken, IsFirstTaken}

-- the same of the masks below m alone
pub record AreTakenBelow (m n k : ℕ) (answers : ℕ → Bool → Type 0) (masks : List ℕ) : Type 0 where
  pub rising : IsStrictlyIncreasing masks
  pub below : (X : ℕ) → Contains masks X → X < m
  pub taken : (X : ℕ) → Contains masks X → IsSetOfSize n k X × answers X true
  pub complete : (X : ℕ) → X < m → IsSetOfSize n k X → Contains masks X ⊎ answers X false

-- before the first mask
pub none_taken : (n k : ℕ) (answers : ℕ → Bool → Type 0) (masks : List ℕ) → masks ≡ [] → AreTakenBelow 0 n k answers masks
none_taken n k answers masks e = subst (λ (v : List ℕ). AreTakenBelow 0 n k answers v) (sym e) (record {
  rising = λ i l. absurd (omega arith);
  below = λ X c. absurd (let l : c.0 < 0 = c.1 in omega arith);
  taken = λ X c. absurd (let l : c.0 < 0 = c.1 in omega arith);
  complete = λ X l. absurd (omega arith);
})

module _ (m n k : ℕ) (answers : ℕ → Bool → Type 0) (masks : List ℕ) (h : AreTakenBelow m n k answers masks) where
  -- one more mask, taken or not
  pub more_taken : (v : List ℕ) → v ≡ masks ++ m ∷ [] → IsSetOfSize n k m → answers m true → AreTakenBelow (m + 1) n k answers v
  more_taken v e s a = subst (λ (v : List ℕ). AreTakenBelow (m + 1) n k answers v) (sym e) (record {
    rising = λ i l. all_pairs_push (λ x y. x < y) masks m (AllPairs-from_increasing masks h.rising)
        (λ i d o. h.below _ (Contains-get_or masks i d o)) i (i + 1) 0 (omega arith) l;
    below = λ X c. elim (Contains-push_cases masks m X c) [ inl o ↦ (let l : X < m = h.below X o in omega arith) | inr s ↦ omega arith ];
    taken = λ X c. elim (Contains-push_cases masks m X c) [ inl o ↦ h.taken X o | inr d ↦ subst (λ (x : ℕ). IsSetOfSize n k x × answers x true) d (s, a) ];
    complete = λ X l d. elim (cases_lt X m) [
      | inl b ↦ elim (h.complete X b d) [ inl c ↦ inl (Contains-append_left masks (m ∷ []) X c) | inr f ↦ inr f ]
      | inr g ↦ inl (let s : m ≡ X = omega arith in subst (λ (x : ℕ). Contains (masks ++ m ∷ []) x) s (Contains-push masks m))
    ];
  })

  pub same_taken : (v : List ℕ) → v ≡ masks → (IsSetOfSize n k m → answers m false) → AreTakenBelow (m + 1) n k answers v
  same_taken v e out = subst (λ (v : List ℕ). AreTakenBelow (m + 1) n k answers v) (sym e) (record {
    rising = h.rising;
    below = λ X c. (let l : X < m = h.below X c in omega arith);
    taken = h.taken;
    complete = λ X l d. elim (cases_lt X m) [
      | inl b ↦ h.complete X b d
      | inr g ↦ inr (let s : m ≡ X = omega arith in subst (λ (x : ℕ). answers x false) s (out (subst (IsSetOfSize n k) (sym s) d)))
    ];
  })

  -- after the last
  pub all_taken : m ≡ 2 ^ n → AreTaken n k answers masks
  all_taken e = record { rising = h.rising; taken = h.taken; complete = λ X d. h.complete X (let b : X < 2 ^ n = d.below in omega arith) d }

-- whether a set with P was found, where the answers say whether it holds
pub set_found : (D : ℕ → Type 0) (answers : ℕ → Bool → Type 0) (P : ℕ → Type 0) (r : Option ℕ) (b : Bool) → b ≡ is_some r →
    ((X : ℕ) → D X → (a : Bool) → answers X a → IsTrue a ↔ P X) → IsFirstTaken D answers r
    → IsTrue b ↔ ((X : ℕ) × D X × P X)
set_found D answers P None b e says m = (λ t. absurd (false≢true (sym e ∙ t)), λ w. absurd (false≢true ((says w.0 w.1 false (m.none refl w.0 w.1)).1 w.2)))
set_found D answers P (Some X) b e says m = (λ _. (X, m.taken.0, (says X m.taken.0 true m.taken.1).0 refl), λ _. e)

-- whether all sets have Q, where the answers say whether one hasn't
pub no_set_found : (D : ℕ → Type 0) (answers : ℕ → Bool → Type 0) (Q : ℕ → Type 0) (r : Option ℕ) (b : Bool) → is_some r ≡ not b →
    ((X : ℕ) → D X → (a : Bool) → answers X a → IsFalse a ↔ Q X) → IsFirstTaken D answers r
    → IsTrue b ↔ ((X : ℕ) → D X → Q X)
no_set_found D answers Q None true e says m = (λ _ X d. (says X d false (m.none refl X d)).0 refl, λ _. refl)
no_set_found D answers Q None false e says m = absurd (false≢true e)
no_set_found D answers Q (Some X) true e says m = absurd (true≢false e)
no_set_found D answers Q (Some X) false e says m = (λ t. absurd (false≢true t), λ h. absurd (true≢false ((says X m.taken.0 true m.taken.1).1 (h X m.taken.0))))

-- where the answers say whether P holds, the list has exactly the sets with P
pub masks_of_taken : (n k : ℕ) (answers : ℕ → Bool → Type 0) (P : ℕ → Type 0) (masks : List ℕ) →
    ((X : ℕ) → IsSetOfSize n k X → (b : Bool) → answers X b → IsTrue b ↔ P X) → AreTaken n k answers masks
    → AreMasks n (λ X. (size_below n (members X) ≡ k) × P X) masks
masks_of_taken n k answers P masks says h = record {
  rising = h.rising;
  exact = λ X. (
    (λ c. let t = h.taken X c in let s : IsSetOfSize n k X = t.0 in (s.below, (s.elements, (says X s true t.1).0 refl))),
    (λ w. let s : IsSetOfSize n k X = record { below = w.0; elements = w.1.0 } in
        elim (h.complete X s) [ inl c ↦ c | inr f ↦ absurd (false≢true ((says X s false f).1 w.1.1)) ]),
  );
}

-- and the sets with Q, where P and Q are the same
pub masks_same : (n : ℕ) (P Q : ℕ → Type 0) (masks : List ℕ) → ((X : ℕ) → X < 2 ^ n → P X ↔ Q X) → AreMasks n P masks → AreMasks n Q masks
masks_same n P Q masks same h = record {
  rising = h.rising;
  exact = λ X. (
    (λ c. let w = (h.exact X).0 c in (w.0, (same X w.0).0 w.1)),
    (λ w. (h.exact X).1 (w.0, (same X w.0).1 w.1)),
  );
}
