-- The columns that aren't in the basis, by a walk over the columns.
use Rattle.std.proofs.Common.{◌≡◌, ℕ, ◌+◌, ◌<◌, ◌≤◌, sym, ◌∙◌, ap, subst, arith, ◌↔◌, inl, inr, List, [], ◌∷◌, ◌++◌, length, length-append, true, nat_eq, eqb-true, eq-eqb}
use Rattle.std.specs.List.{Contains, list_any, slice_index, slice_index_or}
use Rattle.std.proofs.lemmas.List.Folds.{list_any_at}
use Rattle.std.proofs.lemmas.Map.Views.{Contains-from_any}
use Rattle.std.specs.List.Sorted.{IsStrictlyIncreasing}
use Rattle.std.proofs.lemmas.Bool.{cases_lt}
use Rattle.std.proofs.lemmas.List.Elements.{Contains-get_or, Contains-append_left, Contains-push, Contains-push_cases}
use Rattle.std.proofs.lemmas.List.Kept.{AllPairs-from_increasing}
use Rattle.std.proofs.lemmas.List.Quantifiers.{all_pairs_push}
use Rattle.std.proofs.Math.Seq.{get_or-append_seam}
use Rattle.std.proofs.Math.ListN.{get_or-append}
use Rattle.matroid_theory.specs.Rep.{Rep, size}
use Rattle.canonical_form.specs.Search.{AreCoordinates, AreOtherCoordinates}

-- the coordinates of the columns before column n that aren't in the basis
pub record AreOthersBelow (M : Rep) (basis : List ℕ) (n : ℕ) (coordinates : List (List ℕ)) : Type 0 where
  pub others : List ℕ
  pub rising : IsStrictlyIncreasing others
  pub exact : (k : ℕ) → Contains others k ↔ ((k < n) × ¬ (Contains basis k))
  pub few : length others ≤ n
  pub numbers : length coordinates ≡ length others
  pub each : (t : ℕ) → t < length others → AreCoordinates M basis (slice_index others t) (slice_index_or coordinates t [])

pub no_others : (M : Rep) (basis : List ℕ) (w : List (List ℕ)) → w ≡ [] → AreOthersBelow M basis 0 w
no_others M basis w e = record {
  others = [];
  rising = λ k l. absurd (omega arith);
  exact = λ k. ((λ (i, l, s). absurd (omega arith)), (λ (l, o). absurd (omega arith)));
  few = omega arith;
  numbers = ap (λ (w : List (List ℕ)). length w) e;
  each = λ t l. absurd (omega arith);
}

module _ (M : Rep) (basis : List ℕ) (n : ℕ) (coordinates : List (List ℕ)) (h : AreOthersBelow M basis n coordinates) where
  -- one more column, in the basis or not
  pub more_others : (v : List (List ℕ)) (x : List ℕ) → v ≡ coordinates ++ x ∷ [] → ¬ (Contains basis n) →
      AreCoordinates M basis n x → AreOthersBelow M basis (n + 1) v
  more_others v x e out c =
      let len : length (h.others ++ n ∷ []) ≡ length h.others + 1 = length-append h.others (n ∷ []) in
      let few : length h.others ≤ n = h.few in
      let numbers : length coordinates ≡ length h.others = h.numbers in
      record {
        others = h.others ++ n ∷ [];
        rising = λ k l. all_pairs_push (λ x y. x < y) h.others n (AllPairs-from_increasing h.others h.rising)
            (λ i d m. ((h.exact _).0 (Contains-get_or h.others i d m)).0) k (k + 1) 0 (omega arith) l;
        exact = λ X. (
          (λ c. elim (Contains-push_cases h.others n X c) [
            | inl o ↦ (let w : (X < n) × ¬ (Contains basis X) = (h.exact X).0 o in let l : X < n = w.0 in (omega arith, w.1))
            | inr s ↦ (omega arith, subst (λ (x : ℕ). ¬ (Contains basis x)) s out)
          ]),
          (λ w. elim (cases_lt X n) [
            | inl l ↦ Contains-append_left h.others (n ∷ []) X ((h.exact X).1 (l, w.1))
            | inr g ↦ (let l : X < n + 1 = w.0 in let s : n ≡ X = omega arith in
                subst (λ (x : ℕ). Contains (h.others ++ n ∷ []) x) s (Contains-push h.others n))
          ]),
        );
        few = omega arith;
        numbers = ap (λ (w : List (List ℕ)). length w) e ∙ length-append coordinates (x ∷ []) ∙ ap (λ (m : ℕ). m + 1) h.numbers ∙ sym len;
        each = λ t l. subst (λ (w : List (List ℕ)). AreCoordinates M basis (slice_index (h.others ++ n ∷ []) t) (slice_index_or w t [])) (sym e)
            (elim (cases_lt t (length h.others)) [
              | inl b ↦ subst (λ (k : ℕ). AreCoordinates M basis k (slice_index_or (coordinates ++ x ∷ []) t [])) (sym (get_or-append h.others (n ∷ []) 0 t b))
                  (subst (AreCoordinates M basis (slice_index h.others t)) (sym (get_or-append coordinates (x ∷ []) [] t (omega arith))) (h.each t b))
              | inr g ↦ (let s : length h.others ≡ t = omega arith in let s' : length coordinates ≡ t = omega arith in
                  subst (λ (k : ℕ). AreCoordinates M basis k (slice_index_or (coordinates ++ x ∷ []) t []))
                  (sym (ap (slice_index (h.others ++ n ∷ [])) (sym s) ∙ get_or-append_seam h.others n [] 0))
                  (subst (AreCoordinates M basis n)
                  (sym (ap (λ (i : ℕ). slice_index_or (coordinates ++ x ∷ []) i []) (sym s') ∙ get_or-append_seam coordinates x [] [])) c))
            ]);
      }

  pub same_others : Contains basis n → AreOthersBelow M basis (n + 1) coordinates
  same_others b = record {
    others = h.others;
    rising = h.rising;
    exact = λ X. (
      (λ c. let w : (X < n) × ¬ (Contains basis X) = (h.exact X).0 c in let l : X < n = w.0 in (omega arith, w.1)),
      (λ w. elim (cases_lt X n) [
        | inl l ↦ (h.exact X).1 (l, w.1)
        | inr g ↦ (let l : X < n + 1 = w.0 in let s : n ≡ X = omega arith in absurd (w.1 (subst (λ (x : ℕ). Contains basis x) s b)))
      ]),
    );
    few = (let few : length h.others ≤ n = h.few in omega arith);
    numbers = h.numbers;
    each = h.each;
  }

  -- after the last
  pub all_others : n ≡ size M → AreOtherCoordinates M basis coordinates
  all_others e = record {
    others = h.others;
    are_others = record { rising = h.rising; exact = subst (λ (m : ℕ). (X : ℕ) → Contains h.others X ↔ ((X < m) × ¬ (Contains basis X))) e h.exact };
    count_is = h.numbers;
    each = h.each;
  }

-- what a slice's `contains` answers
pub contains_by_any : (xs : List ℕ) (k : ℕ) → (list_any (λ y. nat_eq y k) xs ≡ true) ↔ Contains xs k
contains_by_any xs k = (
  Contains-from_any {eq = λ x y. nat_eq y x} (λ x y e. sym (eqb-true y x e)) k xs,
  λ (i, l, e). list_any_at (λ y. nat_eq y k) xs i k l (eq-eqb (slice_index_or xs i k) k e),
)
