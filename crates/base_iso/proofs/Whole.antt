-- Labels of all elements that carry bases to bases, of equally many, are an isomorphism.
use Rattle.std.proofs.Common.{◌≡◌, ◌≢◌, ℕ, zero, suc, ◌<◌, ◌≤◌, ◌^◌, sym, ◌∙◌, ap, subst, refl, arith, true, List, ◌∷◌, length, inl, inr}
use Rattle.std.specs.List.{AllPairs, Contains, slice_index, count_by}
use Rattle.std.proofs.lemmas.Bool.{cases_lt}
use Rattle.std.proofs.lemmas.List.{get_or_default}
use Rattle.std.proofs.lemmas.List.Elements.{All-contains}
use Rattle.matroid_theory.specs.Matroid.{members}
use Rattle.matroid_theory.specs.Minor.{Matroid, AreIsomorphicBy}
use Rattle.matroid_theory.specs.Move.{ArePermutation}
use Rattle.matrix_lemmas.proofs.Masks.{same_mask}
use Rattle.bases.specs.BaseLists.{IsBaseList}
use Rattle.base_iso.specs.Started.{AreLabels, IsImage, CarriesBases}
use Rattle.base_iso.specs.Counted.{AreAlike}
use Rattle.base_iso.proofs.Injections.{count_most, count_all, rising_apart}
use Rattle.base_iso.proofs.Places.{place, labels_permute, stands}
use Rattle.base_iso.proofs.Inverses.{relabelled, relabelled-below, relabelled-members, relabelled_apart, no_member}

module _ (M N : Matroid) (a : IsBaseList M) (s : AreAlike M N) (labels : List ℕ) (h : AreLabels M.size labels)
    (full : length labels ≡ M.size) (c : CarriesBases M N labels) where
  v : ArePermutation M.size (slice_index labels) (place labels)
  v = labels_permute M.size labels h full

  below : (X : ℕ) → Contains M.bases X → X < 2 ^ M.size
  below X m = All-contains (λ X. X < 2 ^ M.size) M.bases X a.below m

  image_by : (X Y : ℕ) → Y < 2 ^ M.size → ((j : ℕ) → j < M.size → members Y (slice_index labels j) ≡ members X j) → IsImage labels X Y
  image_by X Y l e = record {
    labelled = λ i m. e i (omega arith);
    others = λ j o. elim (cases_lt j M.size) [
      | inl m ↦ absurd (o (place labels j) (let i : place labels j < M.size = v.inverse_below j m in omega arith) (v.back j m))
      | inr g ↦ no_member M.size Y j l g
    ];
  }

  f : ℕ → ℕ
  f = relabelled M.size (slice_index labels) (place labels) v

  f-in : (X : ℕ) → Contains M.bases X → Contains N.bases (f X)
  unfolding f
  f-in X m = c X (f X) (subst (λ (n : ℕ). X < 2 ^ n) (sym full) (below X m)) m
      (image_by X (f X) (relabelled-below M.size (slice_index labels) (place labels) v X) (relabelled-members M.size (slice_index labels) (place labels) v X))

  -- a set whose image is a base is one, since there are no more bases than those
  back : (X Y : ℕ) → X < 2 ^ M.size → Y < 2 ^ M.size → ((j : ℕ) → j < M.size → members Y (slice_index labels j) ≡ members X j) →
      Contains N.bases Y → Contains M.bases X
  unfolding f
  back X Y l m e o = elim (stands M.bases X) [
    | inl y ↦ y
    | inr n ↦ absurd (too_many n)
  ]
    where
      is_image : f X ≡ Y
      is_image = same_mask M.size (f X) Y (relabelled-below M.size (slice_index labels) (place labels) v X) m
          (λ j k. ap (members (f X)) (sym (v.back j k))
          ∙ relabelled-members M.size (slice_index labels) (place labels) v X (place labels j) (v.inverse_below j k)
          ∙ sym (e (place labels j) (v.inverse_below j k)) ∙ ap (members Y) (v.back j k))

      mask_of : (Z : ℕ) → Contains (X ∷ M.bases) Z → Z < 2 ^ M.size
      mask_of Z (zero, k, q) = subst (λ Z. Z < 2 ^ M.size) q l
      mask_of Z (suc i, k, q) = below Z (i, omega arith, q)

      base_of : (Z : ℕ) → Contains (X ∷ M.bases) Z → Contains N.bases (f Z)
      base_of Z (zero, k, q) = subst (λ Z. Contains N.bases (f Z)) q (subst (Contains N.bases) (sym is_image) o)
      base_of Z (suc i, k, q) = f-in Z (i, omega arith, q)

      with_one : ((i : ℕ) → i < length M.bases → slice_index M.bases i ≢ X) → AllPairs (λ x y. x ≢ y) (X ∷ M.bases)
      with_one n zero zero d a b = absurd (omega arith)
      with_one n zero (suc k) d a b = λ e. n k (omega arith) (sym (get_or_default M.bases k d 0 (omega arith)) ∙ sym e)
      with_one n (suc i) zero d a b = absurd (omega arith)
      with_one n (suc i) (suc k) d x y = rising_apart M.bases a.rising i k d (omega arith) (omega arith)

      too_many : ((i : ℕ) → i < length M.bases → slice_index M.bases i ≢ X) → ⊥
      too_many n =
          let t : count_by (λ _. true) (X ∷ M.bases) ≤ count_by (λ _. true) N.bases = count_most (X ∷ M.bases) N.bases (with_one n) (λ _. true) (λ _. true) f
          (λ Z k y. (base_of Z k, refl)) (λ Z W k q e. relabelled_apart M.size (slice_index labels) (place labels) v Z W (mask_of Z k) (mask_of W q) e) in
          let x : count_by (λ _. true) (X ∷ M.bases) ≡ length (X ∷ M.bases) = count_all (X ∷ M.bases) in
          let y : count_by (λ _. true) N.bases ≡ length N.bases = count_all N.bases in
          let z : length N.bases ≡ length M.bases = s.bases in
          omega arith

  pub whole : AreIsomorphicBy M N (slice_index labels) (place labels)
  whole = record {
    ranks = s.ranks;
    sizes = s.sizes;
    labels = v;
    bases = λ X Y l m e. ((λ k. c X Y (subst (λ (n : ℕ). X < 2 ^ n) (sym full) l) k (image_by X Y m e)), back X Y l m e);
  }
