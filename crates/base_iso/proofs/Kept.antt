-- What an isomorphism keeps: the number of bases, and the numbers of bases that hold given elements.
use Rattle.std.proofs.Common.{◌≡◌, ℕ, zero, suc, ◌+◌, ◌-◌, ◌<◌, ◌≤◌, ◌^◌, sym, ◌∙◌, ap, subst, refl, arith, Bool, true, cond, ◌&&◌, List, [], ◌∷◌, length}
use Rattle.std.specs.Bool.{◌==◌}
use Rattle.std.specs.List.{Contains, slice_index, count_by}
use Rattle.std.proofs.lemmas.Bool.{and_parts, and_from}
use Rattle.std.proofs.lemmas.List.Elements.{All-contains}
use Rattle.std.proofs.lemmas.List.Sums.{sum_by-cons}
use Rattle.arrayvec.specs.ArrayVec.{ArrayVec}
use Rattle.matroid_theory.specs.Matrix.{size_below}
use Rattle.matroid_theory.specs.Matroid.{members}
use Rattle.matroid_theory.specs.Minor.{Matroid, AreIsomorphicBy}
use Rattle.matrix_lemmas.proofs.Counts.{size_relabelled}
use Rattle.matrix_lemmas.proofs.Masks.{size-same}
use Rattle.bases.specs.BaseLists.{IsBaseList}
use Rattle.base_iso.specs.Started.{Begins}
use Rattle.base_iso.specs.Counted.{pair_count, row, AreDegrees, ArePairCounts, IsSquare, KeepsLastCounts, AreAlike}
use Rattle.base_iso.proofs.Injections.{count_most, count_all, rising_apart}
use Rattle.base_iso.proofs.Rising.{rising_same}
use Rattle.base_iso.proofs.Inverses.{relabelled, relabelled-below, relabelled-members, relabelled_apart, inverse_isomorphism}

-- the bases that pass P go one to one to bases that pass Q, where sets that pass P go to sets that pass Q
pub passing_most : (M N : Matroid) (p u : ℕ → ℕ) → AreIsomorphicBy M N p u → IsBaseList M → (P Q : ℕ → Bool)
    → ((X Y : ℕ) → X < 2 ^ M.size → Y < 2 ^ M.size → ((j : ℕ) → j < M.size → members Y (p j) ≡ members X j) → P X ≡ true →
    Q Y ≡ true) → count_by P M.bases ≤ count_by Q N.bases
passing_most M N p u h a P Q g =
    count_most M.bases N.bases (rising_apart M.bases a.rising) P Q f
    (λ X m y. (
      (h.bases X (f X) (below X m) (relabelled-below M.size p u h.labels X) (relabelled-members M.size p u h.labels X)).0
          m,
      g X (f X) (below X m) (relabelled-below M.size p u h.labels X) (relabelled-members M.size p u h.labels X) y,
    ))
    (λ X Y m o e. relabelled_apart M.size p u h.labels X Y (below X m) (below Y o) e)
  where
    f : ℕ → ℕ
    f = relabelled M.size p u h.labels

    below : (X : ℕ) → Contains M.bases X → X < 2 ^ M.size
    below X m = All-contains (λ X. X < 2 ^ M.size) M.bases X a.below m

module _ (M N : Matroid) (p u : ℕ → ℕ) (h : AreIsomorphicBy M N p u) (a : IsBaseList M) (b : IsBaseList N) where
  -- equally many bases hold two elements and their labels
  pub pair_kept : (i j : ℕ) → i < M.size → j < M.size → pair_count M.bases i j ≡ pair_count N.bases (p i) (p j)
  pair_kept i j l m =
      let there : pair_count M.bases i j ≤ pair_count N.bases (p i) (p j) =
      passing_most M N p u h a (λ X. members X i && members X j) (λ Y. members Y (p i) && members Y (p j))
      (λ X Y _ _ e t. let s = and_parts (members X i) (members X j) t in and_from (members Y (p i)) (members Y (p j)) (e i l ∙ s.0) (e j m ∙ s.1)) in
      let back : pair_count N.bases (p i) (p j) ≤ pair_count M.bases i j = passing_most N M u p (inverse_isomorphism M N p u h) b
      (λ Y. members Y (p i) && members Y (p j)) (λ X. members X i && members X j)
      (λ Y X _ _ e t. let s = and_parts (members Y (p i)) (members Y (p j)) t in
      and_from (members X i) (members X j) (came Y X e i l ∙ s.0) (came Y X e j m ∙ s.1)) in
      omega arith
    where
      came : (Y X : ℕ) → ((j : ℕ) → j < N.size → members X (u j) ≡ members Y j) → (i : ℕ) → i < M.size → members X i ≡ members Y (p i)
      came Y X e i l = let v = h.labels in sym (ap (members X) (v.there i l)) ∙ e (p i) (subst (λ (n : ℕ). p i < n) (sym h.sizes) (v.below i l))

  number_kept : length N.bases ≡ length M.bases
  number_kept =
      let there : count_by (λ _. true) M.bases ≤ count_by (λ _. true) N.bases = passing_most M N p u h a (λ _. true) (λ _. true) (λ X Y _ _ e t. refl) in
      let back : count_by (λ _. true) N.bases ≤ count_by (λ _. true) M.bases =
      passing_most N M u p (inverse_isomorphism M N p u h) b (λ _. true) (λ _. true) (λ Y X _ _ e t. refl) in
      let s : count_by (λ _. true) M.bases ≡ length M.bases = count_all M.bases in
      let t : count_by (λ _. true) N.bases ≡ length N.bases = count_all N.bases in
      omega arith

  pub alike_kept : AreAlike M N
  alike_kept = record { ranks = h.ranks; sizes = h.sizes; bases = number_kept }

-- a count over a list as a count over its places
size_first : (n : ℕ) (S : ℕ → Bool) → size_below (suc n) S ≡ cond (S 0) 1 0 + size_below n (λ i. S (suc i))
size_first zero S = let e : size_below (suc zero) S ≡ 0 + cond (S 0) 1 0 = refl in omega arith
size_first (suc n) S = let e : size_below (suc n) S ≡ cond (S 0) 1 0 + size_below n (λ i. S (suc i)) = size_first n S in omega arith

count_places : (P : ℕ → Bool) (xs : List ℕ) → count_by P xs ≡ size_below (length xs) (λ i. P (slice_index xs i))
count_places P [] = refl
count_places P (x ∷ xs) =
    sum_by-cons (λ z. cond (P z) 1 0) x xs
    ∙ ap (λ n. cond (P x) 1 0 + n) (count_places P xs)
    ∙ sym (size_first (length xs) (λ i. P (slice_index (x ∷ xs) i)))
    ∙ ap (λ n. size_below n (λ i. P (slice_index (x ∷ xs) i))) (let e : suc (length xs) ≡ length (x ∷ xs) = omega arith in e)

-- the diagonal of the pair counts has the degrees
pub diagonal_counted : (M : Matroid) (rows : List (ArrayVec ℕ)) → ArePairCounts M rows → (xs : List ℕ) → length xs ≡ length rows →
    ((i : ℕ) → i < length rows → slice_index xs i ≡ slice_index (row rows i) i) → (d : ℕ)
    → count_by (λ x. x == d) xs ≡ size_below M.size (λ i. pair_count M.bases i i == d)
diagonal_counted M rows r xs e at d =
    let s : length rows ≡ M.size = r.elements in
    count_places (λ x. x == d) xs
    ∙ ap (λ n. size_below n (λ i. slice_index xs i == d)) (e ∙ s)
    ∙ size-same M.size (λ i. slice_index xs i == d) (λ i. pair_count M.bases i i == d)
    (λ i l. ap (λ x. x == d) (at i (omega arith) ∙ (let c = r.counts i l in c.counted i l)))

-- the degrees are the same
pub degrees_kept : (M N : Matroid) (p u : ℕ → ℕ) → AreIsomorphicBy M N p u → IsBaseList M → IsBaseList N → (xs ys : List ℕ) →
    AreDegrees M xs → AreDegrees N ys → xs ≡ ys
degrees_kept M N p u h a b xs ys s t = rising_same xs ys s.rising t.rising same
  where
    same : (d : ℕ) → count_by (λ x. x == d) xs ≡ count_by (λ x. x == d) ys
    same d =
        s.counted d
        ∙ size-same M.size (λ i. pair_count M.bases i i == d) (λ i. pair_count N.bases (p i) (p i) == d)
        (λ i l. ap (λ x. x == d) (pair_kept M N p u h a b i i l l))
        ∙ size_relabelled M.size p u h.labels (λ j. pair_count N.bases j j == d)
        ∙ ap (λ n. size_below n (λ i. pair_count N.bases i i == d)) (sym h.sizes)
        ∙ sym (t.counted d)

-- an isomorphism that gives the first elements these labels keeps the pair counts of the last one
pub last_counts_kept : (M N : Matroid) (p u : ℕ → ℕ) → AreIsomorphicBy M N p u → IsBaseList M → IsBaseList N →
    (rows sows : List (ArrayVec ℕ)) → ArePairCounts M rows → ArePairCounts N sows
    → (labels : List ℕ) → 0 < length labels → length labels ≤ M.size → Begins labels p → KeepsLastCounts rows sows labels
last_counts_kept M N p u h a b rows sows r s labels some few g i l =
    let k : length labels - 1 < length labels = omega arith in
    let of_last = r.counts (length labels - 1) (omega arith) in
    let of_label = s.counts (p (length labels - 1)) (below (length labels - 1) (omega arith)) in
    of_last.counted i (omega arith)
    ∙ pair_kept M N p u h a b (length labels - 1) i (omega arith) (omega arith)
    ∙ sym (of_label.counted (p i) (below i (omega arith)))
    ∙ (λ t. slice_index (row sows (g (length labels - 1) k t)) (g i l t))
  where
    below : (i : ℕ) → i < M.size → p i < N.size
    below i l = let v = h.labels in subst (λ (n : ℕ). p i < n) (sym h.sizes) (v.below i l)

-- the tables of two matroids of one size are squares
pub squares : (M : Matroid) (rows : List (ArrayVec ℕ)) → ArePairCounts M rows → (n : ℕ) → n ≡ M.size → IsSquare n rows
squares M rows r n e = subst (λ (n : ℕ). IsSquare n rows) (sym e) (record { elements = r.elements; widths = λ i l. (let c = r.counts i l in c.elements) })
