-- Having the same matroid is symmetric and transitive, equivalent representations have it, and it keeps what the bases decide: independent sets, ranks,
--     separations and minors.
use Rattle.std.proofs.Common.{◌≡◌, ℕ, zero, suc, ◌+◌, ◌-◌, ◌<◌, ◌≤◌, sym, ◌∙◌, ap, subst, arith, Bool, false, inl, inr, not, ◌&&◌, ◌||◌}
use Rattle.std.specs.Bool.{◌==◌}
use Rattle.std.specs.Prelude.{◌↔◌}
use Rattle.std.proofs.lemmas.Bool.{cases_eq}
use mathlib.Core.Bool.{true≢false}
use Rattle.matroid_theory.specs.declared.Mode.{Mode}
use Rattle.matroid_theory.specs.Field.{IsField}
use Rattle.matroid_theory.specs.Matrix.{size_below, IsIndependentPart}
use Rattle.matroid_theory.specs.Rep.{Rep, count, size, order, matrix}
use Rattle.matroid_theory.specs.Matroid.{members, IsBasis, IsIndependentIn, IsRepresentation}
use Rattle.matroid_theory.specs.Move.{ArePermutation, AreEquivalent}
use Rattle.matroid_theory.specs.Minor.{Matroid, image, IsMinorBy, IsMinor, HaveSameMatroid}
use Rattle.matroid_theory.specs.Connection.{IsRank, IsSeparation, IsConnected, Is3Connected, IsCosimple}
use Rattle.matrix_lemmas.proofs.FieldLaws.{field_laws}
use Rattle.matrix_lemmas.proofs.Masks.{IsBasis-same, any_below-same}
use Rattle.matrix_lemmas.proofs.Counts.{size_relabelled}
use Rattle.matroid_laws.proofs.Carried.{basis_carried, inverse_permutation, same_label}
use Rattle.matrix_lemmas.proofs.Bases.{with_element, with_other, with_own, size_with, smaller_independent, augmentation, set_bound}
use Rattle.existence.proofs.Connection.{rank_near}

pub same_matroid-symmetric : (M N : Rep) → HaveSameMatroid M N → HaveSameMatroid N M
same_matroid-symmetric M N w = record {
  ranks = sym w.ranks;
  sizes = sym w.sizes;
  label = w.place;
  place = w.label;
  labels = subst (λ (n : ℕ). ArePermutation n w.place w.label) (sym w.sizes) (inverse_permutation (size M) w.label w.place w.labels);
  bases = λ S. (let b = w.bases (λ j. S (w.place j)) in (
    (λ h. IsBasis-same M 0 _ _ (λ j l. ap S (w.labels.there j l)) (b.1 h)),
    (λ h. b.0 (IsBasis-same M 0 _ _ (λ j l. ap S (sym (w.labels.there j l))) h)),
  ));
}

pub same_matroid-transitive : (M N L : Rep) → HaveSameMatroid M N → HaveSameMatroid N L → HaveSameMatroid M L
same_matroid-transitive M N L w v =
    let p : ArePermutation (size M) v.label v.place = subst (λ (n : ℕ). ArePermutation n v.label v.place) w.sizes v.labels in
    record {
      ranks = v.ranks ∙ w.ranks;
      sizes = v.sizes ∙ w.sizes;
      label = λ j. v.label (w.label j);
      place = λ j. w.place (v.place j);
      labels = record {
        below = λ j l. p.below (w.label j) (w.labels.below j l);
        inverse_below = λ j l. w.labels.inverse_below (v.place j) (p.inverse_below j l);
        there = λ j l. ap w.place (p.there (w.label j) (w.labels.below j l)) ∙ w.labels.there j l;
        back = λ j l. ap v.label (w.labels.back (v.place j) (p.inverse_below j l)) ∙ p.back j l;
      };
      bases = λ S. (let b = w.bases (λ j. S (v.label j)) in let c = v.bases S in ((λ h. c.0 (b.0 h)), (λ h. b.1 (c.1 h))));
    }

-- a move keeps the matroid, up to its relabelling
pub same_matroid-equivalent : (mode : Mode) (M N : Rep) → 0 < count M → AreEquivalent mode M N → HaveSameMatroid M N
same_matroid-equivalent mode M N some e = record {
  ranks = ap (λ S. S.rank) e.takes.same_shape;
  sizes = sizes;
  label = e.move.place;
  place = e.move.label;
  labels = inverse_permutation (size M) e.move.label e.move.place e.valid.labels;
  bases = λ S. (let b = basis_carried mode M N e.move e.shaped e.valid e.takes 0 some (λ j. S (e.move.place j)) in (
    (λ h. IsBasis-same N 0 _ _ (λ j l. ap S (e.valid.labels.there j (in_M j l))) (b.0 h)),
    (λ h. b.1 (IsBasis-same N 0 _ _ (λ j l. ap S (sym (e.valid.labels.there j (in_M j l)))) h)),
  ));
}
  where
    sizes : size N ≡ size M
    sizes = ap (λ S. S.size) e.takes.same_shape

    in_M : (j : ℕ) → j < size N → j < size M
    in_M j l = subst (λ (n : ℕ). j < n) sizes l

-- ---- independent sets

-- each independent set is part of a basis
module _ (M : Rep) (r : IsRepresentation M) where
  F : IsField (order M 0)
  F = field_laws (order M 0) (r.shaped.orders 0 r.some)

  codes : (i j : ℕ) → i < M.rank → j < size M → matrix M 0 i j < order M 0
  codes i j = r.shaped.codes 0 i j r.some

  -- a set of k columns less than a basis is made larger one by one
  grown : (k : ℕ) (I : ℕ → Bool) → IsIndependentIn M 0 I → size_below (size M) I + k ≡ M.rank
      → (B : ℕ → Bool) × IsBasis M 0 B × ((j : ℕ) → B j ≡ false → I j ≡ false)
  grown zero I d e = (I, record { full = (let s : size_below (size M) I ≡ M.rank = omega arith in s); independent = d }, λ j f. f)
  grown (suc k) I d e =
      let a = r.agrees.some 0 r.some in
      let full : size_below (size M) a.0 ≡ M.rank = a.1.full in
      let x = augmentation (order M 0) F M.rank (size M) (matrix M 0) codes I a.0 d a.1.independent (omega arith) in
      let more : size_below (size M) (with_element x.0 I) ≡ size_below (size M) I + 1 = size_with x.0 (size M) I x.1 x.3 in
      let rest = grown k (with_element x.0 I) x.4 (omega arith) in
      (rest.0, rest.1, λ j f. without x.0 I j (rest.2 j f))
    where
      without : (e : ℕ) (I : ℕ → Bool) (j : ℕ) → with_element e I j ≡ false → I j ≡ false
      without e I j f = elim (cases_eq j e) [
        | inl i ↦ absurd (true≢false (sym (ap (with_element e I) i ∙ with_own e I) ∙ f))
        | inr other ↦ sym (with_other e I j other) ∙ f
      ]

  in_basis : (I : ℕ → Bool) → IsIndependentIn M 0 I → (B : ℕ → Bool) × IsBasis M 0 B × ((j : ℕ) → B j ≡ false → I j ≡ false)
  in_basis I d =
      let most : size_below (size M) I ≤ M.rank = set_bound (order M 0) F M.rank (size M) (matrix M 0) codes I d in
      grown (M.rank - size_below (size M) I) I d (omega arith)

-- ---- from N to M, by labels

module _ (M N : Rep) (r : IsRepresentation N) (w : HaveSameMatroid M N) where
  independent_over : (S : ℕ → Bool) → IsIndependentIn N 0 S → IsIndependentIn M 0 (λ j. S (w.label j))
  independent_over S d =
      let b = in_basis N r S d in
      let c = w.bases b.0 in
      let h = c.1 b.1 in
      smaller_independent (order M 0) M.rank (size M) (matrix M 0) (λ j. S (w.label j)) (λ j. b.0 (w.label j)) (λ j _ f. b.2 (w.label j) f) h.independent

  size_over : (S : ℕ → Bool) → size_below (size M) (λ j. S (w.label j)) ≡ size_below (size N) S
  size_over S = size_relabelled (size M) w.label w.place w.labels S ∙ ap (λ n. size_below n S) (sym w.sizes)

  part_over : (S I : ℕ → Bool) (k : ℕ) → IsIndependentPart (order N 0) N.rank (size N) (matrix N 0) S k I
      → IsIndependentPart (order M 0) M.rank (size M) (matrix M 0) (λ j. S (w.label j)) k (λ j. I (w.label j))
  part_over S I k p = record {
    within = λ j l t. p.within (w.label j) (subst (λ (n : ℕ). w.label j < n) (sym w.sizes) (w.labels.below j l)) t;
    elements = size_over I ∙ p.elements;
    independent = independent_over I p.independent;
  }

module _ (M N : Rep) (r : IsRepresentation M) (s : IsRepresentation N) (w : HaveSameMatroid M N) where
  rank_over : (S : ℕ → Bool) (k : ℕ) → IsRank N S k → IsRank M (λ j. S (w.label j)) k
  unfolding same_matroid-symmetric
  rank_over S k h = record {
    reached = (let p = h.reached in ((λ j. p.0 (w.label j)), part_over M N s w S p.0 k p.1));
    greatest = λ m I p.
        let back = part_over N M r (same_matroid-symmetric M N w) (λ j. S (w.label j)) I m p in
        h.greatest m (λ j. I (w.place j)) (record {
          within = λ j l t. sym (ap S (w.labels.back j (subst (λ (n : ℕ). j < n) w.sizes l))) ∙ back.within j l t;
          elements = back.elements;
          independent = back.independent;
        });
  }

  separation_over : (k : ℕ) (X : ℕ → Bool) → IsSeparation N k X → IsSeparation M k (λ j. X (w.label j))
  separation_over k X h = record {
    large = subst (λ (n : ℕ). k ≤ n) (sym (size_over M N s w X)) h.large;
    other_large = subst (λ (n : ℕ). k ≤ n) (sym (size_over M N s w (λ j. not (X j)))) h.other_large;
    rank = h.rank;
    other_rank = h.other_rank;
    is_rank = rank_over X h.rank h.is_rank;
    is_other_rank = rank_over (λ j. not (X j)) h.other_rank h.is_other_rank;
    small = subst (λ (n : ℕ). h.rank + h.other_rank < n + k) w.ranks h.small;
  }

  connected_over : IsConnected M → IsConnected N
  connected_over c X h = c (λ j. X (w.label j)) (separation_over 1 X h)

  three_connected_over : Is3Connected M → Is3Connected N
  three_connected_over c X = (let d = c (λ j. X (w.label j)) in ((λ h. d.0 (separation_over 1 X h)), (λ h. d.1 (separation_over 2 X h))))

  cosimple_over : IsCosimple N → IsCosimple M
  cosimple_over c i j l m =
      let p = w.label in
      let in_N : (x : ℕ) → x < size M → p x < size N = λ x l. subst (λ (n : ℕ). p x < n) (sym w.sizes) (w.labels.below x l) in
      subst (IsRank M (λ k. not ((k == i) || (k == j)))) w.ranks
      (rank_near (order M 0) M.rank (size M) (matrix M 0) (λ k. not ((p k == p i) || (p k == p j))) (λ k. not ((k == i) || (k == j))) N.rank
      (λ k o t. not (same_label (size M) p w.place w.labels k i o l t || same_label (size M) p w.place w.labels k j o m t))
      (rank_over (λ k. not ((k == p i) || (k == p j))) N.rank (c (p i) (p j) (in_N i l) (in_N j m))))

-- ---- minors

-- a minor of N is one of M: its elements go to the places of their images
module _ (M N : Rep) (w : HaveSameMatroid N M) (K : Matroid) (f : ℕ → ℕ) (C : ℕ → Bool) (v : IsMinorBy K N f C) where
  abbrev p : ℕ → ℕ
  p = w.label

  abbrev u : ℕ → ℕ
  u = w.place

  in_M : (x : ℕ) → x < size N → p x < size M
  in_M x l = subst (λ (n : ℕ). p x < n) (sym w.sizes) (w.labels.below x l)

  -- the places of the images of a set, with what is contracted
  abbrev places : ℕ → ℕ → Bool
  places X k = image K.size (λ x. p (f x)) (members X) k || C (u k)

  -- are those of the images, with what is contracted
  of_places : (X j : ℕ) → j < size N → places X (p j) ≡ (image K.size f (members X) j || C j)
  of_places X j l i =
      any_below-same K.size (λ x. members X x && (p (f x) == p j)) (λ x. members X x && (f x == j))
      (λ x m t. members X x && same_label (size N) p u w.labels (f x) j (v.injection.below x m) l t) i
      || C (w.labels.there j l i)

  minor_over : IsMinor K M
  minor_over = (
    (λ x. p (f x)),
    (λ k. C (u k)),
    record {
      injection = record {
        below = λ x l. in_M (f x) (v.injection.below x l);
        apart = λ x y l m h.
            v.injection.apart x y l m (sym (w.labels.there (f x) (v.injection.below x l)) ∙ ap u h ∙ w.labels.there (f y) (v.injection.below y m));
      };
      outside = λ x l. ap C (w.labels.there (f x) (v.injection.below x l)) ∙ v.outside x l;
      contracted =
          ap (λ n. K.rank + n) (ap (λ n. size_below n (λ k. C (u k))) w.sizes ∙ size_relabelled (size N) u p (inverse_permutation (size N) p u w.labels) C)
          ∙ v.contracted ∙ sym w.ranks;
      bases = λ X l. (let old = v.bases X l in
          let move = w.bases (places X) in
          ((λ c. move.0 (IsBasis-same N 0 _ _ (λ j m. sym (of_places X j m)) (old.0 c))), (λ b. old.1 (IsBasis-same N 0 _ _ (of_places X) (move.1 b)))));
    },
  )

-- ---- both ways

module _ (M N : Rep) (w : HaveSameMatroid M N) where
  pub same_minors : (K : Matroid) → IsMinor K M ↔ IsMinor K N
  same_minors K = ((λ m. minor_over N M w K m.0 m.1 m.2), (λ m. minor_over M N (same_matroid-symmetric M N w) K m.0 m.1 m.2))

  module _ (r : IsRepresentation M) (s : IsRepresentation N) where
    back : HaveSameMatroid N M
    back = same_matroid-symmetric M N w

    pub same_connected : IsConnected M ↔ IsConnected N
    same_connected = (connected_over M N r s w, connected_over N M s r back)

    pub same_three_connected : Is3Connected M ↔ Is3Connected N
    same_three_connected = (three_connected_over M N r s w, three_connected_over N M s r back)

    pub same_cosimple : IsCosimple M ↔ IsCosimple N
    same_cosimple = (cosimple_over N M s r back, cosimple_over M N r s w)
