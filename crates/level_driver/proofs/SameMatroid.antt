-- Two representations have the same matroid exactly where their matroids are isomorphic by the lists of their bases.
use Rattle.std.proofs.Common.{◌≡◌, ◌∙◌, ℕ, ◌<◌, ◌^◌, Bool, sym, subst}
use Rattle.std.specs.Prelude.{◌↔◌, Contains}
use Rattle.matroid_theory.specs.Rep.{Rep, size}
use Rattle.matroid_theory.specs.Matroid.{members, IsBasis}
use Rattle.matroid_theory.specs.Move.{ArePermutation}
use Rattle.matroid_theory.specs.Minor.{Matroid, HaveSameMatroid, IsMatroidOf}
use Rattle.matrix_lemmas.proofs.Masks.{mask, mask-below, members-mask, IsBasis-same}
use Rattle.level_driver.specs.Listed.{AreIsomorphic}

module _ (M N : Rep) (A B : Matroid) (a : IsMatroidOf M A) (b : IsMatroidOf N B) where
  pub isomorphic : HaveSameMatroid M N → AreIsomorphic A B
  isomorphic h = (
    h.label,
    h.place,
    record {
      ranks = b.ranks ∙ h.ranks ∙ sym a.ranks;
      sizes = b.sizes ∙ h.sizes ∙ sym a.sizes;
      labels = subst (λ (n : ℕ). ArePermutation n h.label h.place) (sym a.sizes) h.labels;
      bases = λ X Y l m e. (there X Y m (along X Y e), back X Y l (along X Y e));
    },
  )
    where
      along : (X Y : ℕ) → ((j : ℕ) → j < A.size → members Y (h.label j) ≡ members X j) → (j : ℕ) → j < size M → members Y (h.label j) ≡ members X j
      along X Y e j l = e j (subst (λ (n : ℕ). j < n) (sym a.sizes) l)

      there : (X Y : ℕ) → Y < 2 ^ A.size → ((j : ℕ) → j < size M → members Y (h.label j) ≡ members X j) → Contains A.bases X → Contains B.bases Y
      there X Y m e c =
          let x = a.bases in
          let y = b.bases in
          let of_M = IsBasis-same M 0 (members X) (λ j. members Y (h.label j)) (λ j l. sym (e j l)) ((x.exact X).0 c).1 in
          (y.exact Y).1 (subst (λ (n : ℕ). Y < 2 ^ n) (a.sizes ∙ sym h.sizes) m, (h.bases (members Y)).0 of_M)

      back : (X Y : ℕ) → X < 2 ^ A.size → ((j : ℕ) → j < size M → members Y (h.label j) ≡ members X j) → Contains B.bases Y → Contains A.bases X
      back X Y l e c =
          let x = a.bases in
          let y = b.bases in
          let of_M = (h.bases (members Y)).1 ((y.exact Y).0 c).1 in
          (x.exact X).1 (subst (λ (n : ℕ). X < 2 ^ n) a.sizes l, IsBasis-same M 0 (λ j. members Y (h.label j)) (members X) e of_M)

  pub same_matroid : AreIsomorphic A B → HaveSameMatroid M N
  same_matroid (p, u, h) = record {
    ranks = sym b.ranks ∙ h.ranks ∙ a.ranks;
    sizes = same_size;
    label = p;
    place = u;
    labels = labels;
    bases = λ S. (there S, back S);
  }
    where
      same_size : size N ≡ size M
      same_size = sym b.sizes ∙ h.sizes ∙ a.sizes

      labels : ArePermutation (size M) p u
      labels = subst (λ (n : ℕ). ArePermutation n p u) a.sizes h.labels

      -- the masks of a set of labels and of the set of the elements that have them
      alike : (S : ℕ → Bool) → Contains A.bases (mask (size M) (λ j. S (p j))) ↔ Contains B.bases (mask (size M) S)
      alike S =
          h.bases (mask (size M) (λ j. S (p j))) (mask (size M) S)
          (subst (λ (n : ℕ). mask (size M) (λ j. S (p j)) < 2 ^ n) (sym a.sizes) (mask-below (size M) (λ j. S (p j))))
          (subst (λ (n : ℕ). mask (size M) S < 2 ^ n) (sym a.sizes) (mask-below (size M) S))
          (λ j l. let k = subst (λ (n : ℕ). j < n) a.sizes l in members-mask (size M) S (p j) (labels.below j k)
          ∙ sym (members-mask (size M) (λ j. S (p j)) j k))

      there : (S : ℕ → Bool) → IsBasis M 0 (λ j. S (p j)) → IsBasis N 0 S
      there S d =
          let x = a.bases in
          let y = b.bases in
          let c = (x.exact (mask (size M) (λ j. S (p j)))).1 (
            mask-below (size M) (λ j. S (p j)),
            IsBasis-same M 0 (λ j. S (p j)) (members (mask (size M) (λ j. S (p j))))
                (λ j l. sym (members-mask (size M) (λ j. S (p j)) j l)) d,
          ) in
          IsBasis-same N 0 (members (mask (size M) S)) S (λ j l. members-mask (size M) S j (subst (λ (n : ℕ). j < n) same_size l))
          ((y.exact (mask (size M) S)).0 ((alike S).0 c)).1

      back : (S : ℕ → Bool) → IsBasis N 0 S → IsBasis M 0 (λ j. S (p j))
      back S d =
          let x = a.bases in
          let y = b.bases in
          let c = (y.exact (mask (size M) S)).1 (
            subst (λ (n : ℕ). mask (size M) S < 2 ^ n) (sym same_size) (mask-below (size M) S),
            IsBasis-same N 0 S (members (mask (size M) S)) (λ j l. sym (members-mask (size M) S j (subst (λ (n : ℕ). j < n) same_size l))) d,
          ) in
          IsBasis-same M 0 (members (mask (size M) (λ j. S (p j)))) (λ j. S (p j)) (λ j l. members-mask (size M) (λ j. S (p j)) j l)
          ((x.exact (mask (size M) (λ j. S (p j)))).0 ((alike S).1 c)).1
