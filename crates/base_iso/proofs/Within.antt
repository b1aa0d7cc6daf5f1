-- An isomorphism that begins with labels keeps the number of bases among them.
use Rattle.std.proofs.Common.{◌≡◌, ◌≢◌, ℕ, ◌-◌, ◌<◌, ◌≤◌, ◌^◌, sym, ◌∙◌, ap, subst, arith, true, false, List, length, inl, inr, bit_or, max, eqb-true, eq-eqb, ltb-true, lt-ltb}
use Rattle.std.specs.Bool.{◌==◌, nat_lt}
use Rattle.std.specs.Int.{bit_at}
use Rattle.std.specs.List.{count_by}
use Rattle.std.proofs.lemmas.Bool.{cases_lt, cases_Bool, false≢true, false_from_ne_true, eqb-false}
use Rattle.std.proofs.lemmas.Nat.Bits.{same_from_bits, bit_at-lt, bit_at_or, bit_at_ones}
use Rattle.matroid_theory.specs.Matroid.{members}
use Rattle.matroid_theory.specs.Minor.{Matroid, AreIsomorphicBy}
use Rattle.matroid_theory.specs.Move.{ArePermutation}
use Rattle.bases.specs.BaseLists.{IsBaseList}
use Rattle.base_iso.specs.Started.{AreLabels, IsImage, Begins, KeepsCount}
use Rattle.base_iso.proofs.Inverses.{is_mask, no_member, inverse_isomorphism}
use Rattle.base_iso.proofs.Kept.{passing_most}

-- a part has no member that the whole lacks
part_lacks : (Y W : ℕ) → bit_or Y W ≡ W → (i : ℕ) → members W i ≡ false → members Y i ≡ false
part_lacks Y W e i n =
    let m : bit_at (bit_or Y W) i ≡ max (bit_at Y i) (bit_at W i) = bit_at_or Y W i in
    let k : bit_at (bit_or Y W) i ≡ bit_at W i = ap (λ x. bit_at x i) e in
    false_from_ne_true (members Y i) (λ t.
    let y : bit_at Y i ≡ 1 = eqb-true (bit_at Y i) 1 t in
    let w : bit_at W i < 2 = bit_at-lt W i in
    let x : bit_at W i ≡ 1 = omega arith in
    false≢true (sym n ∙ eq-eqb (bit_at W i) 1 x))

-- and what has none is a part
is_part : (Y W : ℕ) → ((i : ℕ) → members W i ≡ false → members Y i ≡ false) → bit_or Y W ≡ W
is_part Y W h = same_from_bits (bit_or Y W) W (λ i. bit_at_or Y W i ∙ bit i)
  where
    bit : (i : ℕ) → max (bit_at Y i) (bit_at W i) ≡ bit_at W i
    bit i =
        let y : bit_at Y i < 2 = bit_at-lt Y i in
        let w : bit_at W i < 2 = bit_at-lt W i in
        elim (cases_Bool (members W i)) [
          | inl t ↦ (let x : bit_at W i ≡ 1 = eqb-true (bit_at W i) 1 t in omega arith)
          | inr f ↦ (let n : bit_at Y i ≢ 1 = eqb-false (bit_at Y i) 1 (h i f) in omega arith)
        ]

module _ (n : ℕ) (p u : ℕ → ℕ) (v : ArePermutation n p u) (small : n ≤ 16) (labels : List ℕ) (g : AreLabels n labels)
    (s : Begins labels p) (W : ℕ) (w : IsImage labels (2 ^ 16 - 1) W) (X Y : ℕ) (x : X < 2 ^ n) (y : Y < 2 ^ n)
    (e : (j : ℕ) → j < n → members Y (p j) ≡ members X j) where
  labelled : (j : ℕ) → j < length labels → members W (p j) ≡ true
  labelled j l = let f : length labels ≤ n = g.few in ap (members W) (s j l) ∙ w.labelled j l ∙ ap (λ x. x == 1) (bit_at_ones 16 j (omega arith))

  lacks : (j : ℕ) → j < n → length labels ≤ j → members W (p j) ≡ false
  lacks j l m = w.others (p j) (λ i k q. let f : length labels ≤ n = g.few in
      let z : i ≡ j = sym (v.there i (omega arith)) ∙ ap u (s i k ∙ q) ∙ v.there j l in omega arith)

  -- a set of labelled elements goes to one of labels
  to_labels : X < 2 ^ length labels → bit_or Y W ≡ W
  to_labels l = is_part Y W at
    where
      at : (i : ℕ) → members W i ≡ false → members Y i ≡ false
      at i f = elim (cases_lt i n) [
        | inl b ↦ elim (cases_lt (u i) (length labels)) [
          | inl m ↦ absurd (false≢true (sym f ∙ sym (ap (members W) (v.back i b)) ∙ labelled (u i) m))
          | inr m ↦ sym (ap (members Y) (v.back i b)) ∙ e (u i) (v.inverse_below i b) ∙ no_member (length labels) X (u i) l m
        ]
        | inr b ↦ no_member n Y i y b
      ]

  -- and only such a set
  from_labels : bit_or Y W ≡ W → X < 2 ^ length labels
  from_labels q = is_mask (length labels) X (λ j m. elim (cases_lt j n) [
    | inl b ↦ sym (e j b) ∙ part_lacks Y W q (p j) (lacks j b m)
    | inr b ↦ no_member n X j x b
  ])

pub count_kept : (M N : Matroid) (p u : ℕ → ℕ) → AreIsomorphicBy M N p u → IsBaseList M → IsBaseList N → (labels : List ℕ) →
    AreLabels M.size labels → Begins labels p → KeepsCount M.bases N.bases labels
count_kept M N p u h a b labels g s W w =
    let there : count_by (λ X. nat_lt X (2 ^ length labels)) M.bases ≤ count_by (λ Y. bit_or Y W == W) N.bases =
    passing_most M N p u h a (λ X. nat_lt X (2 ^ length labels)) (λ Y. bit_or Y W == W)
    (λ X Y x y e t. eq-eqb (bit_or Y W) W (to_labels M.size p u h.labels a.size_most labels g s W w X Y x y e (ltb-true X (2 ^ length labels) t))) in
    let back : count_by (λ Y. bit_or Y W == W) N.bases ≤ count_by (λ X. nat_lt X (2 ^ length labels)) M.bases =
    passing_most N M u p (inverse_isomorphism M N p u h) b (λ Y. bit_or Y W == W) (λ X. nat_lt X (2 ^ length labels))
    (λ Y X y x e t. lt-ltb X (2 ^ length labels)
    (from_labels M.size p u h.labels a.size_most labels g s W w X Y (narrow X x) (narrow Y y) (came Y X e) (eqb-true (bit_or Y W) W t))) in
    omega arith
  where
    narrow : (X : ℕ) → X < 2 ^ N.size → X < 2 ^ M.size
    narrow X x = subst (λ (n : ℕ). X < 2 ^ n) h.sizes x

    came : (Y X : ℕ) → ((j : ℕ) → j < N.size → members X (u j) ≡ members Y j) → (i : ℕ) → i < M.size → members Y (p i) ≡ members X i
    came Y X e i l = let v = h.labels in sym (e (p i) (subst (λ (n : ℕ). p i < n) (sym h.sizes) (v.below i l))) ∙ ap (members X) (v.there i l)
