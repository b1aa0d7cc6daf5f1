-- The cuts lose no isomorphism, and one more label keeps what labels keep.
use Rattle.std.proofs.Common.{◌≡◌, ℕ, ◌+◌, ◌-◌, ◌<◌, ◌≤◌, ◌^◌, sym, ◌∙◌, ap, subst, refl, arith, Bool, true, false, List, [], ◌∷◌, ◌++◌, length, inl, inr, length-append, ◌↔◌}
use Rattle.std.specs.Bool.{◌==◌, Decides}
use Rattle.std.specs.List.{Contains, IsAnyAnswer, slice_index}
use Rattle.std.proofs.lemmas.Bool.Decides.{Decides-eqb}
use Rattle.std.proofs.lemmas.List.Elements.{contains_decides, Decides-contains, All-contains}
use Rattle.std.proofs.lemmas.Bool.{cases_lt, cases_eq, iff_false}
use Rattle.std.proofs.Math.Seq.{get_or-append_seam}
use Rattle.std.proofs.Math.ListN.{get_or-append}
use Rattle.std.proofs.lemmas.List.{get_or_default}
use Rattle.std.proofs.lemmas.Nat.Bits.{bit_at-zero}
use Rattle.matroid_theory.specs.Matrix.{size_below}
use Rattle.matrix_lemmas.proofs.Bases.{size_none}
use Rattle.bases.specs.BaseLists.{IsBaseList}
use Rattle.matroid_theory.specs.Matroid.{members}
use Rattle.matroid_theory.specs.Minor.{Matroid, AreIsomorphicBy}
use Rattle.matroid_theory.specs.Move.{ArePermutation}
use Rattle.base_iso.specs.Started.{AreLabels, IsImage, CarriesBases, CarriesLast, KeepsCount, Begins, NoneBegins}
use Rattle.base_iso.proofs.Inverses.{is_mask, no_member}

-- the images of bases under an isomorphism that begins with the labels are bases
pub images_are_bases : (M N : Matroid) (p u : ℕ → ℕ) → AreIsomorphicBy M N p u → (labels : List ℕ) → AreLabels M.size labels →
    Begins labels p → CarriesBases M N labels
images_are_bases M N p u h labels g s X Y l m y =
    (h.bases X Y mask_x (is_mask M.size Y beyond) agrees).0 m
  where
    v : ArePermutation M.size p u
    v = h.labels

    mask_x : X < 2 ^ M.size
    mask_x = is_mask M.size X (λ j k. no_member (length labels) X j l (let f : length labels ≤ M.size = g.few in omega arith))

    beyond : (j : ℕ) → M.size ≤ j → members Y j ≡ false
    beyond j k = y.others j (λ i q e. let b : slice_index labels i < M.size = g.below i q in omega arith)

    agrees : (j : ℕ) → j < M.size → members Y (p j) ≡ members X j
    agrees j k = elim (cases_lt j (length labels)) [
      | inl b ↦ ap (members Y) (s j b) ∙ y.labelled j b
      | inr b ↦ y.others (p j) (λ i q e. let f : length labels ≤ M.size = g.few in
          let w : i ≡ j = sym (v.there i (omega arith)) ∙ ap u (s i q ∙ e) ∙ v.there j k in omega arith) ∙ sym (no_member (length labels) X j l b)
    ]

-- an element has one label only
pub no_label_twice : (M N : Matroid) (labels : List ℕ) (j : ℕ) → length labels < M.size → Contains labels j → NoneBegins M N (labels ++ j ∷ [])
no_label_twice M N labels j f (i, l, e) p u s h =
    let v : ArePermutation M.size p u = h.labels in
    let n : length (labels ++ j ∷ []) ≡ length labels + 1 = length-append labels (j ∷ []) in
    let a : p i ≡ j = s i (omega arith) ∙ get_or-append labels (j ∷ []) 0 i l ∙ get_or_default labels i 0 j l ∙ e in
    let b : p (length labels) ≡ j = s (length labels) (omega arith) ∙ get_or-append_seam labels j [] 0 in
    let w : i ≡ length labels = sym (v.there i (omega arith)) ∙ ap u (a ∙ sym b) ∙ v.there (length labels) f in
    omega arith

-- what `contains` answers of the labels, under the name that the code has for them
contains_is : (xs : List ℕ) (x : ℕ) (r : Bool) → IsAnyAnswer (λ y t. (y == x) ≡ t) xs r → Decides r (Contains xs x)
contains_is xs x r a = Decides-contains xs x r (contains_decides (λ y x. y == x) Decides-eqb xs x r a)

pub is_new : (labels v : List ℕ) (x : ℕ) (r : Bool) → v ≡ labels → IsAnyAnswer (λ y t. (y == x) ≡ t) v r → r ≡ false → ¬ (Contains labels x)
is_new labels v x r e a f = subst (λ (xs : List ℕ). ¬ (Contains xs x)) e (iff_false (contains_is v x r a) f)

pub is_old : (labels v : List ℕ) (x : ℕ) (r : Bool) → v ≡ labels → IsAnyAnswer (λ y t. (y == x) ≡ t) v r → r ≡ true → Contains labels x
is_old labels v x r e a t = subst (λ (xs : List ℕ). Contains xs x) e ((contains_is v x r a).0 t)

-- whether bases are carried, under the names that the code has for the lists
pub carried_named : (xs ys as_ bs labels : List ℕ) (r : Bool) → xs ≡ as_ → ys ≡ bs → ((r ≡ true) ↔ CarriesLast xs ys labels) →
    ((r ≡ true) ↔ CarriesLast as_ bs labels)
carried_named xs ys as_ bs labels r d e h = subst (λ (xs : List ℕ). (r ≡ true) ↔ CarriesLast xs bs labels) d
    (subst (λ (zs : List ℕ). (r ≡ true) ↔ CarriesLast xs zs labels) e h)

pub count_named : (xs ys as_ bs labels : List ℕ) (r : Bool) → xs ≡ as_ → ys ≡ bs → ((r ≡ true) ↔ KeepsCount xs ys labels) →
    ((r ≡ true) ↔ KeepsCount as_ bs labels)
count_named xs ys as_ bs labels r d e h = subst (λ (xs : List ℕ). (r ≡ true) ↔ KeepsCount xs bs labels) d
    (subst (λ (zs : List ℕ). (r ≡ true) ↔ KeepsCount xs zs labels) e h)

module _ (labels longer : List ℕ) (j : ℕ) (e : longer ≡ labels ++ j ∷ []) where
  pub longer-length : length longer ≡ length labels + 1
  longer-length = ap (λ (xs : List ℕ). length xs) e ∙ length-append labels (j ∷ [])

  pub longer-before : (i : ℕ) → i < length labels → slice_index longer i ≡ slice_index labels i
  longer-before i l = ap (λ (xs : List ℕ). slice_index xs i) e ∙ get_or-append labels (j ∷ []) 0 i l

  pub longer-last : slice_index longer (length labels) ≡ j
  longer-last = ap (λ (xs : List ℕ). slice_index xs (length labels)) e ∙ get_or-append_seam labels j [] 0

  -- a new label
  pub more_labels : (n : ℕ) → AreLabels n labels → length labels < n → j < n → ¬ (Contains labels j) → AreLabels n longer
  more_labels n h f b o = record {
    few = let s : length longer ≡ length labels + 1 = longer-length in omega arith;
    below = λ i l. elim (cases_lt i (length labels)) [
      | inl k ↦ subst (λ x. x < n) (sym (longer-before i k)) (h.below i k)
      | inr k ↦ (let s : length longer ≡ length labels + 1 = longer-length in let w : length labels ≡ i = omega arith in
          subst (λ x. x < n) (sym (sym (ap (slice_index longer) w) ∙ longer-last)) b)
    ];
    apart = λ i k l m q. let s : length longer ≡ length labels + 1 = longer-length in elim (cases_lt k (length labels)) [
      | inl w ↦ h.apart i k l w (sym (longer-before i (omega arith)) ∙ q ∙ longer-before k w)
      | inr w ↦ (let c : length labels ≡ k = omega arith in let d : i < length labels = omega arith in
          o (i, d, get_or_default labels i j 0 d ∙ sym (longer-before i d) ∙ q ∙ sym (ap (slice_index longer) c) ∙ longer-last))
    ];
  }

  -- a set of the elements before has the same image
  image_before : (X Y : ℕ) → X < 2 ^ length labels → IsImage longer X Y → IsImage labels X Y
  image_before X Y l y = record {
    labelled = λ i m. ap (members Y) (sym (longer-before i m)) ∙ y.labelled i (let s : length longer ≡ length labels + 1 = longer-length in omega arith);
    others = λ k o. elim (cases_eq j k) [
      | inl w ↦ ap (members Y) (sym w ∙ sym longer-last)
          ∙ y.labelled (length labels) (let s : length longer ≡ length labels + 1 = longer-length in omega arith)
          ∙ no_member (length labels) X (length labels) l (omega arith)
      | inr w ↦ y.others k (λ i m q. elim (cases_lt i (length labels)) [
        | inl b ↦ o i b (sym (longer-before i b) ∙ q)
        | inr b ↦ (let s : length longer ≡ length labels + 1 = longer-length in let c : length labels ≡ i = omega arith in
            w (sym longer-last ∙ ap (slice_index longer) c ∙ q))
      ])
    ];
  }

  -- what is carried before and with the last element is carried
  pub more_carried : (M N : Matroid) → CarriesBases M N labels → CarriesLast M.bases N.bases longer → CarriesBases M N longer
  more_carried M N h g X Y l m y = elim (cases_lt X (2 ^ length labels)) [
    | inl b ↦ h X Y b m (image_before X Y b y)
    | inr b ↦ (let s : length labels ≡ length longer - 1 = (let s : length longer ≡ length labels + 1 = longer-length in omega arith) in
        g X Y (subst (λ (n : ℕ). 2 ^ n ≤ X) s b, l) m y)
  ]

-- with no labels at all, only the empty set is to be carried, and no base is empty
none_in : (n : ℕ) → size_below n (members 0) ≡ 0
none_in n = (λ i. size_below n (λ j. bit_at-zero j i == 1)) ∙ size_none n

pub none_carried : (M N : Matroid) → IsBaseList M → (labels : List ℕ) → labels ≡ [] → CarriesBases M N labels
none_carried M N a labels e = subst (CarriesBases M N) (sym e) none
  where
    none : CarriesBases M N []
    none X Y l m y =
        let x : X ≡ 0 = omega arith in
        let r : size_below M.size (members 0) ≡ M.rank =
        All-contains (λ X. size_below M.size (members X) ≡ M.rank) M.bases 0 a.of_rank (subst (Contains M.bases) x m) in
        let z : size_below M.size (members 0) ≡ 0 = none_in M.size in
        let p : 0 < M.rank = a.rank_positive in
        absurd (omega arith)

-- a relabelling that gives the next element this label begins with the longer labels
pub begins_more : (labels : List ℕ) (j : ℕ) (p : ℕ → ℕ) → Begins labels p → p (length labels) ≡ j → Begins (labels ++ j ∷ []) p
begins_more labels j p s e i l = elim (cases_lt i (length labels)) [
  | inl b ↦ s i b ∙ sym (longer-before labels (labels ++ j ∷ []) j refl i b)
  | inr b ↦ (let n : length (labels ++ j ∷ []) ≡ length labels + 1 = length-append labels (j ∷ []) in let k : length labels ≡ i = omega arith in
      sym (ap p k) ∙ e ∙ sym (longer-last labels (labels ++ j ∷ []) j refl) ∙ ap (slice_index (labels ++ j ∷ [])) k)
]

-- labels of fewer elements
pub wider : (n : ℕ) (labels : List ℕ) → n ≤ 16 → AreLabels n labels → AreLabels 16 labels
wider n labels m h = record {
  few = let f : length labels ≤ n = h.few in omega arith;
  below = λ i l. let b : slice_index labels i < n = h.below i l in omega arith;
  apart = h.apart;
}
