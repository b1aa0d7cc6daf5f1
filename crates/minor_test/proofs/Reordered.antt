-- Each embedding can be changed to one that keeps the order of twins.
use Rattle.std.proofs.Common.{◌≡◌, ◌≢◌, ℕ, zero, suc, ◌+◌, ◌*◌, ◌^◌, ◌<◌, ◌≤◌, refl, sym, ◌∙◌, ap, subst, arith, Bool, true, false, cond, inl, inr, ◌⊎◌, ◌||◌, List, Option, Some, None, slice_index_or}
use Rattle.std.specs.Bool.{◌==◌}
use Rattle.std.proofs.lemmas.Bool.{cases_lt, cases_eq}
use Rattle.matroid_theory.specs.Rep.{Rep, size}
use Rattle.matroid_theory.specs.Matroid.{members}
use Rattle.matroid_theory.specs.Minor.{Matroid, image, IsMinorBy}
use Rattle.matrix_lemmas.proofs.Sums.{same_number, other_number}
use Rattle.matrix_lemmas.proofs.Masks.{mask, mask-below, members-mask}
use Rattle.matrix_lemmas.proofs.Bases.{search_below}
use Rattle.minor_test.specs.Searches.{image_with}
use Rattle.minor_test.specs.Twins.{swapped, IsSwapped, AreTwins, AreTwinsOf, KeepsOrder}
use Rattle.minor_test.proofs.Images.{image_has, image_member}
use Rattle.minor_test.proofs.Embeddings.{basis_iff}

-- ---- two elements in each other's place

pub swapped_first : (i j : ℕ) → swapped i j i ≡ j
swapped_first i j = ap (λ b. cond b j (cond (i == j) i i)) (same_number i)

pub swapped_second : (i j : ℕ) → i < j → swapped i j j ≡ i
swapped_second i j l = ap (λ b. cond b j (cond (j == j) i j)) (other_number j i (λ e. absurd (omega arith))) ∙ ap (λ b. cond b i j) (same_number j)

pub swapped_other : (i j x : ℕ) → x ≢ i → x ≢ j → swapped i j x ≡ x
swapped_other i j x n m = ap (λ b. cond b j (cond (x == j) i x)) (other_number x i n) ∙ ap (λ b. cond b i x) (other_number x j m)

-- what holds at the two and at the others
pub swapped_cases : (i j x : ℕ) → (x ≡ i) ⊎ ((x ≡ j) ⊎ ((x ≢ i) × (x ≢ j)))
swapped_cases i j x = elim (cases_eq x i) [
  | inl e ↦ inl e
  | inr n ↦ elim (cases_eq x j) [ inl e ↦ inr (inl e) | inr m ↦ inr (inr (n, m)) ]
]

pub swapped_back : (i j x : ℕ) → i < j → swapped i j (swapped i j x) ≡ x
swapped_back i j x l = elim (swapped_cases i j x) [
  | inl e ↦ ap (λ y. swapped i j (swapped i j y)) e ∙ ap (swapped i j) (swapped_first i j) ∙ swapped_second i j l ∙ sym e
  | inr h ↦ elim h [
    | inl e ↦ ap (λ y. swapped i j (swapped i j y)) e ∙ ap (swapped i j) (swapped_second i j l) ∙ swapped_first i j ∙ sym e
    | inr (n, m) ↦ ap (swapped i j) (swapped_other i j x n m) ∙ swapped_other i j x n m
  ]
]

pub swapped_below : (i j x n : ℕ) → i < j → j < n → x < n → swapped i j x < n
swapped_below i j x n l m o = elim (swapped_cases i j x) [
  | inl e ↦ (let d : swapped i j x ≡ j = ap (swapped i j) e ∙ swapped_first i j in omega arith)
  | inr h ↦ elim h [
    | inl e ↦ (let d : swapped i j x ≡ i = ap (swapped i j) e ∙ swapped_second i j l in omega arith)
    | inr (p, q) ↦ (let d : swapped i j x ≡ x = swapped_other i j x p q in omega arith)
  ]
]

-- ---- the images of a sequence in one number, the first image highest

abbrev value : ℕ → (ℕ → ℕ) → ℕ
value zero f = 0
value (suc n) f = value n f * 16 + f n

value_same : (n : ℕ) (f g : ℕ → ℕ) → ((x : ℕ) → x < n → g x ≡ f x) → value n g ≡ value n f
value_same zero f g h = refl
value_same (suc n) f g h = λ i. value_same n f g (λ x l. h x (omega arith)) i * 16 + h n (omega arith) i

value_lower : (n i : ℕ) (f g : ℕ → ℕ) → i < n → ((x : ℕ) → x < n → g x < 16) → ((x : ℕ) → x < i → g x ≡ f x) → g i < f i → value n g < value n f
value_lower zero i f g l b h s = absurd (omega arith)
value_lower (suc n) i f g l b h s =
    elim (cases_lt i n) [
      | inl m ↦ (let v : value n g < value n f = value_lower n i f g m (λ x o. b x (omega arith)) h s in let d : g n < 16 = b n (omega arith) in omega arith)
      | inr m ↦ (let e : i ≡ n = omega arith in
          let v : value n g ≡ value n f = value_same n f g (λ x o. h x (omega arith)) in
          let d : g n < f n = subst (λ (x : ℕ). g x < f x) e s in omega arith)
    ]

-- two answers that follow from each other
same_answers : (a b : Bool) → (a ≡ true → b ≡ true) → (b ≡ true → a ≡ true) → a ≡ b
same_answers true b h k = sym (h refl)
same_answers false true h k = k refl
same_answers false false h k = refl

module _ (N : Matroid) (M : Rep) (C : ℕ → Bool) where
  -- an embedding with the images of twins in each other's place
  module _ (i j : ℕ) (t : AreTwins N i j) (f : ℕ → ℕ) (h : IsMinorBy N M f C) where
    abbrev turned : ℕ → ℕ
    turned x = f (swapped i j x)

    back : (x : ℕ) → swapped i j (swapped i j x) ≡ x
    back x = swapped_back i j x t.before

    inside : (x : ℕ) → x < N.size → swapped i j x < N.size
    inside x l = swapped_below i j x N.size t.before t.below l

    -- the image of a set is that of the set with i and j in each other's place
    same_image : (X Y : ℕ) → IsSwapped N.size i j X Y → (k : ℕ) → image N.size f (members Y) k ≡ image N.size turned (members X) k
    same_image X Y e k = same_answers (image N.size f (members Y) k) (image N.size turned (members X) k)
        (λ o. let (y, l, m, d) = image_member N.size f (members Y) k o in
        ap (image N.size turned (members X)) (sym (ap f (back y) ∙ d))
        ∙ image_has N.size turned (members X) (swapped i j y) (inside y l) (sym (e y l) ∙ m))
        (λ o. let (x, l, m, d) = image_member N.size turned (members X) k o in
        ap (image N.size f (members Y)) (sym d)
        ∙ image_has N.size f (members Y) (swapped i j x) (inside x l) (e (swapped i j x) (inside x l) ∙ ap (members X) (back x) ∙ m))

    turned_embedding : IsMinorBy N M turned C
    turned_embedding = record {
      injection = record {
        below = λ x l. h.injection.below (swapped i j x) (inside x l);
        apart = λ x y l m e. sym (back x) ∙ ap (swapped i j) (h.injection.apart (swapped i j x) (swapped i j y) (inside x l) (inside y m) e) ∙ back y;
      };
      outside = λ x l. h.outside (swapped i j x) (inside x l);
      contracted = h.contracted;
      bases = λ X l.
          let Y : ℕ = mask N.size (λ x. members X (swapped i j x)) in
          let m : mask N.size (λ x. members X (swapped i j x)) < 2 ^ N.size = mask-below N.size (λ x. members X (swapped i j x)) in
          let e : IsSwapped N.size i j X (mask N.size (λ x. members X (swapped i j x))) = members-mask N.size (λ x. members X (swapped i j x)) in
          let b = basis_iff M (image_with N.size f C (members (mask N.size (λ x. members X (swapped i j x))))) (image_with N.size turned C (members X))
          (λ k _. ap (λ a. a || C k) (same_image X (mask N.size (λ x. members X (swapped i j x))) e k))
          (h.bases (mask N.size (λ x. members X (swapped i j x))) m) in (
            (λ p. b.0 (t.bases X (mask N.size (λ x. members X (swapped i j x))) l m e p)),
            (λ q. t.bases (mask N.size (λ x. members X (swapped i j x))) X m l (λ x o. sym (e (swapped i j x) (inside x o) ∙ ap (members X) (back x))) (b.1 q)),
          );
    }

    turned_lower : size M ≤ 16 → f j ≤ f i → value N.size turned < value N.size f
    turned_lower few d =
        value_lower N.size i f turned (let a : i < j = t.before in let b : j < N.size = t.below in omega arith)
        (λ x l. let b : f (swapped i j x) < size M = h.injection.below (swapped i j x) (inside x l) in omega arith)
        (λ x l. ap f (swapped_other i j x (λ e. absurd (omega arith)) (λ e. absurd (let a : i < j = t.before in omega arith))))
        (let e : turned i ≡ f j = ap f (swapped_first i j) in
        let ne : f i ≢ f j = (λ s.
        absurd (let c : i ≡ j = h.injection.apart i j (let a : i < j = t.before in let b : j < N.size = t.below in omega arith)
        t.below s in let a : i < j = t.before in omega arith)) in
        omega arith)

  module _ (few : size M ≤ 16) (twins : List (Option ℕ)) (t : AreTwinsOf N twins) where
    -- twins whose images fall, or all keep the order
    at_element : (f : ℕ → ℕ) (j : ℕ) (o : Option ℕ) → slice_index_or twins j None ≡ o
        → ((i : ℕ) × (slice_index_or twins j None ≡ Some i) × (f j ≤ f i)) ⊎ ((i : ℕ) → slice_index_or twins j None ≡ Some i → f i < f j)
    at_element f j None e = inr (λ i d. cc)
    at_element f j (Some i) e = elim (cases_lt (f i) (f j)) [
      | inl l ↦ inr (λ k d. let s : i ≡ k = cc in subst (λ (x : ℕ). f x < f j) s l)
      | inr g ↦ inl (i, e, g)
    ]

    reordered_within : (fuel : ℕ) (f : ℕ → ℕ) → value N.size f < fuel → IsMinorBy N M f C → (g : ℕ → ℕ) × KeepsOrder twins g × IsMinorBy N M g C
    reordered_within zero f l h = absurd (omega arith)
    reordered_within (suc fuel) f l h =
        elim (search_below N.size (λ j. (i : ℕ) × (slice_index_or twins j None ≡ Some i) × (f j ≤ f i))
        (λ j. (i : ℕ) → slice_index_or twins j None ≡ Some i → f i < f j) (λ j _. at_element f j (slice_index_or twins j None) refl)) [
          | inr y ↦ (f, (λ i j e. y j (t i j e).below i e), h)
          | inl (j, m, (i, e, d)) ↦ (let v : value N.size (turned i j (t i j e) f h) < value N.size f = turned_lower i j (t i j e) f h few d in
              reordered_within fuel (turned i j (t i j e) f h) (omega arith) (turned_embedding i j (t i j e) f h))
        ]

    pub reordered : (f : ℕ → ℕ) → IsMinorBy N M f C → (g : ℕ → ℕ) × KeepsOrder twins g × IsMinorBy N M g C
    reordered f h = reordered_within (suc (value N.size f)) f (omega arith) h
