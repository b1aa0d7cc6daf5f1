-- The image of a set.
use Rattle.std.proofs.Common.{◌≡◌, ◌≢◌, ℕ, zero, suc, ◌+◌, ◌<◌, ◌≤◌, refl, sym, ◌∙◌, ap, arith, Bool, true, false, inl, inr, ◌||◌, ◌&&◌}
use Rattle.std.specs.Bool.{◌==◌}
use Rattle.std.proofs.lemmas.Bool.{cases_lt, cases_eq, and_left, and_right, and_parts, or_cases, false≢true, eqb-true}
use Rattle.matroid_theory.specs.Matrix.{size_below}
use Rattle.matroid_theory.specs.Minor.{image}
use Rattle.matrix_lemmas.proofs.Sums.{same_number, other_number}
use Rattle.matrix_lemmas.proofs.Masks.{size-same}
use Rattle.matrix_lemmas.proofs.Bases.{with_element, size_with}
use Rattle.minor_test.specs.Searches.{image_with}

-- the elements and their images below n alone count
pub image-same : (n : ℕ) (f g : ℕ → ℕ) (S T : ℕ → Bool) (j : ℕ) → ((x : ℕ) → x < n → f x ≡ g x) → ((x : ℕ) → x < n → S x ≡ T x) → image n f S j ≡ image n g T j
image-same zero f g S T j e s = refl
image-same (suc n) f g S T j e s = λ i. image-same n f g S T j (λ x l. e x (omega arith)) (λ x l. s x (omega arith)) i ||
    (s n (omega arith) i && (e n (omega arith) i == j))

or_out : (a b : Bool) → b ≡ false → (a || b) ≡ a
or_out true b e = refl
or_out false b e = e

-- a set of numbers below n has its image there
pub image_narrower : (n m : ℕ) (f : ℕ → ℕ) (S : ℕ → Bool) (j : ℕ) → n ≤ m → ((x : ℕ) → n ≤ x → x < m → S x ≡ false) → image m f S j ≡ image n f S j
image_narrower n zero f S j l out = let e : 0 ≡ n = omega arith in ap (λ k. image k f S j) e
image_narrower n (suc m) f S j l out =
    elim (cases_lt m n) [
      | inl b ↦ (let e : suc m ≡ n = omega arith in ap (λ k. image k f S j) e)
      | inr g ↦ or_out (image m f S j) (S m && (f m == j)) (and_left (S m) (f m == j) (out m g (omega arith)))
          ∙ image_narrower n m f S j g (λ x k o. out x k (omega arith))
    ]

-- what is the image of a member is in the image, and nothing else is
pub image_has : (n : ℕ) (f : ℕ → ℕ) (S : ℕ → Bool) (x : ℕ) → x < n → S x ≡ true → image n f S (f x) ≡ true
image_has zero f S x l t = absurd (omega arith)
image_has (suc n) f S x l t =
    elim (cases_lt x n) [
      | inl b ↦ ap (λ a. a || (S n && (f n == f x))) (image_has n f S x b t)
      | inr g ↦ (let e : x ≡ n = omega arith in
          ap (λ k. image n f S (f x) || (S k && (f k == f x))) (sym e)
          ∙ ap (λ a. image n f S (f x) || (a && (f x == f x))) t
          ∙ ap (λ a. image n f S (f x) || a) (same_number (f x))
          ∙ or_top (image n f S (f x)))
    ]
  where
    or_top : (a : Bool) → (a || true) ≡ true
    or_top true = refl
    or_top false = refl

pub image_lacks : (n : ℕ) (f : ℕ → ℕ) (S : ℕ → Bool) (j : ℕ) → ((x : ℕ) → x < n → f x ≢ j) → image n f S j ≡ false
image_lacks zero f S j h = refl
image_lacks (suc n) f S j h =
    or_out (image n f S j) (S n && (f n == j)) (and_right (S n) (f n == j) (other_number (f n) j (h n (omega arith))))
    ∙ image_lacks n f S j (λ x l. h x (omega arith))

-- one more element
regroup_next : (a b c : Bool) → ((a || b) || c) ≡ ((a || c) || b)
regroup_next true b c = refl
regroup_next false true true = refl
regroup_next false true false = refl
regroup_next false false true = refl
regroup_next false false false = refl

pub image_with_next : (n : ℕ) (f : ℕ → ℕ) (C S : ℕ → Bool) (j : ℕ) → S n ≡ true → image_with (suc n) f C S j ≡ (image_with n f C S j || (f n == j))
image_with_next n f C S j t =
    ap (λ a. (image n f S j || (a && (f n == j))) || C j) t ∙ regroup_next (image n f S j) (f n == j) (C j)

-- a set's image has as many numbers as the set, and C has the others
pub size_image_with : (n m : ℕ) (f : ℕ → ℕ) (C : ℕ → Bool) → ((x : ℕ) → x < n → f x < m) →
    ((x y : ℕ) → x < n → y < n → f x ≡ f y → x ≡ y) → ((x : ℕ) → x < n → C (f x) ≡ false)
    → size_below m (image_with n f C (λ _. true)) ≡ n + size_below m C
size_image_with zero m f C below apart out = let z : 0 + size_below m C ≡ size_below m C = omega arith in sym z
size_image_with (suc n) m f C below apart out =
    let h : size_below m (image_with n f C (λ _. true)) ≡ n + size_below m C =
    size_image_with n m f C (λ x l. below x (omega arith)) (λ x y l o. apart x y (omega arith) (omega arith)) (λ x l. out x (omega arith)) in
    let s : size_below m (image_with (suc n) f C (λ _. true)) ≡ size_below m (with_element (f n) (image_with n f C (λ _. true))) =
    size-same m (image_with (suc n) f C (λ _. true)) (with_element (f n) (image_with n f C (λ _. true))) (λ j _. as_element j) in
    let k : size_below m (with_element (f n) (image_with n f C (λ _. true))) ≡ size_below m (image_with n f C (λ _. true)) + 1 =
    size_with (f n) m (image_with n f C (λ _. true)) (below n (omega arith)) free in
    omega arith
  where
    commute : (a b : Bool) → (a || b) ≡ (b || a)
    commute true true = refl
    commute true false = refl
    commute false true = refl
    commute false false = refl

    turned : (a b : ℕ) → (a == b) ≡ (b == a)
    turned a b = elim (cases_eq a b) [
      | inl e ↦ ap (λ x. x == b) e ∙ ap (λ x. b == x) (sym e)
      | inr ne ↦ other_number a b ne ∙ sym (other_number b a (λ e. ne (sym e)))
    ]

    as_element : (j : ℕ) → image_with (suc n) f C (λ _. true) j ≡ with_element (f n) (image_with n f C (λ _. true)) j
    as_element j = image_with_next n f C (λ _. true) j refl ∙ commute (image_with n f C (λ _. true) j) (f n == j)
        ∙ ap (λ b. b || image_with n f C (λ _. true) j) (turned (f n) j)

    free : image_with n f C (λ _. true) (f n) ≡ false
    free = or_out (image n f (λ _. true) (f n)) (C (f n)) (out n (omega arith))
        ∙ image_lacks n f (λ _. true) (f n) (λ x l e. absurd (let i : x ≡ n = apart x n (omega arith) (omega arith) e in omega arith))

pub image_member : (n : ℕ) (f : ℕ → ℕ) (S : ℕ → Bool) (j : ℕ) → image n f S j ≡ true → (x : ℕ) × (x < n) × (S x ≡ true) × (f x ≡ j)
image_member zero f S j t = absurd (false≢true t)
image_member (suc n) f S j t =
    elim (or_cases (image n f S j) (S n && (f n == j)) t) [
      | inl o ↦ (let (x, l, m, e) = image_member n f S j o in (x, omega arith, m, e))
      | inr o ↦ (let (m, e) = and_parts (S n) (f n == j) o in (n, omega arith, m, eqb-true (f n) j e))
    ]
