-- Lists that come near each value of a kind, so that a search through them decides whether there is one with a property.
use Rattle.std.proofs.Common.{◌≡◌, ℕ, zero, suc, ◌+◌, ◌<◌, ◌≤◌, refl, sym, ap, subst, arith, Bool, true, false, List, [], ◌∷◌, ◌++◌, map, length, inl, inr}
use Rattle.std.specs.Prelude.{flat_map}
use Rattle.std.specs.List.{range_with_len}
use Rattle.std.proofs.lemmas.Bool.{cases_lt}
use Rattle.matroid_laws.proofs.Prefix.{at_last, at_last-before, at_last-own}
use Rattle.existence.specs.Decided.{IsDecided}
use Rattle.existence.proofs.Deciding.{IsIn, some_in, along}

-- some value of the list is as good as each value with V
pub record IsCover {X : Type 0} (V : X → Type 0) (R : X → X → Type 0) (xs : List X) : Type 0 where
  pub near : (x : X) → V x → (y : X) × IsIn y xs × R x y

-- so there is a value with a property, or none, where the property goes over to what is as good
pub some_covered : {X : Type 0} (V : X → Type 0) (R : X → X → Type 0) (xs : List X) → IsCover V R xs → (P : X → Type 0) → ((x : X) → P x → V x)
    → ((x y : X) → R x y → P x → P y) → ((x : X) → IsDecided (P x)) → IsDecided ((x : X) × P x)
some_covered V R xs c P valid same d =
    along (some_in xs P d) (λ w. (w.0, w.2)) (λ w. (let n = c.near w.0 (valid w.0 w.1) in (n.0, n.1, same w.0 n.0 n.2 w.1)))

-- elements of lists that are made of lists
pub in_map : {X Y : Type 0} (f : X → Y) (x : X) (xs : List X) → IsIn x xs → IsIn (f x) (map f xs)
in_map f x [] i = absurd i
in_map f x (y ∷ ys) i = elim i [ inl e ↦ inl (ap f e) | inr j ↦ inr (in_map f x ys j) ]

pub in_left : {X : Type 0} (x : X) (xs ys : List X) → IsIn x xs → IsIn x (xs ++ ys)
in_left x [] ys i = absurd i
in_left x (z ∷ xs) ys i = elim i [ inl e ↦ inl e | inr j ↦ inr (in_left x xs ys j) ]

pub in_right : {X : Type 0} (x : X) (xs ys : List X) → IsIn x ys → IsIn x (xs ++ ys)
in_right x [] ys i = i
in_right x (z ∷ xs) ys i = inr (in_right x xs ys i)

pub in_flat : {X Y : Type 0} (f : X → List Y) (x : X) (y : Y) (xs : List X) → IsIn x xs → IsIn y (f x) → IsIn y (flat_map f xs)
in_flat f x y [] i j = absurd i
in_flat f x y (z ∷ xs) i j =
    elim i [
      | inl e ↦ in_left y (f z) (flat_map f xs) (subst (λ (z : _). IsIn y (f z)) (sym e) j)
      | inr k ↦ in_right y (f z) (flat_map f xs) (in_flat f x y xs k j)
    ]

pub in_range : (n a k : ℕ) → a ≤ k → k < a + n → IsIn k (range_with_len a n)
in_range zero a k l m = absurd (omega arith)
in_range (suc n) a k l m = elim (cases_lt a k) [ inl b ↦ inr (in_range n (a + 1) k (omega arith) (omega arith)) | inr g ↦ inl (omega arith) ]

-- all lists of n elements of a list
pub words : {X : Type 0} → List X → ℕ → List (List X)
words B zero = [] ∷ []
words B (suc n) = flat_map (λ x. map (λ w. x ∷ w) (words B n)) B

-- a list of n elements is among them
pub in_words : {X : Type 0} (B : List X) (n : ℕ) (w : List X) → length w ≡ n → ((x : X) → IsIn x w → IsIn x B) → IsIn w (words B n)
unfolding words
in_words B zero [] l h = inl refl
in_words B zero (x ∷ w) l h = absurd (omega (arith, l))
in_words B (suc n) [] l h = absurd (omega (arith, l))
in_words B (suc n) (x ∷ w) l h =
    in_flat (λ x. map (λ w. x ∷ w) (words B n)) x (x ∷ w) B (h x (inl refl)) (in_map (λ w. x ∷ w) w (words B n)
    (in_words B n w (omega (arith, l)) (λ y i. h y (inr i))))

-- ---- numbers, functions and pairs

-- the numbers below n
pub number_cover : (n : ℕ) → IsCover (λ x. x < n) (λ x y. x ≡ y) (range_with_len 0 n)
number_cover n = record { near = λ x l. (x, in_range n 0 x (omega arith) (omega arith), refl) }

-- true and false
pub truth_cover : IsCover (λ (b : Bool). Unit {0}) (λ a b. a ≡ b) (true ∷ false ∷ [])
truth_cover = record { near = λ b _. (b, (elim b as (λ b. IsIn b (true ∷ false ∷ [])) [ true ↦ inl refl | false ↦ inr (inl refl) ]), refl) }

-- the functions on the numbers below n with values in a list
pub functions : {X : Type 0} → X → List X → ℕ → List (ℕ → X)
functions d xs zero = (λ _. d) ∷ []
functions d xs (suc n) = flat_map (λ x. map (at_last n x) (functions d xs n)) xs

module _ {X : Type 0} (V : X → Type 0) (R : X → X → Type 0) (xs : List X) (c : IsCover V R xs) (d : X) where
  pub function_cover : (n : ℕ) → IsCover (λ (f : ℕ → X). (j : ℕ) → j < n → V (f j)) (λ f g. (j : ℕ) → j < n → R (f j) (g j)) (functions d xs n)
  unfolding functions
  function_cover zero = record { near = λ f _. ((λ _. d), inl refl, λ j l. absurd (omega arith)) }
  function_cover (suc n) = record {
    near = λ f v.
        let rest = (let r = function_cover n in r.near f (λ j l. v j (omega arith))) in
        let last = c.near (f n) (v n (omega arith)) in (
          at_last n last.0 rest.0,
          in_flat (λ x. map (at_last n x) (functions d xs n)) last.0 (at_last n last.0 rest.0) xs last.1
              (in_map (at_last n last.0) rest.0 (functions d xs n) rest.1),
          λ j l. elim (cases_lt j n) [
            | inl b ↦ subst (R (f j)) (sym (at_last-before n last.0 rest.0 j b)) (rest.2 j b)
            | inr g ↦ (let e : n ≡ j = omega arith in subst (λ k. R (f k) (at_last n last.0 rest.0 k)) e
                (subst (R (f n)) (sym (at_last-own n last.0 rest.0)) last.2))
          ],
        );
  }

-- the pairs of elements of two lists
pub pairs : {X Y : Type 0} → List X → List Y → List (X × Y)
pairs xs ys = flat_map (λ x. map (λ y. (x, y)) ys) xs

pub in_pairs : {X Y : Type 0} (xs : List X) (ys : List Y) (x : X) (y : Y) → IsIn x xs → IsIn y ys → IsIn (x, y) (pairs xs ys)
unfolding pairs
in_pairs xs ys x y i j = in_flat (λ x. map (λ y. (x, y)) ys) x (x, y) xs i (in_map (λ y. (x, y)) y ys j)

-- pairs are covered where their parts are
pub pair_cover : {X Y : Type 0} (V : X → Type 0) (R : X → X → Type 0) (xs : List X) (W : Y → Type 0) (S : Y → Y → Type 0) (ys : List Y) → IsCover V R xs
    → IsCover W S ys
    → IsCover (λ (p : X × Y). V p.0 × W p.1) (λ p q. R p.0 q.0 × S p.1 q.1) (pairs xs ys)
pair_cover V R xs W S ys c d = record {
  near = λ p v.
      let a = c.near p.0 v.0 in
      let b = d.near p.1 v.1 in
      ((a.0, b.0), in_pairs xs ys a.0 b.0 a.1 b.1, (a.2, b.2));
}
