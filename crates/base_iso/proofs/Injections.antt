-- A map that is one to one on a list without repeats.
use Rattle.std.proofs.Common.{◌≡◌, ◌≢◌, ℕ, ◌+◌, ◌<◌, ◌≤◌, sym, ◌∙◌, ap, refl, arith, Bool, true, false, cond, List, [], ◌∷◌, length, inl, inr}
use Rattle.std.specs.List.{AllPairs, Contains, slice_index_or, remove, count_by}
use Rattle.std.specs.List.Sorted.{IsStrictlyIncreasing}
use Rattle.std.proofs.lemmas.Bool.{cases_Bool, cond-true}
use Rattle.std.proofs.lemmas.List.{get_or_default}
use Rattle.std.proofs.lemmas.List.Kept.{AllPairs-from_increasing}
use Rattle.std.proofs.lemmas.List.Sums.{sum_by-cons, sum_by-remove}
use Rattle.std.proofs.lemmas.Grind.{in_remove}
use Rattle.matrix_lemmas.proofs.Lists.{here, there, rest_pairs, first_pairs}

-- a rising list has no repeats
pub rising_apart : (xs : List ℕ) → IsStrictlyIncreasing xs → AllPairs (λ x y. x ≢ y) xs
rising_apart xs h i j d l m = let b : slice_index_or xs i d < slice_index_or xs j d = AllPairs-from_increasing xs h i j d l m in λ e. omega arith

pub count_yes : (P : ℕ → Bool) (x : ℕ) (xs : List ℕ) → P x ≡ true → count_by P (x ∷ xs) ≡ 1 + count_by P xs
count_yes P x xs e = sum_by-cons (λ z. cond (P z) 1 0) x xs ∙ ap (λ b. cond b 1 0 + count_by P xs) e

pub count_no : (P : ℕ → Bool) (x : ℕ) (xs : List ℕ) → P x ≡ false → count_by P (x ∷ xs) ≡ 0 + count_by P xs
count_no P x xs e = sum_by-cons (λ z. cond (P z) 1 0) x xs ∙ ap (λ b. cond b 1 0 + count_by P xs) e

one_more : (Q : ℕ → Bool) (y x : ℕ) → y ≡ x → Q x ≡ true → ◌≡◌ {A = ℕ} (cond (Q y) 1 0) 1
one_more Q y x e q = cond-true (Q y) 1 0 (ap Q e ∙ q)

-- at most as many elements pass P as pass Q, where f takes those one to one to these
pub count_most : (xs ys : List ℕ) → AllPairs (λ x y. x ≢ y) xs → (P Q : ℕ → Bool) (f : ℕ → ℕ)
    → ((x : ℕ) → Contains xs x → P x ≡ true → Contains ys (f x) × (Q (f x) ≡ true))
    → ((x y : ℕ) → Contains xs x → Contains xs y → f x ≡ f y → x ≡ y) → count_by P xs ≤ count_by Q ys
count_most [] ys d P Q f g i = omega arith
count_most (x ∷ xs) ys d P Q f g i =
    elim (cases_Bool (P x)) [
      | inl t ↦ passing (λ zs. count_most xs zs (rest_pairs (λ x y. x ≢ y) x xs d) P Q f) t (g x (here x xs) t)
      | inr o ↦ (let e : count_by P (x ∷ xs) ≡ 0 + count_by P xs = count_no P x xs o in
          let r : count_by P xs ≤ count_by Q ys = count_most xs ys (rest_pairs (λ x y. x ≢ y) x xs d) P Q f (λ z m. g z (there x z xs m))
          (λ z w m n. i z w (there x z xs m) (there x w xs n)) in
          omega arith)
    ]
  where
    passing : ((zs : List ℕ) → ((z : ℕ) → Contains xs z → P z ≡ true → Contains zs (f z) × (Q (f z) ≡ true)) →
        ((z w : ℕ) → Contains xs z → Contains xs w → f z ≡ f w → z ≡ w) → count_by P xs ≤ count_by Q zs)
        → P x ≡ true → Contains ys (f x) × (Q (f x) ≡ true) → count_by P (x ∷ xs) ≤ count_by Q ys
    passing most t ((k, l, e), q) =
        let r : count_by P xs ≤ count_by Q (remove ys k) = most (remove ys k) keep (λ z w m n. i z w (there x z xs m) (there x w xs n)) in
        let s : count_by Q (remove ys k) + cond (Q (slice_index_or ys k (f x))) 1 0 ≡ count_by Q ys = sum_by-remove (λ z. cond (Q z) 1 0) ys k (f x) l in
        let one : ◌≡◌ {A = ℕ} (cond (Q (slice_index_or ys k (f x))) 1 0) 1 = one_more Q (slice_index_or ys k (f x)) (f x) e q in
        let y : count_by P (x ∷ xs) ≡ 1 + count_by P xs = count_yes P x xs t in
        omega arith
      where
        keep : (z : ℕ) → Contains xs z → P z ≡ true → Contains (remove ys k) (f z) × (Q (f z) ≡ true)
        keep z m p =
            let h = g z (there x z xs m) p in
            (in_keep z m h.0, h.1)
          where
            in_keep : (z : ℕ) → Contains xs z → Contains ys (f z) → Contains (remove ys k) (f z)
            in_keep z m (j, b, o) = (in_remove ys k j (f z) l b (sym o)
                (λ w. first_pairs (λ x y. x ≢ y) x z xs d m
                (i x z (here x xs) (there x z xs m)
                (sym e ∙ get_or_default ys k (f x) (f z) l ∙ ap (λ n. slice_index_or ys n (f z)) (sym w) ∙ o)))).1

-- all pass
pub count_all : (xs : List ℕ) → count_by (λ _. true) xs ≡ length xs
count_all [] = refl
count_all (x ∷ xs) = let e : count_by (λ _. true) xs ≡ length xs = count_all xs in
    let s : count_by (λ _. true) (x ∷ xs) ≡ 1 + count_by (λ _. true) xs = sum_by-cons (λ _. 1) x xs in
    omega arith
