-- Lists of keys of values: of none, of one, of two kinds together, of images, and how often a key stands in one.
use Rattle.std.proofs.Common.{◌≡◌, ◌≢◌, ◌⊎◌, ◌↔◌, ℕ, zero, suc, ◌+◌, Bool, true, false, cond, List, [], ◌∷◌, ◌++◌, map, length, inl, inr, refl, sym, subst, arith, bytes_eq, zero-add}
use Rattle.std.specs.List.{AllPairs, AllZip, Contains}
use Rattle.std.proofs.lemmas.List.Elements.{Contains-append_left, Contains-append_right, Contains-append_cases}
use Rattle.std.proofs.lemmas.List.Sums.{sum_by-cons}
use Rattle.std.proofs.lemmas.Slice.Eq.{bytes_eq-Decides}
use Rattle.std.proofs.lemmas.Slice.Zip.{AllZip-long}
use Rattle.matroid_theory.specs.Level.{IsCount}
use Rattle.matrix_lemmas.proofs.Lists.{there}
use Rattle.level_driver.proofs.Counts.{append_apart, map_apart, Contains-map, Contains-from_map, count_both, count_none, count_one, count_same}
use Rattle.workers.specs.Keys.{AreKeysOf, times}

module _ {X : Type 0} where
  first : (x : X) (xs : List X) → Contains (x ∷ xs) x
  first x xs = (0, omega arith, refl)

  first_or_later : (x y : X) (xs : List X) → Contains (x ∷ xs) y → (y ≡ x) ⊎ Contains xs y
  first_or_later x y xs (zero, l, e) = inl (sym e)
  first_or_later x y xs (suc k, l, e) = inr (k, omega arith, e)

  not_later : (x : X) (xs : List X) → AllPairs (λ x y. x ≢ y) (x ∷ xs) → ¬ (Contains xs x)
  not_later x xs apart (k, l, e) = apart 0 (suc k) x (omega arith) (omega arith) (sym e)

  later_apart : (x : X) (xs : List X) → AllPairs (λ x y. x ≢ y) (x ∷ xs) → AllPairs (λ x y. x ≢ y) xs
  later_apart x xs apart i j d l m = apart (suc i) (suc j) d (omega arith) (omega arith)

module _ {X : Type 0} (R : X → List ℕ → Type 0) where
  zip_both : (xs ys : List X) (ks ls : List (List ℕ)) → AllZip R xs ks → AllZip R ys ls → AllZip R (xs ++ ys) (ks ++ ls)
  zip_both [] ys [] ls a b = b
  zip_both [] ys (k ∷ ks) ls a b = absurd a
  zip_both (x ∷ xs) ys [] ls a b = absurd a
  zip_both (x ∷ xs) ys (k ∷ ks) ls a b = (a.0, zip_both xs ys ks ls a.1 b)

  pub keys_same : (P Q : X → Type 0) (keys : List (List ℕ)) → ((x : X) → P x ↔ Q x) → AreKeysOf P R keys → AreKeysOf Q R keys
  keys_same P Q keys same h = record {
    list = h.list;
    apart = h.apart;
    exact = λ x. let e = h.exact x in let s = same x in (λ c. s.0 (e.0 c), λ q. e.1 (s.1 q));
    packed = h.packed;
  }

  pub keys_none : (P : X → Type 0) → ((x : X) → ¬ (P x)) → AreKeysOf P R []
  keys_none P none = record {
    list = [];
    apart = λ i j d l m. absurd (omega arith);
    exact = λ x. (λ c. let l = c.1 in absurd (omega arith), λ p. absurd (none x p));
    packed = tt;
  }

  pub keys_one : (x : X) (key : List ℕ) → R x key → AreKeysOf (λ y. y ≡ x) R (key ∷ [])
  keys_one x key r = record {
    list = x ∷ [];
    apart = λ i j d l m. absurd (omega arith);
    exact = λ y. (only y, λ e. (0, omega arith, sym e));
    packed = (r, tt);
  }
    where
      only : (y : X) → Contains (x ∷ []) y → y ≡ x
      only y (zero, l, e) = sym e
      only y (suc k, l, e) = absurd (omega arith)

  pub keys_both : (P Q S : X → Type 0) (ks ls : List (List ℕ)) → AreKeysOf P R ks → AreKeysOf Q R ls → ((x : X) → P x → Q x → ⊥)
      → ((x : X) → S x ↔ (P x ⊎ Q x)) → AreKeysOf S R (ks ++ ls)
  keys_both P Q S ks ls p q apart both = record {
    list = p.list ++ q.list;
    apart = append_apart p.list q.list p.apart q.apart (λ x a b. let e = p.exact x in let d = q.exact x in apart x (e.0 a) (d.0 b));
    exact = λ x. (
      λ c. let e = p.exact x in let d = q.exact x in let s = both x in
          s.1 (elim (Contains-append_cases p.list q.list x c) [ inl a ↦ inl (e.0 a) | inr b ↦ inr (d.0 b) ]),
      λ s. let e = p.exact x in let d = q.exact x in let s' = both x in
          elim (s'.0 s) [ inl a ↦ Contains-append_left p.list q.list x (e.1 a) | inr b ↦ Contains-append_right p.list q.list x (d.1 b) ],
    );
    packed = zip_both p.list q.list ks ls p.packed q.packed;
  }

  -- there are as many keys as values
  pub keys_count : (P : X → Type 0) (keys : List (List ℕ)) → AreKeysOf P R keys → IsCount P (length keys)
  keys_count P keys h = record { list = h.list; apart = h.apart; exact = h.exact; number = sym (AllZip-long R h.list keys h.packed) }

  -- a key stands as often as there are values with that key
  module _ (x : X) (xs : List X) (k key : List ℕ) (n : ℕ) (one : (x' : X) (k l : List ℕ) → Contains (x ∷ xs) x' → R x' k → R x' l → k ≡ l)
      (apart : AllPairs (λ x y. x ≢ y) (x ∷ xs)) (here : R x k) (rest : IsCount (λ y. Contains xs y × R y key) n) where
    times_by : (b : Bool) → bytes_eq key k ≡ b → IsCount (λ y. Contains (x ∷ xs) y × R y key) (cond b 1 0 + n)
    times_by true e =
        let same : key ≡ k = (bytes_eq-Decides key k).0 e in
        count_both (λ y. y ≡ x) (λ y. Contains xs y × R y key) (λ y. Contains (x ∷ xs) y × R y key) 1 n (count_one x) rest
        (λ y s h. not_later x xs apart (subst (Contains xs) s h.0))
        (λ y. (
          λ h. elim (first_or_later x y xs h.0) [ inl s ↦ inl s | inr c ↦ inr (c, h.1) ],
          λ h. elim h [
            | inl s ↦ (subst (Contains (x ∷ xs)) (sym s) (first x xs), subst (λ y. R y key) (sym s) (subst (R x) (sym same) here))
            | inr c ↦ (there x y xs c.0, c.1)
          ],
        ))
    times_by false e =
        count_same (λ y. Contains xs y × R y key) (λ y. Contains (x ∷ xs) y × R y key) (0 + n)
        (λ y. (
          λ h. (there x y xs h.0, h.1),
          λ h. elim (first_or_later x y xs h.0) [
            | inl s ↦ (
                let same : key ≡ k = one x key k (first x xs) (subst (λ y. R y key) s h.1) here in
                let yes : bytes_eq key k ≡ true = (bytes_eq-Decides key k).1 same in
                absurd (cc (yes, e)))
            | inr c ↦ (c, h.1)
          ],
        ))
        (subst (IsCount (λ y. Contains xs y × R y key)) (sym (zero-add n)) rest)

  times_in : (xs : List X) (ks : List (List ℕ)) (key : List ℕ) → ((x : X) (k l : List ℕ) → Contains xs x → R x k → R x l → k ≡ l)
      → AllPairs (λ x y. x ≢ y) xs → AllZip R xs ks → IsCount (λ x. Contains xs x × R x key) (times key ks)
  times_in [] [] key one apart z = count_none (λ x. Contains [] x × R x key) (λ x h. let l = h.0.1 in absurd (omega arith))
  times_in [] (k ∷ ks) key one apart z = absurd z
  times_in (x ∷ xs) [] key one apart z = absurd z
  times_in (x ∷ xs) (k ∷ ks) key one apart z =
      subst (IsCount (λ y. Contains (x ∷ xs) y × R y key)) (sym (sum_by-cons (λ (l : List ℕ). cond (bytes_eq key l) 1 0) k ks))
      (times_by x xs k key (times key ks) one apart z.0
      (times_in xs ks key (λ y l m c. one y l m (there x y xs c)) (later_apart x xs apart) z.1) (bytes_eq key k) refl)

  pub keys_times : (P : X → Type 0) (keys : List (List ℕ)) → ((x : X) (k l : List ℕ) → P x → R x k → R x l → k ≡ l) → AreKeysOf P R keys
      → (key : List ℕ) → IsCount (λ x. P x × R x key) (times key keys)
  keys_times P keys one h key =
      count_same (λ x. Contains h.list x × R x key) (λ x. P x × R x key) (times key keys)
      (λ x. let e = h.exact x in (λ c. (e.0 c.0, c.1), λ p. (e.1 p.0, p.1)))
      (times_in h.list keys key (λ x k l c. let e = h.exact x in one x k l (e.0 c)) h.apart h.packed)

module _ {X Y : Type 0} (f : X → Y) (R : X → List ℕ → Type 0) (T : Y → List ℕ → Type 0) where
  zip_images : (xs : List X) (keys : List (List ℕ)) → ((x : X) (key : List ℕ) → Contains xs x → R x key → T (f x) key) → AllZip R xs keys
      → AllZip T (map f xs) keys
  zip_images [] [] each z = tt
  zip_images [] (k ∷ ks) each z = absurd z
  zip_images (x ∷ xs) [] each z = absurd z
  zip_images (x ∷ xs) (k ∷ ks) each z = (each x k (first x xs) z.0, zip_images xs ks (λ y l c. each y l (there x y xs c)) z.1)

  -- the keys of the images under a map that takes no two values to one
  pub keys_images : (P : X → Type 0) (keys : List (List ℕ)) → ((x y : X) → f x ≡ f y → x ≡ y)
      → ((x : X) (key : List ℕ) → P x → R x key → T (f x) key) → AreKeysOf P R keys → AreKeysOf (λ y. (x : X) × P x × (f x ≡ y)) T keys
  keys_images P keys one each h = record {
    list = map f h.list;
    apart = map_apart f h.list one h.apart;
    exact = λ y. (
      λ c. let b = Contains-from_map f h.list y c in let e = h.exact b.0 in (b.0, e.0 b.1, b.2),
      λ b. let e = h.exact b.0 in subst (Contains (map f h.list)) b.2 (Contains-map f h.list b.0 (e.1 b.1)),
    );
    packed = zip_images h.list keys (λ x key c. let e = h.exact x in each x key (e.0 c)) h.packed;
  }

-- the same keys by another rule
pub keys_by : {X : Type 0} (P : X → Type 0) (R T : X → List ℕ → Type 0) (keys : List (List ℕ)) → ((x : X) (key : List ℕ) → P x → R x key → T x key)
    → AreKeysOf P R keys → AreKeysOf P T keys
keys_by {X = X} P R T keys each h = record {
  list = h.list;
  apart = h.apart;
  exact = h.exact;
  packed = other h.list keys (λ x key c. let e = h.exact x in each x key (e.0 c)) h.packed;
}
  where
    other : (xs : List X) (ks : List (List ℕ)) → ((x : X) (key : List ℕ) → Contains xs x → R x key → T x key) → AllZip R xs ks → AllZip T xs ks
    other [] [] each z = tt
    other [] (k ∷ ks) each z = absurd z
    other (x ∷ xs) [] each z = absurd z
    other (x ∷ xs) (k ∷ ks) each z = (each x k (first x xs) z.0, other xs ks (λ y l c. each y l (there x y xs c)) z.1)
