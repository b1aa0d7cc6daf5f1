-- The number of the values with a property: of those with another, of two kinds together, and of their images.
use Rattle.std.proofs.Common.{◌≡◌, ◌≢◌, ◌⊎◌, ◌↔◌, ℕ, ◌+◌, ◌<◌, List, [], ◌∷◌, ◌++◌, map, length, zero, suc, inl, inr, refl, sym, ◌∙◌, ap, subst, arith, length-append}
use Rattle.std.specs.List.{slice_index_or, Contains, AllPairs, All}
use Rattle.std.proofs.lemmas.List.{length-map, get_or-map}
use Rattle.std.proofs.lemmas.List.Elements.{Contains-get_or, Contains-append_left, Contains-append_right, Contains-append_cases}
use Rattle.std.proofs.lemmas.List.Kept.{AllPairs-cons}
use Rattle.matroid_theory.specs.Level.{IsCount}
use Rattle.matrix_lemmas.proofs.Lists.{here, there}

module _ {X : Type 0} where
  pub count_same : (P Q : X → Type 0) (n : ℕ) → ((x : X) → P x ↔ Q x) → IsCount P n → IsCount Q n
  count_same P Q n same h = record {
    list = h.list;
    apart = h.apart;
    exact = λ x. let e = h.exact x in let s = same x in (λ c. s.0 (e.0 c), λ q. e.1 (s.1 q));
    number = h.number;
  }

  pub count_none : (P : X → Type 0) → ((x : X) → ¬ (P x)) → IsCount P 0
  count_none P none = record {
    list = [];
    apart = λ i j d l m. absurd (omega arith);
    exact = λ x. (λ c. let l = c.1 in absurd (omega arith), λ p. absurd (none x p));
    number = refl;
  }

  pub count_one : (x : X) → IsCount (λ y. y ≡ x) 1
  count_one x = record {
    list = x ∷ [];
    apart = λ i j d l m. absurd (omega arith);
    exact = λ y. (only y, λ e. (0, omega arith, sym e));
    number = refl;
  }
    where
      only : (y : X) → Contains (x ∷ []) y → y ≡ x
      only y (zero, l, e) = sym e
      only y (suc k, l, e) = absurd (omega arith)

  -- two lists without repeats that have nothing in common have no repeats together
  pub append_apart : (xs ys : List X) → AllPairs (λ x y. x ≢ y) xs → AllPairs (λ x y. x ≢ y) ys →
      ((x : X) → Contains xs x → Contains ys x → ⊥) → AllPairs (λ x y. x ≢ y) (xs ++ ys)
  append_apart [] ys a b apart = b
  append_apart (x ∷ xs) ys a b apart =
      AllPairs-cons (λ x y. x ≢ y) x (xs ++ ys) new
      (append_apart xs ys (λ i j d l m. a (suc i) (suc j) d (omega arith) (omega arith)) b (λ z c. apart z (there x z xs c)))
    where
      not_later : Contains xs x → ⊥
      not_later (k, l, e) = a 0 (suc k) x (omega arith) (omega arith) (sym e)

      new : All (λ y. x ≢ y) (xs ++ ys)
      new k d l e =
          elim (Contains-append_cases xs ys x (subst (Contains (xs ++ ys)) (sym e) (Contains-get_or (xs ++ ys) k d l))) [
            | inl c ↦ not_later c
            | inr c ↦ apart x (here x xs) c
          ]

  pub count_both : (P Q R : X → Type 0) (n m : ℕ) → IsCount P n → IsCount Q m → ((x : X) → P x → Q x → ⊥) → ((x : X) → R x ↔ (P x ⊎ Q x)) → IsCount R (n + m)
  count_both P Q R n m p q apart both = record {
    list = p.list ++ q.list;
    apart = append_apart p.list q.list p.apart q.apart (λ x a b. let e = p.exact x in let d = q.exact x in apart x (e.0 a) (d.0 b));
    exact = λ x. (
      λ c. let e = p.exact x in let d = q.exact x in let r = both x in
          r.1 (elim (Contains-append_cases p.list q.list x c) [ inl a ↦ inl (e.0 a) | inr b ↦ inr (d.0 b) ]),
      λ r. let e = p.exact x in let d = q.exact x in let r' = both x in
          elim (r'.0 r) [ inl a ↦ Contains-append_left p.list q.list x (e.1 a) | inr b ↦ Contains-append_right p.list q.list x (d.1 b) ],
    );
    number = length-append p.list q.list ∙ (λ i. p.number i + q.number i);
  }

module _ {X Y : Type 0} (f : X → Y) where
  pub Contains-map : (xs : List X) (x : X) → Contains xs x → Contains (map f xs) (f x)
  Contains-map xs x (k, l, e) = (k, (let n : length (map f xs) ≡ length xs = length-map xs f in omega arith), get_or-map f xs k x (f x) l ∙ ap f e)

  pub Contains-from_map : (xs : List X) (y : Y) → Contains (map f xs) y → (x : X) × Contains xs x × (f x ≡ y)
  Contains-from_map [] y (k, l, e) = absurd (omega arith)
  Contains-from_map (x ∷ xs) y (zero, l, e) = (x, (0, omega arith, refl), e)
  Contains-from_map (x ∷ xs) y (suc k, l, e) = let b = Contains-from_map xs y (k, omega arith, e) in (b.0, there x b.0 xs b.1, b.2)

  pub map_apart : (xs : List X) → ((x y : X) → f x ≡ f y → x ≡ y) → AllPairs (λ x y. x ≢ y) xs → AllPairs (λ x y. x ≢ y) (map f xs)
  map_apart [] one a i j d l m = absurd (omega arith)
  map_apart (x ∷ xs) one a i j d l m =
      let n : length (map f (x ∷ xs)) ≡ length (x ∷ xs) = length-map (x ∷ xs) f in
      let j' : j < length (x ∷ xs) = omega arith in
      let i' : i < length (x ∷ xs) = omega arith in
      λ e. a i j x l j' (one (slice_index_or (x ∷ xs) i x) (slice_index_or (x ∷ xs) j x)
      (sym (get_or-map f (x ∷ xs) i x d i') ∙ e ∙ get_or-map f (x ∷ xs) j x d j'))

  -- of the images under a map that takes no two values to one
  pub count_images : (P : X → Type 0) (n : ℕ) → ((x y : X) → f x ≡ f y → x ≡ y) → IsCount P n → IsCount (λ y. (x : X) × P x × (f x ≡ y)) n
  count_images P n one h = record {
    list = map f h.list;
    apart = map_apart h.list one h.apart;
    exact = λ y. (
      λ c. let b = Contains-from_map h.list y c in let e = h.exact b.0 in (b.0, e.0 b.1, b.2),
      λ b. let e = h.exact b.0 in subst (Contains (map f h.list)) b.2 (Contains-map h.list b.0 (e.1 b.1)),
    );
    number = length-map h.list f ∙ h.number;
  }
