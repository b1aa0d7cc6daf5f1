-- What holds of each element of a list, and the numbers of a range.
use Rattle.std.proofs.Common.{◌≡◌, ℕ, zero, suc, ◌+◌, ◌<◌, List, [], ◌∷◌, ◌++◌, length, slice_get, slice_index_or, refl, ap, sym, ◌∙◌, subst, arith, Some}
use Rattle.std.specs.List.{AllByRecursion, range_with_len}
use Rattle.std.proofs.lemmas.List.{map-id}
use Rattle.std.proofs.lemmas.List.FromFn.{map-range_with_len_more}

module _ {X : Type 0} (P : X → Type 0) where
  pub all_push : (xs : List X) (x : X) → AllByRecursion P xs → P x → AllByRecursion P (xs ++ x ∷ [])
  all_push [] x all holds = (holds, tt)
  all_push (y ∷ ys) x all holds = (all.0, all_push ys x all.1 holds)

  pub all_append : (xs ys : List X) → AllByRecursion P xs → AllByRecursion P ys → AllByRecursion P (xs ++ ys)
  all_append [] ys all more = more
  all_append (x ∷ xs) ys all more = (all.0, all_append xs ys all.1 more)

  pub all_between : (xs ys : List X) (x : X) → AllByRecursion P (xs ++ x ∷ ys) → P x
  all_between [] ys x all = all.0
  all_between (z ∷ zs) ys x all = all_between zs ys x all.1

  pub all_got : (xs : List X) (k : ℕ) (x : X) → AllByRecursion P xs → slice_get xs k ≡ Some x → P x
  all_got [] k x all e = absurd (cc e)
  all_got (y ∷ ys) zero x all e = let same : y ≡ x = cc e in subst P same all.0
  all_got (y ∷ ys) (suc k) x all e = all_got ys k x all.1 e

  pub all_at : (xs : List X) (k : ℕ) (x : X) → AllByRecursion P xs → k < length xs → slice_index_or xs k x ≡ x → P x
  all_at [] k x all below e = absurd (omega arith)
  all_at (y ∷ ys) zero x all below e = subst P e all.0
  all_at (y ∷ ys) (suc k) x all below e = all_at ys k x all.1 (omega arith) e

  pub all_weaker : (Q : X → Type 0) (xs : List X) → ((x : X) → P x → Q x) → AllByRecursion P xs → AllByRecursion Q xs
  all_weaker Q [] f all = tt
  all_weaker Q (x ∷ xs) f all = (f x all.0, all_weaker Q xs f all.1)

pub range_more : (a n : ℕ) → range_with_len a (n + 1) ≡ range_with_len a n ++ (a + n) ∷ []
range_more a n = sym (map-id (range_with_len a (n + 1))) ∙ (map-range_with_len_more (λ (k : ℕ). k) a n (a + n) refl
    ∙ ap (λ (l : List ℕ). l ++ (a + n) ∷ []) (map-id (range_with_len a n)))
