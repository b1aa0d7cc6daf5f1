-- The orders that words begin with.
use Rattle.std.proofs.Common.{◌≡◌, ◌≢◌, ◌⊎◌, ℕ, ◌+◌, ◌*◌, ◌<◌, ◌≤◌, sym, ◌∙◌, ap, subst, arith, List, [], ◌∷◌, ◌++◌, length, inl, inr, Option, Some, None, length-append}
use Rattle.std.specs.Prelude.{codes, decimal, IsSome, IfSome, MatchOption}
use Rattle.std.specs.List.{slice_index}
use Rattle.std.proofs.lemmas.Bool.{cases_lt}
use Rattle.std.proofs.lemmas.List.{get_or_append_left}
use Rattle.std.proofs.Math.Seq.{get_or-append_seam}
use Rattle.matroid_theory.specs.Field.{IsOrder, IsFactors}
use Rattle.ask_formats.specs.Places.{word_at, IsOrderCount, AreReadAsFactors}

module _ (words : List (List ℕ)) where
  pub one_order : word_at words 1 ≢ codes "x" → IsOrderCount words 1
  one_order n = record { some = omega arith; few = omega arith; between = λ f l. absurd (omega arith); behind = λ _. n }

  pub two_orders : word_at words 1 ≡ codes "x" → word_at words 3 ≢ codes "x" → IsOrderCount words 2
  two_orders x n = record {
    some = omega arith;
    few = omega arith;
    between = λ f l. (let e : f * 2 + 1 ≡ 1 = omega arith in ap (word_at words) e ∙ x);
    behind = λ _. n;
  }

  pub three_orders : word_at words 1 ≡ codes "x" → word_at words 3 ≡ codes "x" → IsOrderCount words 3
  three_orders x y = record {
    some = omega arith;
    few = omega arith;
    between = λ f l. elim (cases_lt f 1) [
      | inl b ↦ (let e : f * 2 + 1 ≡ 1 = omega arith in ap (word_at words) e ∙ x)
      | inr g ↦ (let e : f * 2 + 1 ≡ 3 = omega arith in ap (word_at words) e ∙ y)
    ];
    behind = λ l. absurd (omega arith);
  }

  -- these orders are spelled one after another
  pub record AreSpelled (orders : List ℕ) : Type 0 where
    pub fields : (f : ℕ) → f < length orders → IsOrder (slice_index orders f)
    pub spelled : (f : ℕ) → f < length orders → word_at words (f * 2) ≡ decimal (slice_index orders f)

  pub none_spelled : (orders : List ℕ) → orders ≡ [] → AreSpelled orders
  none_spelled orders e = record {
    fields = λ f l. absurd (let n : length orders ≡ 0 = ap length e in omega arith);
    spelled = λ f l. absurd (let n : length orders ≡ 0 = ap length e in omega arith);
  }

  pub one_more : (orders items : List ℕ) (q f : ℕ) → AreSpelled orders → length orders ≡ f → IsOrder q → word_at words (f * 2) ≡ decimal q
      → items ≡ orders ++ q ∷ [] → AreSpelled items
  one_more orders items q f h n o w e =
      subst AreSpelled (sym e) (record { fields = λ k l. fields k (cases_lt k f) l; spelled = λ k l. spelled k (cases_lt k f) l })
    where
      at_end : (k : ℕ) → k < length (orders ++ q ∷ []) → f ≤ k → k ≡ length orders
      at_end k l g = omega (arith, length-append orders (q ∷ []))

      fields : (k : ℕ) → (k < f) ⊎ (f ≤ k) → k < length (orders ++ q ∷ []) → IsOrder (slice_index (orders ++ q ∷ []) k)
      fields k (inl b) l = let b' : k < length orders = omega arith in subst IsOrder (sym (get_or_append_left orders (q ∷ []) 0 k b')) (h.fields k b')
      fields k (inr g) l = subst IsOrder (sym (ap (slice_index (orders ++ q ∷ [])) (at_end k l g) ∙ get_or-append_seam orders q [] 0)) o

      spelled : (k : ℕ) → (k < f) ⊎ (f ≤ k) → k < length (orders ++ q ∷ []) → word_at words (k * 2) ≡ decimal (slice_index (orders ++ q ∷ []) k)
      spelled k (inl b) l = let b' : k < length orders = omega arith in h.spelled k b' ∙ ap decimal (sym (get_or_append_left orders (q ∷ []) 0 k b'))
      spelled k (inr g) l =
          let e : k * 2 ≡ f * 2 = (let a : k ≡ length orders = at_end k l g in omega arith) in
          ap (word_at words) e ∙ w ∙ ap decimal (sym (ap (slice_index (orders ++ q ∷ [])) (at_end k l g) ∙ get_or-append_seam orders q [] 0))

  pub are_factors : (orders : List ℕ) (n : ℕ) → AreSpelled orders → length orders ≡ n → IsOrderCount words n → IsFactors orders
  are_factors orders n h e c = record { some = omega (arith, e, c.some); few = omega (arith, e, c.few); fields = h.fields }

  pub read_factors : (orders : List ℕ) (n : ℕ) → AreSpelled orders → length orders ≡ n → IsOrderCount words n → AreReadAsFactors words orders
  read_factors orders n h e c = record { count = subst (IsOrderCount words) (sym e) c; spelled = h.spelled }

  -- the factors of these orders are found
  pub found_factors : {A : Type 0} (view : A → List ℕ) (o : Option A) (orders : List ℕ) (No : Type 0) →
      (IsFactors orders → IsSome o) → IfSome o (λ a. view a ≡ orders)
      → IsFactors orders → AreReadAsFactors words orders → MatchOption o No (λ a. AreReadAsFactors words (view a))
  found_factors view None orders No some e are is = let h = some are in cc (h)
  found_factors view (Some a) orders No some e are is = subst (AreReadAsFactors words) (sym e) is
