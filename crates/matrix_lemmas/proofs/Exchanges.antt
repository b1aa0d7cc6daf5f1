-- Two numbers exchanged.
use Rattle.std.proofs.Common.{◌≡◌, ◌≢◌, inl, inr, ℕ, ◌<◌, sym, ◌∙◌, ap, subst, cond}
use Rattle.std.specs.Bool.{◌==◌}
use Rattle.std.proofs.lemmas.Bool.{cases_eq}
use Rattle.matroid_theory.specs.Move.{ArePermutation}
use Rattle.matroid_theory.specs.Exchange.{exchange}
use Rattle.matrix_lemmas.proofs.Sums.{same_number, other_number}

module _ (a b : ℕ) where
  pub exchange_one : exchange a b a ≡ b
  exchange_one = ap (λ c. cond c b (cond (a == b) a a)) (same_number a)

  pub exchange_two : exchange a b b ≡ a
  exchange_two =
      elim (cases_eq b a) [
        | inl e ↦ ap (exchange a b) e ∙ exchange_one ∙ e
        | inr ne ↦ ap (λ c. cond c b (cond (b == b) a b)) (other_number b a ne) ∙ ap (λ c. cond c a b) (same_number b)
      ]

  pub exchange_other : (x : ℕ) → x ≢ a → x ≢ b → exchange a b x ≡ x
  exchange_other x n m = ap (λ c. cond c b (cond (x == b) a x)) (other_number x a n) ∙ ap (λ c. cond c a x) (other_number x b m)

  -- what holds in each of the three cases
  pub exchange_cases : (P : ℕ → ℕ → Type 0) → P a b → P b a → ((x : ℕ) → x ≢ a → x ≢ b → P x x) → (x : ℕ) → P x (exchange a b x)
  exchange_cases P one two other x =
      elim (cases_eq x a) [
        | inl e ↦ subst (λ (y : ℕ). P y (exchange a b y)) (sym e) (subst (P a) (sym exchange_one) one)
        | inr n ↦ elim (cases_eq x b) [
          | inl e ↦ subst (λ (y : ℕ). P y (exchange a b y)) (sym e) (subst (P b) (sym exchange_two) two)
          | inr m ↦ subst (P x) (sym (exchange_other x n m)) (other x n m)
        ]
      ]

  pub exchange_twice : (x : ℕ) → exchange a b (exchange a b x) ≡ x
  exchange_twice = exchange_cases (λ x y. exchange a b y ≡ x) exchange_two exchange_one exchange_other

  pub exchange_below : (n : ℕ) → a < n → b < n → (x : ℕ) → x < n → exchange a b x < n
  exchange_below n l m = exchange_cases (λ x y. x < n → y < n) (λ _. m) (λ _. l) (λ x _ _ o. o)

  pub exchange_permutation : (n : ℕ) → a < n → b < n → ArePermutation n (exchange a b) (exchange a b)
  exchange_permutation n l m =
      record {
        below = exchange_below n l m;
        inverse_below = exchange_below n l m;
        there = λ j _. exchange_twice j;
        back =
            λ j _. exchange_twice j;
      }

  pub exchanged_permutation : (n : ℕ) (p u : ℕ → ℕ) → a < n → b < n → ArePermutation n p u →
      ArePermutation n (λ x. p (exchange a b x)) (λ k. exchange a b (u k))
  exchanged_permutation n p u l m w = record {
    below = λ j o. w.below (exchange a b j) (exchange_below n l m j o);
    inverse_below = λ j o. exchange_below n l m (u j) (w.inverse_below j o);
    there = λ j o. ap (exchange a b) (w.there (exchange a b j) (exchange_below n l m j o)) ∙ exchange_twice j;
    back = λ j o. ap p (exchange_twice (u j)) ∙ w.back j o;
  }
