-- Factors that aren't 0.
use Rattle.std.proofs.Common.{◌≡◌, ◌≢◌, ℕ, ◌<◌, sym, ◌∙◌, ap, arith}
use Rattle.matroid_theory.specs.Field.{IsField, times, inverse}
use Rattle.matrix_lemmas.proofs.Sums.{times_zero}
use Rattle.matrix_lemmas.proofs.Frobenius.{times_undone, times_nonzero, inverse_nonzero}

-- a scalar that isn't 0
pub record IsScalar (q x : ℕ) : Type 0 where
  pub code : x < q
  pub nonzero : x ≢ 0

module _ (q : ℕ) (F : IsField q) where
  pub one_scalar : IsScalar q 1
  one_scalar = record { code = F.two; nonzero = λ e. absurd (omega arith) }

  pub inverse_scalar : (x : ℕ) → IsScalar q x → IsScalar q (inverse q x)
  inverse_scalar x s = record { code = F.inverse_below x s.code; nonzero = inverse_nonzero q F x s.code s.nonzero }

  pub times_scalar : (x y : ℕ) → IsScalar q x → IsScalar q y → IsScalar q (times q x y)
  times_scalar x y s t = record { code = F.times_below x y; nonzero = times_nonzero q F x y s.code t.code s.nonzero t.nonzero }

  -- x 1 = x
  pub times_one_right : (x : ℕ) → x < q → times q x 1 ≡ x
  times_one_right x l = F.times_comm x 1 ∙ F.times_one x l

  -- x (y z) = y (x z)
  pub times_turn : (x y z : ℕ) → times q x (times q y z) ≡ times q y (times q x z)
  times_turn x y z = sym (F.times_assoc x y z) ∙ ap (λ w. times q w z) (F.times_comm x y) ∙ F.times_assoc y x z

  -- x (x^-1 b) = b
  pub undone_back : (x b : ℕ) → IsScalar q x → b < q → times q x (times q (inverse q x) b) ≡ b
  undone_back x b s l = sym (F.times_assoc x (inverse q x) b) ∙ ap (λ y. times q y b) (F.times_inverse x s.code s.nonzero) ∙ F.times_one b l

  pub undone : (x b : ℕ) → IsScalar q x → b < q → times q (inverse q x) (times q x b) ≡ b
  undone x b s l = times_undone q F x b s.code s.nonzero l

  -- a product with a scalar is 0 only where the other factor is
  pub zero_factor : (x b : ℕ) → IsScalar q x → b < q → times q x b ≡ 0 → b ≡ 0
  zero_factor x b s l e = sym (undone x b s l) ∙ ap (times q (inverse q x)) e ∙ times_zero q F (inverse q x)

  -- equal products with a scalar have equal other factors
  pub cancelled : (x a b : ℕ) → IsScalar q x → a < q → b < q → times q x a ≡ times q x b → a ≡ b
  cancelled x a b s l m e = sym (undone x a s l) ∙ ap (times q (inverse q x)) e ∙ undone x b s m

  -- x y = 1 only for the inverse
  pub inverse_only : (x y : ℕ) → IsScalar q x → y < q → times q x y ≡ 1 → y ≡ inverse q x
  inverse_only x y s l e = sym (undone x y s l) ∙ ap (times q (inverse q x)) e ∙ times_one_right (inverse q x) (F.inverse_below x s.code)

  -- the inverse of t o^-1 times s^-1 (t c) is o (s^-1 c)
  pub factored : (t o s c : ℕ) → IsScalar q t → IsScalar q o → IsScalar q s → c < q
      → times q (inverse q (times q t (inverse q o))) (times q (inverse q s) (times q t c)) ≡ times q o (times q (inverse q s) c)
  factored t o s c a b e l =
      ap (times q (inverse q (times q t (inverse q o)))) known
      ∙ undone (times q t (inverse q o)) (times q o (times q (inverse q s) c)) m (F.times_below o (times q (inverse q s) c))
    where
      m : IsScalar q (times q t (inverse q o))
      m = times_scalar t (inverse q o) a (inverse_scalar o b)

      known : times q (inverse q s) (times q t c) ≡ times q (times q t (inverse q o)) (times q o (times q (inverse q s) c))
      known =
          times_turn (inverse q s) t c
          ∙ ap (times q t) (sym (undone o (times q (inverse q s) c) b (F.times_below (inverse q s) c)))
          ∙ sym (F.times_assoc t (inverse q o) (times q o (times q (inverse q s) c)))

  -- (u s) (o (s^-1 b)) = u (o b)
  pub through : (u s o b : ℕ) → IsScalar q s → b < q → times q (times q u s) (times q o (times q (inverse q s) b)) ≡ times q u (times q o b)
  through u s o b a l =
      F.times_assoc u s (times q o (times q (inverse q s) b))
      ∙ ap (times q u) (times_turn s o (times q (inverse q s) b) ∙ ap (times q o) (undone_back s b a l))
