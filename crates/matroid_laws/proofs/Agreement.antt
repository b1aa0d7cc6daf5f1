-- Agreement of the factors, by a walk over the masks.
use Rattle.std.proofs.Common.{◌≡◌, ℕ, ◌+◌, ◌^◌, ◌<◌, sym, subst, arith, Bool, ◌↔◌, inl, inr}
use Rattle.std.proofs.lemmas.Bool.{cases_lt}
use Rattle.matroid_theory.specs.Matrix.{size_below}
use Rattle.matroid_theory.specs.Rep.{Rep, size, count}
use Rattle.matroid_theory.specs.Matroid.{members, IsIndependentIn, IsBasis}
use Rattle.matrix_lemmas.proofs.Masks.{IsBasis-same, by_masks}

-- what holds of each number below n and of n
pub one_more : (n : ℕ) (P : ℕ → Type 0) → ((X : ℕ) → X < n → P X) → P n → (X : ℕ) → X < n + 1 → P X
one_more n P h p X l = elim (cases_lt X n) [ inl b ↦ h X b | inr g ↦ (let e : n ≡ X = omega arith in subst P e p) ]

module _ (M : Rep) where
  -- the set is a basis of every factor or of none
  abbrev pub IsAlike : (ℕ → Bool) → Type 0
  IsAlike S = (f : ℕ) → f < count M → (IsBasis M 0 S ↔ IsBasis M f S)

  -- a set of another size is a basis of no factor
  pub alike_of_other_size : (S : ℕ → Bool) → ¬ (size_below (size M) S ≡ M.rank) → IsAlike S
  alike_of_other_size S ne f _ = (λ b. absurd (ne b.full), λ b. absurd (ne b.full))

  -- a set of rank many columns is a basis where it is independent
  pub alike_of_rank : (S : ℕ → Bool) → size_below (size M) S ≡ M.rank → ((f : ℕ) → f < count M → (IsIndependentIn M 0 S ↔ IsIndependentIn M f S)) → IsAlike S
  alike_of_rank S e h f l = (λ b. record { full = e; independent = (h f l).0 b.independent }, λ b. record { full = e; independent = (h f l).1 b.independent })

  -- what is seen at each mask holds of all sets
  pub no_basis_by_masks : ((X : ℕ) → X < 2 ^ size M → ¬ (IsBasis M 0 (members X))) → (S : ℕ → Bool) → ¬ (IsBasis M 0 S)
  no_basis_by_masks = by_masks (size M) (λ S. ¬ (IsBasis M 0 S)) (λ S T e k b. k (IsBasis-same M 0 T S (λ j o. sym (e j o)) b))

  pub alike_by_masks : ((X : ℕ) → X < 2 ^ size M → IsAlike (members X)) → (S : ℕ → Bool) → IsAlike S
  alike_by_masks = by_masks (size M) IsAlike (λ S T e h f l. (
    (λ b. IsBasis-same M f S T e ((h f l).0 (IsBasis-same M 0 T S (λ j o. sym (e j o)) b))),
    (λ b. IsBasis-same M 0 S T e ((h f l).1 (IsBasis-same M f T S (λ j o. sym (e j o)) b))),
  ))
