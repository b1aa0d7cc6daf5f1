-- What is not above any least member is not above any member.
use Rattle.std.proofs.Common.{◌≡◌, ◌≢◌, ℕ, zero, suc, ◌<◌, arith}
use Rattle.std.specs.declared.cmp.Ordering.{Ordering}
use Rattle.std.specs.declared.cmp.Ordering.TheVariants.{Greater}

module _ (X : Type 0) (cmp : X → X → Ordering) (number : X → ℕ) (member : X → Type 0) (found : X)
    (falls : (x y : X) → member x → member y → cmp x y ≡ Greater → number y < number x)
    (chain : (x y : X) → cmp found x ≡ Greater → cmp x y ≡ Greater → cmp found y ≡ Greater)
    (of_forms : (x : X) → member x → ((y : X) → member y → cmp x y ≢ Greater) → cmp found x ≢ Greater) where
  below : (n : ℕ) (x : X) → number x < n → member x → cmp found x ≢ Greater
  below zero x l m = absurd (omega arith)
  below (suc n) x l m = λ g. of_forms x m (λ y k. λ a. (let f : number y < number x = falls x y m k a in below n y (omega arith) k (chain x y g a))) g

  pub forms_suffice : (x : X) → member x → cmp found x ≢ Greater
  forms_suffice x m = below (suc (number x)) x (omega arith) m
