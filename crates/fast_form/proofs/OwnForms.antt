-- Which representations are forms: those that are above none that moves take them to, whatever the powers.
use Rattle.std.proofs.Common.{◌≡◌, ◌≢◌, ◌↔◌, ℕ, ◌+◌, ◌<◌, inl, inr, sym, ◌∙◌, arith}
use Rattle.std.specs.Cmp.{IsTotalOrder}
use Rattle.std.specs.Cmp.Lexicographic.{slice_cmp}
use Rattle.std.specs.Ordering.{nat_cmp}
use Rattle.std.specs.declared.cmp.Ordering.TheVariants.{Equal, Greater}
use Rattle.std.proofs.lemmas.Bool.{cases_lt}
use Rattle.matroid_theory.specs.declared.Mode.TheVariants.{Linear}
use Rattle.matroid_theory.specs.Field.{degree}
use Rattle.matroid_theory.specs.Rep.{Rep, count, order, IsShaped, IsStandard}
use Rattle.matroid_theory.specs.Matroid.{IsRepresentation}
use Rattle.matroid_theory.specs.Move.{AreEquivalent}
use Rattle.matroid_theory.specs.Order.{rep_cmp, IsForm}
use Rattle.matroid_theory.specs.Powers.{IsRaised, AreEquivalentFrom}
use Rattle.matroid_laws.proofs.Compared.{not_above_trans}
use Rattle.matroid_laws.proofs.Equivalence.{equivalent-reflexive, equivalent-symmetric, equivalent-transitive}
use Rattle.matroid_laws.proofs.Levels.{columns_total}
use Rattle.matroid_laws.proofs.Semilinear.{from_raised, to_raised}
use Rattle.fast_form.specs.NotAbove.{IsNotAboveClass, IsNotAboveFrom}

-- ---- no powers

-- what compares as equal to a representation is above none where that is a form
pub equal_own : (M R : Rep) → IsRepresentation R → IsStandard R → rep_cmp M R ≡ Equal → IsForm Linear R ↔ IsNotAboveClass M R
equal_own M R r s e = (
  λ f L u d g. f.least L u d (sym (t.congr M.columns R.columns L.columns e) ∙ g),
  λ h. record { representation = r; standard = s; least = λ L u d g. h L u d (t.congr M.columns R.columns L.columns e ∙ g) },
)
  where
    t : IsTotalOrder (slice_cmp (slice_cmp nat_cmp))
    t = columns_total

-- it is enough to look at the form
pub form_enough : (M R N : Rep) → IsForm Linear N → AreEquivalent Linear R N → (rep_cmp M N ≢ Greater) ↔ IsNotAboveClass M R
form_enough M R N f e = (
  λ b L u d. not_above_trans M N L b (f.least L u (equivalent-transitive Linear N R L (equivalent-symmetric Linear R N e) d)),
  λ h. h N f.standard e,
)

-- what is above a standard representation is above one of its class
pub above_own : (M R : Rep) → IsShaped R → IsStandard R → rep_cmp M R ≡ Greater → ¬ (IsNotAboveClass M R)
above_own M R shaped s g h = h R s (equivalent-reflexive Linear R shaped) g

-- ---- the powers of one factor

-- M is above none that moves take R to whose powers are below t in factor f, and 0 in the factors before
abbrev pub IsNotAboveBelow : ℕ → ℕ → Rep → Rep → Type 0
IsNotAboveBelow f t M R = (L : Rep) → IsStandard L → (e : AreEquivalentFrom f R L) → e.move.power f < t → rep_cmp M L ≢ Greater

module _ (f t : ℕ) (M R raised : Rep) (s : IsShaped R) (l : f < count R) (d : t < degree (order R f)) (h : IsRaised R f t raised) where
  pub one_power : IsNotAboveBelow f t M R → IsNotAboveFrom (f + 1) M raised → IsNotAboveBelow f (t + 1) M R
  one_power before here L u e b = elim (cases_lt (e.move.power f) t) [
    | inl lt ↦ before L u e lt
    | inr ge ↦ here L u (to_raised R f t raised s l h L e (omega arith))
  ]

  pub not_one_power : ¬ (IsNotAboveFrom (f + 1) M raised) → ¬ (IsNotAboveFrom f M R)
  not_one_power n w = n (λ L u e. w L u (from_raised R f t raised s l h L d e))
