-- A column by which a standard representation stays simple and its factors agree is normalised where its first codes are 1.
use Rattle.std.proofs.Common.{◌≡◌, ℕ, ◌+◌, ◌*◌, ◌<◌, arith, List, inl, inr, slice_index}
use Rattle.matroid_theory.specs.Rep.{Rep, count, IsShaped, IsStandard}
use Rattle.matroid_theory.specs.Matroid.{Agrees, IsSimple}
use Rattle.matroid_theory.specs.declared.Mode.{Mode}
use Rattle.matroid_theory.specs.Move.{AreEquivalent}
use Rattle.matroid_theory.specs.Level.{IsNormalised, followed_by}
use Rattle.matroid_laws.proofs.Carried.{agrees_carried, simple_carried}
use Rattle.matroid_laws.proofs.Followed.{column_last}
use Rattle.matroid_laws.proofs.Normalised.{Lead, lead_or_zero, same_support, not_zero}
use Rattle.extension.specs.Admissible.{IsAdmissible}
use Rattle.symmetry.specs.Images.{HasLeadOnes}

module _ (P : Rep) (v : List ℕ) (shaped : IsShaped (followed_by P v)) (st : IsStandard P) where
  normalised : 0 < count P → HasLeadOnes P.factors P.rank v → Agrees (followed_by P v) → IsSimple (followed_by P v) → IsNormalised P.factors P.rank v
  normalised pos ones a simple =
      elim (lead_or_zero P.rank (λ i. slice_index v (i * count P + 0))) [
        | inl w ↦ record {
          is_column = column_last P v shaped;
          lead = w.at;
          lead_below = w.below;
          zeros = zeros w;
          ones = λ f l. ones f w.at l w.below (λ k b. zeros w k f b l) (λ e. w.nonzero (same_support P v shaped st a w.at f 0 w.below l pos e));
          support = same_support P v shaped st a;
        }
        | inr z ↦ absurd (not_zero P v shaped st pos simple z)
      ]
    where
      zeros : (w : Lead P.rank (λ i. slice_index v (i * count P + 0))) (k f : ℕ) → k < w.at → f < count P → slice_index v (k * count P + f) ≡ 0
      zeros w k f b l = same_support P v shaped st a k 0 f (let d : w.at < P.rank = w.below in omega arith) pos l (w.before k b)

-- where P followed by an admissible column is equivalent to P followed by another, whose first codes are 1, the other is admissible
pub admissible_image : (mode : Mode) (P : Rep) (v u : List ℕ) → 0 < count P → IsStandard P →
    AreEquivalent mode (followed_by P v) (followed_by P u) → HasLeadOnes P.factors P.rank u → IsAdmissible P v → IsAdmissible P u
admissible_image mode P v u pos st e ones h = record {
  normalised = normalised P u shaped st pos ones agrees simple;
  simple = simple;
  agrees = agrees;
}
  where
    shaped : IsShaped (followed_by P u)
    shaped = let t = e.takes in t.shaped

    agrees : Agrees (followed_by P u)
    agrees = (agrees_carried mode (followed_by P v) (followed_by P u) e).0 h.agrees

    simple : IsSimple (followed_by P u)
    simple = (simple_carried mode (followed_by P v) (followed_by P u) e).0 h.simple
