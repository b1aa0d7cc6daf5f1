-- Whether a representation is a form.
use Rattle.std.proofs.Common.{◌≢◌}
use Rattle.std.specs.declared.cmp.Ordering.TheVariants.{Greater}
use Rattle.matroid_theory.specs.declared.Mode.{Mode}
use Rattle.matroid_theory.specs.Rep.{Rep, shape, size, IsStandard}
use Rattle.matroid_theory.specs.Move.{AreEquivalent}
use Rattle.matroid_theory.specs.Order.{rep_cmp, IsForm}
use Rattle.existence.specs.Decided.{IsDecided}
use Rattle.existence.proofs.Deciding.{along, both, implied, is_not_greater, each_in}
use Rattle.existence.proofs.AllReps.{all_reps, in_all_of}
use Rattle.existence.proofs.Shaped.{standard_decided}
use Rattle.existence.proofs.Moves.{equivalent_decided}
use Rattle.existence.proofs.Bases.{representation_decided}

pub form_decided : (mode : Mode) (M : Rep) → IsDecided (IsForm mode M)
form_decided mode M =
    along
    (both (representation_decided M) (λ _. both (standard_decided M)
    (λ _. each_in (all_reps M.factors M.rank (size M)) (λ N. IsStandard N → AreEquivalent mode M N → rep_cmp M N ≢ Greater)
    (λ N. implied (standard_decided N) (λ _. implied (equivalent_decided mode M N) (λ _. is_not_greater (rep_cmp M N)))))))
    (λ w. record { representation = w.0; standard = w.1.0; least = λ N s e. w.1.1 N (in_all_of N (shape M) e.takes.shaped e.takes.same_shape) s e })
    (λ f. (f.representation, (f.standard, λ N i. f.least N)))
