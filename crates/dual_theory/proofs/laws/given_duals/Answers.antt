use Rattle.dual_theory.proofs.laws.given_duals.Goals as goal

pub returns : goal.returns
returns c q columns S = ((λ h. h), (λ h. h))
