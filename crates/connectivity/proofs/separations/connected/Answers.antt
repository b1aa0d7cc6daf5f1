use Rattle.std.proofs.Common.{not, sym, ◌∙◌, ap, arith, inl, inr}
use Rattle.std.proofs.lemmas.Bool.{false≢true, cases_Bool}
use Rattle.connectivity.proofs.SplitLemmas.{only_first}
use Rattle.connectivity.proofs.separations.connected.Goals as goal

pub returns : goal.returns
returns c = (
  λ b X s. false≢true (sym (ap not (c.has_separation.ensures.1
      (X, record { order = 1; positive = omega arith; most = omega arith; separation = s }))) ∙ b),
  λ h. elim (cases_Bool c.has_separation.result) [
    | inl t ↦ (let w = c.has_separation.ensures.0 t in absurd (h w.0 (only_first c.args.rep.now w.0 w.1)))
    | inr f ↦ ap not f
  ],
)
