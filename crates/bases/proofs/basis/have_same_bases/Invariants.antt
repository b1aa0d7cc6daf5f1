use Rattle.std.proofs.Common.{ℕ, ◌<◌, ◌↔◌, Bool}
use Rattle.matroid_theory.specs.Matroid.{IsBasis}
use Rattle.bases.proofs.basis.have_same_bases.Given as goal

-- the factors before this one have the bases of the first
abbrev pub invariant-loop-factor : goal.invariant-loop-factor
invariant-loop-factor l = (f : ℕ) → f < l.factor → (S : ℕ → Bool) → (IsBasis l.rep 0 S ↔ IsBasis l.rep f S)
