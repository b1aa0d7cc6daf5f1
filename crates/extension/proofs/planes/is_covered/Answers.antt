use Rattle.std.proofs.Common.{◌≡◌, ◌+◌, Bool, true, false, IsTrue, not, sym, ◌∙◌, ap, inl, refl}
use Rattle.std.proofs.lemmas.Bool.{false≢true}
use mathlib.Core.Bool.{true≢false}
use Rattle.matroid_theory.specs.Rep.{size}
use Rattle.matroid_theory.specs.Matroid.{members}
use Rattle.matrix_lemmas.proofs.MaskCounts.{size-members}
use Rattle.bases.proofs.Factors.{independent_same}
use Rattle.extension.proofs.planes.is_covered.Goals as goal

untrue : (b : Bool) → IsTrue (not b) → ¬ (IsTrue b)
untrue true t = absurd (false≢true t)
untrue false t = λ h. false≢true h

was_true : (b : Bool) → not b ≡ false → IsTrue b
was_true true e = refl
was_true false e = absurd (true≢false e)

pub returns-then-set-rank-clause-yes : goal.returns-then-set-rank-clause-yes
returns-then-set-rank-clause-yes c = λ _ s.
    absurd (c.if-set-rank.true (ap (λ n. n + 1) (sym (size-members (size c.args.rep.now) c.args.set c.requires.set)) ∙ s.full ∙ sym c.rank.ensures))

pub returns-else-is_on_one-clause-yes : goal.returns-else-is_on_one-clause-yes
returns-else-is_on_one-clause-yes c = λ t _. inl (λ d. untrue c.is_independent.result t (c.is_independent.ensures.1
    ((independent_same c.args.rep.now c.laws.ensures 0 c.args.first.now.field c.args.first.now.columns.items c.requires.first (members c.args.set)).1 d)))

pub returns-else-is_on_one-clause-no : goal.returns-else-is_on_one-clause-no
returns-else-is_on_one-clause-no c = λ t. (
  record {
    below = c.requires.set;
    full = ap (λ n. n + 1) (size-members (size c.args.rep.now) c.args.set c.requires.set) ∙ c.if-set-rank.false ∙ c.rank.ensures;
  },
  (independent_same c.args.rep.now c.laws.ensures 0 c.args.first.now.field c.args.first.now.columns.items c.requires.first (members c.args.set)).0
      (c.is_independent.ensures.0 (was_true c.is_independent.result t)),
)
