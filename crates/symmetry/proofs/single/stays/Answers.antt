use Rattle.std.proofs.Common.{◌≡◌, refl, inl, inr, sym, ◌∙◌, ap, subst}
use mathlib.Core.Bool.{true≢false}
use Rattle.std.specs.declared.cmp.Ordering.TheVariants.{Equal}
use Rattle.std.proofs.lemmas.Cmp.{tied_itself}
use Rattle.matroid_theory.specs.Rep.{Rep, IsShaped}
use Rattle.matroid_theory.specs.Order.{rep_cmp}
use Rattle.matroid_theory.specs.Move.{Move, TakesTo, move_of}
use Rattle.matroid_laws.proofs.First.{same_codes}
use Rattle.matroid_laws.proofs.Levels.{columns_total, rep_cmp-equal}
use Rattle.symmetry.proofs.single.stays.Goals as goal

-- what the move makes of a representation that it takes to itself is that representation
taken : (P N : Rep) (m : Move) → IsShaped P → TakesTo P m N → TakesTo P m P → rep_cmp N P ≡ Equal
taken P N m shaped made stays =
    let same : N ≡ P = same_codes P N shaped made.shaped made.same_shape
    (λ f i j l n o. made.codes f i j l n o ∙ sym (stays.codes f i j l n o)) in
    ap (λ (N : Rep). rep_cmp N P) same ∙ tied_itself columns_total P.columns

pub returns-in-Equal : goal.returns-in-Equal
returns-in-Equal c = (
  λ _. subst (TakesTo c.args.rep.now (move_of c.args.step.now))
      (rep_cmp-equal c.act.result c.args.rep.now c.act.ensures.same_shape (sym c.in-Equal.ensures)) c.act.ensures,
  λ _. refl,
)

pub returns-in-Less : goal.returns-in-Less
returns-in-Less c = (
  λ e. absurd (true≢false (sym e)),
  λ t.
      let equal = taken c.args.rep.now c.act.result (move_of c.args.step.now) c.laws.ensures.shaped c.act.ensures t in
      let is = c.compare.ensures in
      elim c.in-Less.is [
        | inl less ↦ cc (equal, less, is)
        | inr greater ↦ cc (equal, greater, is)
      ],
)
