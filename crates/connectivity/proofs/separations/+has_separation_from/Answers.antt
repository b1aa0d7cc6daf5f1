use Rattle.std.proofs.Common.{◌≡◌, sym, ◌∙◌, arith, subst, refl, ℕ, inl, inr}
use Rattle.std.proofs.lemmas.Bool.{false≢true, cases_Bool}
use Rattle.matroid_theory.specs.Rep.{size}
use Rattle.matroid_theory.specs.Matroid.{members}
use Rattle.connectivity.specs.Sides.{AreParts}
use Rattle.connectivity.proofs.SplitLemmas.{up_to_too_large, up_to_same, before_next, with_next, without_next}
use Rattle.connectivity.proofs.separations.+has_separation_from.Goals as goal

pub returns-then-rank-greatest : goal.returns-then-rank-greatest
returns-then-rank-greatest t c =
    let r = c.size-size.ensures.is_rep in (
      λ f. absurd (false≢true f),
      λ w. absurd (up_to_too_large c.args.rep.now c.args.greatest c.args.next (members c.args.first.set)
          (members c.args.second.set) c.requires.parts c.rank.result c.rank-2.result
          (c.rank.ensures.rank c.args.rep.now r c.requires.first) (c.rank-2.ensures.rank c.args.rep.now r c.requires.second) (omega arith) w.0 w.1 w.2),
    )

pub are_separated-requires-clause-parts : goal.are_separated-requires-clause-parts
are_separated-requires-clause-parts t c =
    let e : c.args.next ≡ size c.args.rep.now = omega arith in
    subst (λ (n : ℕ). AreParts n (members c.args.first.set) (members c.args.second.set)) e c.requires.parts

pub returns-then-next-size : goal.returns-then-next-size
returns-then-next-size t c =
    let e : c.args.next ≡ size c.args.rep.now = omega arith in (
      λ b. (members c.args.first.set, c.are_separated.ensures.0 b, λ _ _. refl),
      λ w. c.are_separated.ensures.1
          (up_to_same c.args.rep.now c.args.greatest w.0 (members c.args.first.set) (λ j l. w.2 j (omega arith)) w.1),
    )

pub returns-then-has_separation_from : goal.returns-then-has_separation_from
returns-then-has_separation_from t c =
    let w = c.has_separation_from.ensures.0 c.if-has_separation_from.true in (
      λ _. (
        w.0,
        w.1,
        before_next c.args.next w.0 (members c.args.first.set) (members c.with-longer.result.set) c.with-longer.ensures.set w.2,
      ),
      λ _. refl,
    )

pub returns : goal.returns
returns t c = (
  λ b. let w = c.has_separation_from-2.ensures.0 b in (w.0, w.1, λ j l. w.2 j (omega arith)),
  λ w. elim (cases_Bool (w.0 c.args.next)) [
    | inl y ↦ absurd (false≢true
        (sym c.if-has_separation_from.false
        ∙ c.has_separation_from.ensures.1
        (w.0, w.1, with_next c.args.next w.0 (members c.args.first.set) (members c.with-longer.result.set) y c.with-longer.ensures.set w.2)))
    | inr f ↦ c.has_separation_from-2.ensures.1
        (w.0, w.1, without_next c.args.next w.0 (members c.args.first.set) f (c.requires.parts.first_below c.args.next (omega arith)) w.2)
  ],
)
