use Rattle.std.proofs.Common.{not, ap, arith, inl, inr}
use Rattle.std.proofs.lemmas.Bool.{cases_Bool}
use Rattle.matroid_theory.specs.Matroid.{members}
use Rattle.connectivity.proofs.SplitLemmas.{some_column, up_to_turned, with_next}
use Rattle.connectivity.proofs.separations.has_separation.Goals as goal

pub with-first-requires-clause-column : goal.with-first-requires-clause-column
with-first-requires-clause-column c = some_column c.args.rep.now c.laws.ensures c.requires.agrees

pub returns : goal.returns
returns c = (
  λ b. let w = c.has_separation_from.ensures.0 b in (w.0, w.1),
  λ w. elim (cases_Bool (w.0 0)) [
    | inl t ↦ c.has_separation_from.ensures.1 (
      w.0,
      w.1,
      with_next 0 w.0 (members c.empty.result.set) (members c.with-first.result.set) t c.with-first.ensures.set
          (λ j l. absurd (omega arith)),
    )
    | inr f ↦ c.has_separation_from.ensures.1 (
      (λ j. not (w.0 j)),
      up_to_turned c.args.rep.now c.args.greatest w.0 w.1,
      with_next 0 (λ j. not (w.0 j)) (members c.empty.result.set) (members c.with-first.result.set)
          (ap not f) c.with-first.ensures.set (λ j l. absurd (omega arith)),
    )
  ],
)
