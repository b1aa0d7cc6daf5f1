use Rattle.std.proofs.Common.{◌≡◌, ◌+◌, sym, ◌∙◌, eqb-true}
use Rattle.std.specs.Int.RustNames.{count_ones}
use Rattle.std.proofs.lemmas.Bool.{false≢true}
use Rattle.matroid_theory.specs.Rep.{size}
use Rattle.matroid_theory.specs.Matrix.{size_below}
use Rattle.matroid_theory.specs.Matroid.{members}
use Rattle.matrix_lemmas.proofs.MaskCounts.{size-members}
use Rattle.bases.proofs.Factors.{independent_same}
use Rattle.minor_test.proofs.Answers.{same_answer, answers_same}
use Rattle.minor_test.proofs.Contracted.{tables_alike}
use Rattle.minor_test.proofs.search.Search.may_be_contracted.Goals as goal
use Rattle.minor_test.proofs.search.Search.may_be_contracted.Goals.{then-rank-self, else-rank-self}

pub returns-then-is_independent : goal.returns-then-is_independent
returns-then-is_independent c =
    let e : size_below (size c.args.self.now.whole.now) (members c.args.self.now.contracted) ≡ count_ones c.args.self.now.contracted =
    size-members (size c.args.self.now.whole.now) c.args.self.now.contracted c.requires.set in
    let t = tables_alike c.args.self.now.sought.now c.args.self.now.whole.now c.args.self.now.contracted c.requires.set
    c.table.result.now.words c.table-then-is_independent.result.now.words c.table.ensures c.table-then-is_independent.ensures in
    elim c.if-rank-self.branch [
      | then-rank-self w ↦ (
          let s = independent_same c.args.self.now.whole.now c.laws.ensures 0 w.columns.result.now.field w.columns.result.now.columns.items
          w.columns.ensures (members c.args.self.now.contracted) in (
            (λ i. (
              (λ j. sym c.rank.ensures j + e j) ∙ w.if-rank-self.true ∙ c.rank-2.ensures,
              s.0 (w.is_independent.ensures.0 (sym w.value-is ∙ c.if-is_independent.true)),
              t.0 (sym c.contains.ensures ∙ same_answer c.contains.result c.contains-then-is_independent.result i ∙ c.contains-then-is_independent.ensures),
            )),
            (λ h. answers_same c.contains.result c.contains-then-is_independent.result (c.contains.ensures ∙ t.1 h.2 ∙ sym c.contains-then-is_independent.ensures)),
          ))
      | else-rank-self w ↦
          absurd (w.if-rank-self.false
          (eqb-true (c.rank.result + count_ones c.args.self.now.contracted) c.rank-2.result (sym w.value-is ∙ c.if-is_independent.true)))
    ]

pub returns-else-is_independent : goal.returns-else-is_independent
returns-else-is_independent c =
    let e : size_below (size c.args.self.now.whole.now) (members c.args.self.now.contracted) ≡ count_ones c.args.self.now.contracted =
    size-members (size c.args.self.now.whole.now) c.args.self.now.contracted c.requires.set in (
      (λ t. absurd (false≢true (sym c.if-is_independent.false ∙ t))),
      (λ h. elim c.if-rank-self.branch [
        | then-rank-self w ↦ w.value-is ∙ w.is_independent.ensures.1
            ((independent_same c.args.self.now.whole.now c.laws.ensures 0 w.columns.result.now.field w.columns.result.now.columns.items
            w.columns.ensures (members c.args.self.now.contracted)).1 h.1)
        | else-rank-self w ↦ absurd (w.if-rank-self.false ((λ i. c.rank.ensures i + sym e i) ∙ h.0 ∙ sym c.rank-2.ensures))
      ]),
    )
