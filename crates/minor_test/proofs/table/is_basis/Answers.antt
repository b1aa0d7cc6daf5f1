use Rattle.std.proofs.Common.{◌≡◌, sym, ◌∙◌, eqb-true}
use Rattle.std.specs.Int.RustNames.{count_ones}
use Rattle.matroid_theory.specs.Rep.{size}
use Rattle.matroid_theory.specs.Matrix.{size_below}
use Rattle.matroid_theory.specs.Matroid.{members}
use Rattle.matrix_lemmas.proofs.MaskCounts.{size-members}
use Rattle.bases.proofs.Factors.{independent_same}
use Rattle.minor_test.proofs.table.is_basis.Goals as goal

pub returns-then-set-rank : goal.returns-then-set-rank
returns-then-set-rank c =
    let e : size_below (size c.args.rep.now) (members c.args.set) ≡ count_ones c.args.set = size-members (size c.args.rep.now) c.args.set c.requires.set in
    let s = independent_same c.args.rep.now c.laws.ensures 0 c.args.first.now.field c.args.first.now.columns.items c.requires.first (members c.args.set) in (
      (λ t. record { full = e ∙ c.if-set-rank.true ∙ c.rank.ensures; independent = s.0 (c.is_independent.ensures.0 t) }),
      (λ b. c.is_independent.ensures.1 (s.1 b.independent)),
    )

pub returns-else-set-rank : goal.returns-else-set-rank
returns-else-set-rank c =
    let e : size_below (size c.args.rep.now) (members c.args.set) ≡ count_ones c.args.set = size-members (size c.args.rep.now) c.args.set c.requires.set in (
      (λ t. absurd (c.if-set-rank.false (eqb-true (count_ones c.args.set) c.rank.result t))),
      (λ b. absurd (c.if-set-rank.false (sym e ∙ b.full ∙ sym c.rank.ensures))),
    )
