use Rattle.std.proofs.Common.{◌≡◌, sym, ◌∙◌, eqb-true, eq-eqb}
use Rattle.std.specs.Int.RustNames.{count_ones}
use Rattle.matroid_theory.specs.Rep.{size}
use Rattle.matroid_theory.specs.Matrix.{size_below}
use Rattle.matroid_theory.specs.Matroid.{members}
use Rattle.matrix_lemmas.proofs.MaskCounts.{size-members}
use Rattle.bases.proofs.basis.has_rank_many.Goals as goal

pub returns : goal.returns
returns c =
    let e : size_below (size c.args.rep.now) (members c.args.set) ≡ count_ones c.args.set = size-members (size c.args.rep.now) c.args.set c.requires in (
      λ t. e ∙ eqb-true (count_ones c.args.set) c.rank.result t ∙ c.rank.ensures,
      λ t. eq-eqb (count_ones c.args.set) c.rank.result (sym e ∙ t ∙ sym c.rank.ensures),
    )
