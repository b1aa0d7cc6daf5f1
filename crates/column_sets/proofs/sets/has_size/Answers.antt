use Rattle.std.proofs.Common.{◌≡◌, sym, ◌∙◌, eqb-true, eq-eqb}
use Rattle.std.specs.Int.RustNames.{count_ones}
use Rattle.matroid_theory.specs.Matrix.{size_below}
use Rattle.matroid_theory.specs.Matroid.{members}
use Rattle.matrix_lemmas.proofs.MaskCounts.{size-members}
use Rattle.column_sets.proofs.sets.has_size.Goals as goal

pub returns : goal.returns
returns c =
    let e : size_below c.args.n (members c.args.set) ≡ count_ones c.args.set = size-members c.args.n c.args.set c.requires in (
      λ t. record { below = c.requires; elements = e ∙ eqb-true (count_ones c.args.set) c.args.k t },
      λ s. eq-eqb (count_ones c.args.set) c.args.k (sym e ∙ s.elements),
    )
