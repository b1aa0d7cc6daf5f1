use Rattle.std.proofs.Common.{◌<◌, length, sym, subst}
use Rattle.std.proofs.lemmas.Option.{slice_get_read}
use Rattle.symmetry.specs.Symmetric.{MovesOf, IsSymmetry, IsImage, IsImageUnder}
use Rattle.symmetry.proofs.Supported.{admissible_image}
use Rattle.symmetry.proofs.several.Symmetries.image.Goals as goal

pub returns-clause-image : goal.returns-clause-image
returns-clause-image c =
    let s = c.self.inside in
    let here : c.args.i < length s.moves.items = subst (λ (m : MovesOf). c.args.i < length m.moves) (sym c.self.view_is) c.requires.index in
    let symmetry : IsSymmetry s.mode s.parent c.index.result.now = subst (IsSymmetry s.mode s.parent) (sym c.index.ensures)
    (c.self.invariant c.args.i c.index.result.now here) in
    let equivalent = c.image.ensures.equivalent s.mode symmetry in
    subst (λ (m : MovesOf). IsImage m c.args.column.now.items c.image.result.items) c.self.view_is record {
      equivalent = equivalent;
      column = c.image.ensures.column;
      scaled = c.image.ensures.scaled;
      admissible = λ st a. admissible_image s.mode s.parent c.args.column.now.items c.image.result.items c.laws.ensures.fields.some
          st equivalent c.image.ensures.scaled a;
    }

pub returns-clause-under : goal.returns-clause-under
returns-clause-under c =
    let s = c.self.inside in
    let here : c.args.i < length s.moves.items = subst (λ (m : MovesOf). c.args.i < length m.moves) (sym c.self.view_is) c.requires.index in
    subst (λ (m : MovesOf). IsImageUnder m c.args.i c.args.column.now.items c.image.result.items) c.self.view_is (
      c.index.result.now,
      slice_get_read s.moves.items (length s.moves.items) c.args.i c.index.result.now (λ i. length s.moves.items) here c.index.ensures,
      c.image.ensures.by,
    )
