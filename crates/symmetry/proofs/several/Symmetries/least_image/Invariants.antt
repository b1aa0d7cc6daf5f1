use Rattle.matroid_theory.specs.Move.{AreEquivalent}
use Rattle.matroid_theory.specs.Rep.{IsProductColumn}
use Rattle.matroid_theory.specs.Level.{followed_by}
use Rattle.symmetry.proofs.several.Symmetries.least_image.Given as goal

-- an image that was found so far
abbrev pub invariant-loop : goal.invariant-loop
invariant-loop l = record {
  equivalent : AreEquivalent l.self.mode (followed_by l.self.parent l.column.items) (followed_by l.self.parent l.least.items);
  column : IsProductColumn l.self.parent.factors l.self.parent.rank l.least.items;
}
