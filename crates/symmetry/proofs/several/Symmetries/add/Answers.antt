use Rattle.std.proofs.lemmas.List.Elements.{All-push, All-same}
use Rattle.symmetry.specs.Symmetric.{IsSymmetry}
use Rattle.symmetry.proofs.several.Symmetries.add.Goals as goal

pub invariant_of-self : goal.invariant_of-self
invariant_of-self c =
    All-same (IsSymmetry c.self.inside.mode c.self.inside.parent) c.push.new.self.items _ c.in_ok-push.ensures.items
    (All-push (IsSymmetry c.self.inside.mode c.self.inside.parent) c.self.inside.moves.items c.args.step c.self.invariant
    (c.is_symmetry.ensures.0 c.if-is_symmetry.true))
