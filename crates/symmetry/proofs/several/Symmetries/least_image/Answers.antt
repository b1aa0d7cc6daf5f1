use Rattle.std.proofs.Common.{◌≡◌, List, ℕ, sym, ◌∙◌, ap, subst}
use Rattle.matroid_theory.specs.Rep.{IsShaped, IsProductColumn}
use Rattle.matroid_theory.specs.Move.{AreEquivalent}
use Rattle.matroid_theory.specs.Level.{followed_by}
use Rattle.matroid_laws.proofs.Equivalence.{equivalent-reflexive, equivalent-transitive}
use Rattle.matroid_laws.proofs.Followed.{shaped_pushed}
use Rattle.symmetry.specs.Symmetric.{MovesOf, IsImage}
use Rattle.symmetry.proofs.several.Symmetries.least_image.Goals as goal

pub loop-init : goal.loop-init
loop-init c =
    let s : MovesOf = c.args.self.now in
    let v : List ℕ = c.args.column.now.items in
    let shaped : IsShaped s.parent = subst IsShaped (ap (λ (m : MovesOf). m.parent) c.self.view_is) c.laws.ensures.shaped in
    let same : v ≡ c.list_of-least.result.items = sym (c.list_of-least.ensures ∙ c.as_slice.ensures.value) in
    record {
      equivalent = subst (λ (u : List ℕ). AreEquivalent s.mode (followed_by s.parent v) (followed_by s.parent u)) same
          (equivalent-reflexive s.mode (followed_by s.parent v) (shaped_pushed s.parent v shaped c.requires));
      column = subst (IsProductColumn s.parent.factors s.parent.rank) same c.requires;
    }

pub loop-preserved : goal.loop-preserved
loop-preserved c =
    let s : MovesOf = c.args.self.now in
    let lower = c.in-Some.ensures in
    let h : IsImage s c.loop.least.items c.in-Some.lower.items = lower.image in
    record {
      equivalent = equivalent-transitive s.mode (followed_by s.parent c.args.column.now.items)
          (followed_by s.parent c.loop.least.items) (followed_by s.parent c.in-Some.lower.items)
          c.loop.invariant.equivalent h.equivalent;
      column = h.column;
    }
