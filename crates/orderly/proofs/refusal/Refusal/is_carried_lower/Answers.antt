use Rattle.std.proofs.Common.{◌≡◌, Option, Some, sym, ap, subst}
use Rattle.std.specs.Prelude.{IfSome}
use Rattle.matroid_theory.specs.declared.Mode.{Mode}
use Rattle.matroid_theory.specs.Rep.{Rep, IsProductColumn}
use Rattle.matroid_theory.specs.Order.{IsForm}
use Rattle.matroid_theory.specs.Level.{followed_by}
use Rattle.symmetry.specs.Symmetric.{MovesOf}
use Rattle.orderly.specs.Refused.{RefusalOf}
use Rattle.orderly.proofs.Refused.{carried_lower}
use Rattle.orderly.proofs.refusal.Refusal.is_carried_lower.Goals as goal

-- the moves that were found are of the parent and the mode
found_of : (r : RefusalOf) (P : Rep) (mode : Mode) (found : Option MovesOf) (s : MovesOf) → record { parent = P; mode = mode } ≡ r → found ≡ Some s →
    IfSome found (λ s. (s.parent ≡ P) × (s.mode ≡ mode)) → (s.parent ≡ r.parent) × (s.mode ≡ r.mode)
found_of r P mode found s view is h =
    subst (λ (r : RefusalOf). (s.parent ≡ r.parent) × (s.mode ≡ r.mode)) view
    (subst (λ (found : Option MovesOf). IfSome found (λ s. (s.parent ≡ P) × (s.mode ≡ mode))) is h)

pub has_lower-requires : goal.has_lower-requires
has_lower-requires c =
    let of = found_of c.args.self.now c.self.inside.parent.now c.self.inside.mode c.self.inside.symmetries c.in-Some.symmetries
    c.self.view_is c.in-Some.is c.self.invariant in
    subst (λ (P : Rep). IsProductColumn P.factors P.rank c.args.column.now.items) (sym of.0) c.requires.column.normalised.is_column

pub returns-in-Some : goal.returns-in-Some
returns-in-Some c lower =
    let of = found_of c.args.self.now c.self.inside.parent.now c.self.inside.mode c.self.inside.symmetries c.in-Some.symmetries
    c.self.view_is c.in-Some.is c.self.invariant in
    carried_lower c.in-Some.symmetries c.args.self.now.mode c.args.self.now.parent c.args.column.now.items of.0 of.1
    c.requires.parent.standard (c.has_lower.ensures.0 lower)
