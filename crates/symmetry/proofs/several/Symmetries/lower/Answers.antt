use Rattle.std.proofs.Common.{◌≤◌, length, ap, subst, arith}
use Rattle.matroid_theory.specs.Rep.{KeepsLimits}
use Rattle.symmetry.specs.Symmetric.{MovesOf, AreSymmetries}
use Rattle.symmetry.proofs.Unique.{not_lower_more, none_lower}
use Rattle.symmetry.proofs.several.Symmetries.lower.Goals as goal

pub loop-i-init : goal.loop-i-init
loop-i-init c k w l = absurd (omega arith)

pub loop-i-preserved : goal.loop-i-preserved
loop-i-preserved c =
    let s : MovesOf = c.args.self.now in
    let limits : KeepsLimits s.parent = subst KeepsLimits (ap (λ (m : MovesOf). m.parent) c.self.view_is) c.laws.ensures in
    not_lower_more s limits.shaped limits.fields.some (subst AreSymmetries c.self.view_is c.self.invariant) c.args.column.now.items c.loop-i.i
    c.image-image.result.items c.loop-i.invariant c.image-image.ensures.under
    (λ less. let yes = c.is_below.ensures.1 less in let no = c.if-is_below.false in cc (yes, no))

pub returns : goal.returns
returns c =
    let s : MovesOf = c.args.self.now in
    let limits : KeepsLimits s.parent = subst KeepsLimits (ap (λ (m : MovesOf). m.parent) c.self.view_is) c.laws.ensures in
    let done : length s.moves ≤ c.loop-i.i = (let e = c.len-i-end.ensures in let f = c.loop-i-test.false in omega arith) in
    none_lower s limits.shaped limits.fields.some (subst AreSymmetries c.self.view_is c.self.invariant) c.args.column.now.items c.loop-i.i done
    c.loop-i.invariant
