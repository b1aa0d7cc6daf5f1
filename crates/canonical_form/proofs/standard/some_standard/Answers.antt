use Rattle.std.proofs.Common.{◌≡◌, ℕ, List, zero, length, ap, refl, arith, subst}
use Rattle.matroid_theory.specs.Rep.{Rep, KeepsLimits}
use Rattle.canonical_form.specs.Search.{AreOfClass, AreOtherCoordinates, IsOrderedBasis}
use Rattle.canonical_form.proofs.Made.{coordinates_made}
use Rattle.canonical_form.proofs.Whole.{reached, class_equivalent}
use Rattle.canonical_form.proofs.standard.some_standard.Goals as goal

-- the basis under the name that the code has for it
named_made : (M : Rep) (basis named : List ℕ) (columns : List (List ℕ)) → KeepsLimits M → IsOrderedBasis M basis → named ≡ basis →
    AreOtherCoordinates M named columns → AreOfClass M columns
named_made M basis named columns h b e a =
    coordinates_made M basis columns h b (subst (λ (basis : List ℕ). AreOtherCoordinates M basis columns) e a)

pub standard-requires : goal.standard-requires
standard-requires c =
    named_made c.args.rep.now c.in-Some.basis.items c.as_slice.result.now c.other_coordinates.result c.laws.ensures c.in-Some.ensures.sound
    c.as_slice.ensures.value c.other_coordinates.ensures

pub unreachable-requires : goal.unreachable-requires
unreachable-requires c =
    let (m, N, h) = reached c.args.rep.now c.laws.ensures c.requires in
    c.in-None.ensures.none refl m N h
    (λ i l. (let n : length c.new.result.items ≡ zero = ap (λ (w : List ℕ). length w) c.new.ensures in absurd (omega arith)))

pub returns-clause-equivalent : goal.returns-clause-equivalent
returns-clause-equivalent c =
    class_equivalent c.args.rep.now c.standard.result c.other_coordinates.result c.laws.ensures c.standard.ensures.shaped
    c.standard.ensures.shape c.standard.ensures.standard c.standard.ensures.later
    (named_made c.args.rep.now c.in-Some.basis.items c.as_slice.result.now c.other_coordinates.result c.laws.ensures c.in-Some.ensures.sound
    c.as_slice.ensures.value c.other_coordinates.ensures)
