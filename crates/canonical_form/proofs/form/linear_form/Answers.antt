use Rattle.std.proofs.Common.{◌≡◌, ℕ, zero, ap, subst, arith, List, [], length, Option, IfSome}
use Rattle.matroid_theory.specs.Move.{Move}
use Rattle.canonical_form.specs.Search.{PicksFirst, AreOfClass, IsNotAbove}
use Rattle.canonical_form.proofs.Whole.{reached, class_form}
use Rattle.canonical_form.proofs.form.linear_form.Goals as goal

-- every move begins with no column
begins_with_none : (columns : List ℕ) (m : Move) → columns ≡ [] → PicksFirst columns m
begins_with_none columns m e i l = let n : length columns ≡ zero = ap (λ (w : List ℕ). length w) e in absurd (omega arith)

pub unreachable-requires : goal.unreachable-requires
unreachable-requires c =
    let (m, N, h) = reached c.args.rep.now c.laws.ensures c.requires in
    subst (λ (found : Option (List (List ℕ))). IsNotAbove found N) c.in-None.is
    (c.try_bases.ensures.covers m N h (begins_with_none c.new.result.items m c.new.ensures))

pub returns-clause-form : goal.returns-clause-form
returns-clause-form c =
    (class_form c.args.rep.now c.standard.result c.in-Some.columns c.laws.ensures c.requires c.standard.ensures.shaped
    c.standard.ensures.shape c.standard.ensures.standard c.standard.ensures.later
    (subst (λ (found : Option (List (List ℕ))). IfSome found (AreOfClass c.args.rep.now)) c.in-Some.is c.try_bases.ensures.sound)
    (λ m L h. subst (λ (found : Option (List (List ℕ))). IsNotAbove found L) c.in-Some.is
    (c.try_bases.ensures.covers m L h (begins_with_none c.new.result.items m c.new.ensures)))).0

pub returns-clause-equivalent : goal.returns-clause-equivalent
returns-clause-equivalent c =
    (class_form c.args.rep.now c.standard.result c.in-Some.columns c.laws.ensures c.requires c.standard.ensures.shaped
    c.standard.ensures.shape c.standard.ensures.standard c.standard.ensures.later
    (subst (λ (found : Option (List (List ℕ))). IfSome found (AreOfClass c.args.rep.now)) c.in-Some.is c.try_bases.ensures.sound)
    (λ m L h. subst (λ (found : Option (List (List ℕ))). IsNotAbove found L) c.in-Some.is
    (c.try_bases.ensures.covers m L h (begins_with_none c.new.result.items m c.new.ensures)))).1
