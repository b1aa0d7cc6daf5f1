use Rattle.std.proofs.Common.{◌≡◌, sym, arith}
use Rattle.matroid_theory.specs.Rep.{size}
use Rattle.level_driver.proofs.NextLevel.{inside, parent_size}
use Rattle.level_driver.proofs.growth.next_size.Goals as goal

pub returns-in-Some-clause-room : goal.returns-in-Some-clause-room
returns-in-Some-clause-room c =
    let s : size c.in-Some.parent.now ≡ c.requires.0 = parent_size c.args.request.now c.laws.ensures.forbidden.0 c.laws.ensures.forbidden.1 c.requires.0
    c.args.parents.now c.requires.1 c.in-Some.parent.now (inside c.args.parents.now 0 c.in-Some.parent.now (sym c.in-Some.ensures)) in
    let v = c.size.ensures.value in
    let l = c.requires.1.at_least in
    omega arith

pub returns-in-Some-clause-most : goal.returns-in-Some-clause-most
returns-in-Some-clause-most c =
    let s : size c.in-Some.parent.now ≡ c.requires.0 = parent_size c.args.request.now c.laws.ensures.forbidden.0 c.laws.ensures.forbidden.1 c.requires.0
    c.args.parents.now c.requires.1 c.in-Some.parent.now (inside c.args.parents.now 0 c.in-Some.parent.now (sym c.in-Some.ensures)) in
    let v = c.size.ensures.value in
    let b = c.requires.1.before in
    let m = c.laws.ensures.limits.size.1 in
    omega arith

pub returns-in-Some-clause-next : goal.returns-in-Some-clause-next
returns-in-Some-clause-next c = λ P at.
    let s : size c.in-Some.parent.now ≡ c.requires.0 = parent_size c.args.request.now c.laws.ensures.forbidden.0 c.laws.ensures.forbidden.1 c.requires.0
    c.args.parents.now c.requires.1 c.in-Some.parent.now (inside c.args.parents.now 0 c.in-Some.parent.now (sym c.in-Some.ensures)) in
    let t : size P ≡ c.requires.0 = parent_size c.args.request.now c.laws.ensures.forbidden.0 c.laws.ensures.forbidden.1 c.requires.0 c.args.parents.now
    c.requires.1 P at in
    let v = c.size.ensures.value in
    omega arith
