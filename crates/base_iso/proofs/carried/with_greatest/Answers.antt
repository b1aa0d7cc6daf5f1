use Rattle.std.proofs.Common.{◌≡◌, ◌<◌, ◌≤◌, ◌+◌, ◌^◌, sym, subst, arith, length}
use Rattle.std.specs.List.{slice_index}
use Rattle.std.proofs.lemmas.List.Elements.{Contains-get_or}
use Rattle.base_iso.specs.Started.{IsOneOf}
use Rattle.base_iso.proofs.Searches.{in_part, from_part}
use Rattle.base_iso.proofs.carried.with_greatest.Goals as goal

pub returns-clause-all : goal.returns-clause-all
returns-clause-all c X l h m =
    let low : c.set_count.result ≡ 2 ^ c.args.element = c.set_count.ensures.value in
    let high : c.set_count-2.result ≡ 2 ^ (c.args.element + 1) = c.set_count-2.ensures.value in
    in_part c.args.sets.now c.place_of-start.result c.place_of-end.result c.set_count.result c.set_count-2.result X
    c.place_of-end.ensures.within c.place_of-start.ensures.below c.place_of-end.ensures.from (omega arith) (omega arith) m

pub returns-clause-no_others : goal.returns-clause-no_others
returns-clause-no_others c k l =
    let low : c.set_count.result ≡ 2 ^ c.args.element = c.set_count.ensures.value in
    let high : c.set_count-2.result ≡ 2 ^ (c.args.element + 1) = c.set_count-2.ensures.value in
    let at = from_part c.args.sets.now c.place_of-start.result c.place_of-end.result k c.place_of-end.ensures.within l in
    let place : c.place_of-start.result + k < length c.args.sets.now = (let b = at.0 in let m = c.place_of-end.ensures.within in omega arith) in
    let a : c.set_count.result ≤ slice_index c.args.sets.now (c.place_of-start.result + k) = c.place_of-start.ensures.from
    (c.place_of-start.result + k) (omega arith) place in
    let b : slice_index c.args.sets.now (c.place_of-start.result + k) < c.set_count-2.result = c.place_of-end.ensures.below
    (c.place_of-start.result + k) at.0 in
    subst (IsOneOf c.args.sets.now c.args.element) (sym at.1)
    (record { stands = Contains-get_or c.args.sets.now (c.place_of-start.result + k) 0 place; low = omega arith; high = omega arith })
