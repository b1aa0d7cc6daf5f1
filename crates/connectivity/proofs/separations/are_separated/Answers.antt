use Rattle.std.proofs.Common.{◌≡◌, ◌<◌, ◌≤◌, ◌+◌, ltb-true, lt-ltb, arith}
use Rattle.matroid_theory.specs.Matrix.{size_below}
use Rattle.matroid_theory.specs.Rep.{size}
use Rattle.matroid_theory.specs.Matroid.{members}
use Rattle.connectivity.proofs.SplitLemmas.{sides_separate, sides_large, sides_small}
use Rattle.connectivity.proofs.separations.are_separated.Goals as goal

pub returns-then-order-gt0 : goal.returns-then-order-gt0
returns-then-order-gt0 c =
    let r = c.laws.ensures in
    let f : size_below (size c.args.rep.now) (members c.args.first.set) ≡ c.size.result =
    c.size.ensures (size c.args.rep.now) c.requires.first.set_below in
    let s : size_below (size c.args.rep.now) (members c.args.second.set) ≡ c.size-2.result =
    c.size-2.ensures (size c.args.rep.now) c.requires.second.set_below in
    let a = c.rank.ensures.rank c.args.rep.now r c.requires.first in
    let b = c.rank-then-order-gt0.ensures.rank c.args.rep.now r c.requires.second in (
      λ t. let l : c.rank.result + c.rank-then-order-gt0.result < c.rank-then-order-gt0-2.result + c.min-order.result = ltb-true _ _ t in
          sides_separate c.args.rep.now (members c.args.first.set) (members c.args.second.set) c.requires.parts c.args.greatest
          c.min-order.result c.rank.result c.rank-then-order-gt0.result a b (omega arith) (omega arith) (omega arith) (omega arith) (omega arith),
      λ x. let (l, m) = sides_large c.args.rep.now (members c.args.first.set) (members c.args.second.set) c.requires.parts c.args.greatest x in
          let n : c.rank.result + c.rank-then-order-gt0.result < c.args.rep.now.rank + x.order =
          sides_small c.args.rep.now (members c.args.first.set) (members c.args.second.set) c.requires.parts c.args.greatest c.rank.result
          c.rank-then-order-gt0.result a b x in
          let k : x.order ≤ c.args.greatest = x.most in
          lt-ltb (c.rank.result + c.rank-then-order-gt0.result) (c.rank-then-order-gt0-2.result + c.min-order.result) (omega arith),
    )

pub returns-else-order-gt0 : goal.returns-else-order-gt0
returns-else-order-gt0 c =
    let f : size_below (size c.args.rep.now) (members c.args.first.set) ≡ c.size.result =
    c.size.ensures (size c.args.rep.now) c.requires.first.set_below in
    let s : size_below (size c.args.rep.now) (members c.args.second.set) ≡ c.size-2.result =
    c.size-2.ensures (size c.args.rep.now) c.requires.second.set_below in (
      λ t. absurd (let l : 0 < c.min-order.result = ltb-true _ _ t in omega arith),
      λ x. absurd (let (l, m) =
          sides_large c.args.rep.now (members c.args.first.set) (members c.args.second.set) c.requires.parts c.args.greatest x in
          let o : 0 < x.order = x.positive in
          let k : x.order ≤ c.args.greatest = x.most in
          omega arith),
    )
