use Rattle.std.proofs.Common.{◌≡◌, ◌≤◌, ◌<◌, ◌+◌, arith}
use Rattle.std.proofs.lemmas.Bool.{leb-false}
use Rattle.matroid_theory.specs.Matrix.{size_below}
use Rattle.matroid_theory.specs.Rep.{size}
use Rattle.minor_test.proofs.Embeddings.{room}
use Rattle.minor_test.proofs.test.leaves_room.Goals as goal

pub returns-then-rank-clause-no_minor : goal.returns-then-rank-clause-no_minor
returns-then-rank-clause-no_minor c f m =
    let (g, C, h) = m in
    let e : c.args.minor.now.rank + size_below (size c.args.rep.now) C ≡ c.args.rep.now.rank = h.contracted in
    let l : c.args.minor.now.size + size_below (size c.args.rep.now) C ≤ size c.args.rep.now = room c.args.minor.now c.args.rep.now g C h in
    let few : c.size-then-rank.result + c.rank-then-rank-2.result < c.size.result + c.rank-then-rank.result = leb-false _ _ f in
    let s : c.size.result ≡ c.args.minor.now.size = c.size.ensures.value in
    let r : c.rank-then-rank.result ≡ c.args.rep.now.rank = c.rank-then-rank.ensures in
    let n : c.size-then-rank.result ≡ size c.args.rep.now = c.size-then-rank.ensures.value in
    let k : c.rank-then-rank-2.result ≡ c.args.minor.now.rank = c.rank-then-rank-2.ensures in
    omega arith
