use Rattle.std.proofs.Common.{◌≡◌, ◌≤◌, ◌<◌, ◌^◌, ap, arith}
use Rattle.matroid_theory.specs.Rep.{size, KeepsLimits}
use Rattle.matroid_theory.specs.Matroid.{members}
use Rattle.matrix_lemmas.proofs.Masks.{mask, mask-below}
use Rattle.minor_test.proofs.Embeddings.{contracted_mask}
use Rattle.minor_test.proofs.Reordered.{reordered}
use Rattle.minor_test.proofs.test.find_minor.Goals as goal

pub returns-clause-none : goal.returns-clause-none
returns-clause-none c _ m =
    let (f, C, h) = m in
    let r : KeepsLimits c.args.whole.now = c.laws.ensures in
    let (g, k, e) = reordered c.args.sought.now c.args.whole.now
    (members (mask (size c.args.whole.now) C)) r.size_most c.twins-twins.result.now.items c.twins-twins.ensures f
    (contracted_mask c.args.sought.now c.args.whole.now f C h) in
    c.loop-set.invariant (mask (size c.args.whole.now) C)
    (let b : mask (size c.args.whole.now) C < 2 ^ size c.args.whole.now = mask-below (size c.args.whole.now) C in
    let d : 2 ^ c.size.result ≡ 2 ^ size c.args.whole.now = ap (λ n. 2 ^ n) c.size.ensures in
    let o : c.set_count-set-end.result ≤ c.loop-set.set = c.loop-set-test.false in
    let v : c.set_count-set-end.result ≡ 2 ^ c.size.result = c.set_count-set-end.ensures.value in
    omega arith)
    g k e
