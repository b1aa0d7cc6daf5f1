use Rattle.std.proofs.Common.{◌≡◌, ◌<◌, ◌≤◌, ℕ, length, sym, ◌∙◌, arith, subst}
use Rattle.product_rep.proofs.IdentityLemmas.{place-at, place-none}
use Rattle.product_rep.proofs.ValidLemmas.{size_is}
use Rattle.product_rep.proofs.moves.Move.place.Goals as goal

pub returns-then-label-j-clause-place : goal.returns-then-label-j-clause-place
returns-then-label-j-clause-place c =
    let n : length c.args.self.now.labels ≡ c.from-k-end.result = c.laws.ensures.labels
    ∙ sym (size_is c.self.inside c.args.self.now c.from-k-end.result c.self.view_is c.from-k-end.ensures) in
    sym (place-at c.args.self.now.labels c.args.j c.loop-k.k (subst (λ (m : ℕ). c.loop-k.k < m) (sym n) c.loop-k-test.true)
    (sym c.label.ensures ∙ c.if-label-j.true) c.loop-k.invariant)

pub returns-clause-place : goal.returns-clause-place
returns-clause-place c =
    let n : length c.args.self.now.labels ≡ c.from-k-end.result = c.laws.ensures.labels
    ∙ sym (size_is c.self.inside c.args.self.now c.from-k-end.result c.self.view_is c.from-k-end.ensures) in
    sym (place-none c.args.self.now.labels c.args.j
    (λ k b. let d : c.from-k-end.result ≤ c.loop-k.k = c.loop-k-test.false in c.loop-k.invariant k (omega arith)))
