use Rattle.std.proofs.Common.{◌≡◌, ◌+◌, ◌<◌, ℕ, Option, MatchOption, ◌∙◌, ap, subst, ◌≤◌, arith}
use Rattle.minor_test.specs.Twins.{AreTwins}
use Rattle.minor_test.proofs.TwinSets.{more_twins, more_found}
use Rattle.minor_test.proofs.twins.twins_of.Goals as goal

pub loop-j-preserved : goal.loop-j-preserved
loop-j-preserved c = record {
  count = c.push.ensures.len ∙ ap (λ n. n + 1) c.loop-j.invariant.count;
  twins = more_twins c.args.minor.now c.loop-j.twins.items c.push.new.self.items c.twin_before.result c.loop-j.j c.push.ensures.items c.loop-j.invariant.count
      (λ i e. subst (λ (o : Option ℕ). MatchOption o ((i : ℕ) → i < c.loop-j.j → ¬ (AreTwins c.args.minor.now i c.loop-j.j))
      (λ i. AreTwins c.args.minor.now i c.loop-j.j)) e c.twin_before.ensures) c.loop-j.invariant.twins;
  all = more_found c.args.minor.now c.loop-j.twins.items c.push.new.self.items c.twin_before.result c.loop-j.j c.push.ensures.items
      c.loop-j.invariant.count c.twin_before.ensures c.loop-j.invariant.all;
}

pub returns-clause-all : goal.returns-clause-all
returns-clause-all c i j l =
    let e : c.size-j-end.result ≡ c.args.minor.now.size = c.size-j-end.ensures.value in
    let g : c.size-j-end.result ≤ c.loop-j.j = c.loop-j-test.false in
    c.loop-j.invariant.all i j (omega arith)
