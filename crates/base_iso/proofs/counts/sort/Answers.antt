use Rattle.std.proofs.Common.{◌≡◌, ◌∙◌, ℕ, List, length, subst, sym, ap, arith}
use Rattle.std.specs.List.{refill}
use Rattle.std.specs.List.Sorted.{IsNonDecreasing}
use Rattle.std.proofs.lemmas.Grind.{common_steps}
use Rattle.std.proofs.lemmas.List.Sorted.{IsNonDecreasingBy-from_sort}
use Rattle.base_iso.proofs.counts.sort.Goals as goal

pub returns-clause-rising : goal.returns-clause-rising
returns-clause-rising c =
    let n : length c.sort_unstable.new.self ≡ length c.args.numbers.now.items =
    c.sort_unstable.ensures.len ∙ ap (λ (w : List ℕ). length w) c.as_mut_slice.ensures.value in
    let e : refill (length c.args.numbers.now.items) c.args.numbers.now.items c.sort_unstable.new.self ≡ c.sort_unstable.new.self =
    grind (arith, common_steps) in
    subst IsNonDecreasing (sym e) (IsNonDecreasingBy-from_sort (λ x. x) c.sort_unstable.new.self c.sort_unstable.ensures.sorted)
