use Rattle.std.proofs.Common.{◌≡◌, ◌≤◌, ◌∙◌, ap, arith, ℕ, List, length, slice_index}
use Rattle.matroid_theory.specs.Rep.{size}
use Rattle.bases.specs.FactorColumns.{IsFactorOf}
use Rattle.bases.proofs.Factors.{factor_codes}
use Rattle.bases.proofs.factor.FactorColumns.of.Goals as goal

pub invariant_of-result : goal.invariant_of-result
invariant_of-result c =
    let n : c.size-j-end.result ≡ size c.args.rep.now = c.size-j-end.ensures.value in
    let low : c.loop-j.j ≤ c.size-j-end.result = c.loop-j.auto.j-end in
    let high : c.size-j-end.result ≤ c.loop-j.j = c.loop-j-test.false in
    let most : size c.args.rep.now ≤ 16 = c.laws.ensures.size_most in
    let k : length c.loop-j.columns.items ≡ c.loop-j.j = c.loop-j.invariant.count in
    let h : IsFactorOf c.args.rep.now c.args.factor c.field.result c.loop-j.columns.items = record {
      below = c.requires;
      order = c.field.ensures ∙ ap (λ (fs : List ℕ). slice_index fs c.args.factor) c.factors.ensures;
      count = omega arith;
      same = λ j l. c.loop-j.invariant.columns j (omega arith);
    } in
    record {
      few = omega arith;
      codes = factor_codes c.args.rep.now c.laws.ensures c.args.factor c.field.result c.loop-j.columns.items h;
    }
