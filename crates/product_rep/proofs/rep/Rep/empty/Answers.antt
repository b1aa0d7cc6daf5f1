use Rattle.std.proofs.Common.{length, ap, ◌∙◌, arith}
use Rattle.product_rep.proofs.rep.Rep.empty.Goals as goal

pub invariant_of-result : goal.invariant_of-result
invariant_of-result c = record {
  full = ap (λ w. length w) c.new.ensures ∙ omega arith;
  is_rep = record {
    fields = c.laws.ensures;
    rank_positive = c.requires.low;
    rank_most = c.requires.high;
    size_most = omega arith;
    shaped = record {
      orders = c.laws.ensures.fields;
      lengths = λ j l. absurd (omega arith);
      codes = λ f i j l m o. absurd (omega arith);
    };
  };
}
