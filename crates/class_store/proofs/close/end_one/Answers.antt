use Rattle.std.proofs.Common.{◌-◌, ◌^◌, ap, sym, ◌∙◌, length, min}
use Rattle.histories.specs.SetObject.{keys_after}
use Rattle.class_store.proofs.close.end_one.Goals as goal

pub end-ended-requires-clause-table : goal.end-ended-requires-clause-table
end-ended-requires-clause-table c = c.requires.table

pub end-ended-requires-clause-left : goal.end-ended-requires-clause-left
end-ended-requires-clause-left c = c.requires.left

pub returns-clause-ended : goal.returns-clause-ended
returns-clause-ended c = c.end-ended.ensures.book

pub returns-clause-settled : goal.returns-clause-settled
returns-clause-settled c = record {
  replayed = record {
    keys = c.args.stripe.replayed ∙ ap (λ b. keys_after b.history) (sym c.end-ended.ensures.book);
    count = c.args.stripe.counted ∙ ap (λ b. min (length b.history) (2 ^ 64 - 1)) (sym c.end-ended.ensures.book);
    legal = c.end-ended.ensures.legal;
  };
  own = c.end-ended.ensures.calls;
  saw = c.end-ended.ensures.seen;
  below = c.end-ended.ensures.callers;
}
