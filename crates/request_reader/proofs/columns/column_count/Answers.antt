use Rattle.std.proofs.Common.{◌∙◌, ℕ, ap, ◌≤◌, ◌<◌, ◌^◌, ◌*◌, ◌+◌, arith}
use Rattle.request_reader.proofs.ColumnCounts.{power_few, few_more, choices_few, count_step, few_step, sum_fits}
use Rattle.request_reader.proofs.columns.column_count.Goals as goal

pub pow-requires : goal.pow-requires
pow-requires c =
    let few : c.entry_count-entries.result ^ c.from.result ≤ 1728 ^ 5 =
    power_few c.from.result c.entry_count-entries.result (omega (arith, c.from.ensures)) c.entry_count-entries.ensures.few in
    omega arith

pub overflow_mul-count : goal.overflow_mul-count
overflow_mul-count c =
    let more : c.subsets.result * c.pow.result ≤ 2 ^ 60 =
    few_more c.from.result c.subsets.result c.pow.result c.entry_count-entries.result (omega (arith, c.from.ensures))
    (choices_few _ c.args.rank c.subsets.ensures.few c.requires) c.pow.ensures c.entry_count-entries.ensures.few in
    omega arith

pub overflow_add-count : goal.overflow_add-count
overflow_add-count c =
    let more : c.subsets.result * c.pow.result ≤ 2 ^ 60 =
    few_more c.from.result c.subsets.result c.pow.result c.entry_count-entries.result (omega (arith, c.from.ensures))
    (choices_few _ c.args.rank c.subsets.ensures.few c.requires) c.pow.ensures c.entry_count-entries.ensures.few in
    let fits : c.loop-s.count + c.subsets.result * c.pow.result < 2 ^ 64 =
    sum_fits c.loop-s.s c.loop-s.count _ (omega arith) c.loop-s.invariant.few more in
    omega arith

pub loop-s-preserved : goal.loop-s-preserved
loop-s-preserved c =
    let more : c.subsets.result * c.pow.result ≤ 2 ^ 60 =
    few_more c.from.result c.subsets.result c.pow.result c.entry_count-entries.result (omega (arith, c.from.ensures))
    (choices_few _ c.args.rank c.subsets.ensures.few c.requires) c.pow.ensures c.entry_count-entries.ensures.few in
    record {
      counted = count_step c.args.rank c.args.factors.now c.loop-s.s c.loop-s.count c.subsets.result c.pow.result c.entry_count-entries.result
          c.loop-s.invariant.counted c.subsets.ensures.value
          (c.pow.ensures ∙ ap (λ (s : ℕ). c.entry_count-entries.result ^ s) c.from.ensures) c.entry_count-entries.ensures.value;
      few = few_step c.loop-s.s c.loop-s.count _ c.loop-s.invariant.few more;
    }
