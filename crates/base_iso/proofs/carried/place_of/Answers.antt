use Rattle.std.proofs.Common.{ℕ, ltb, ltb-true, arith, rules}
use Rattle.std.proofs.lemmas.Bool.{ltb-false}
use Rattle.std.proofs.lemmas.List.Sorted.{IsPartitionPoint-from_clause, IsPartitionedBy-ltb}
use Rattle.base_iso.proofs.Searches.{rising_by}
use Rattle.base_iso.proofs.carried.place_of.Goals as goal

pub returns : goal.returns
returns c =
    let parted = IsPartitionedBy-ltb (λ (x : ℕ). x) c.args.sets.now c.args.bound (rising_by c.args.sets.now c.requires) in
    let point = IsPartitionPoint-from_clause (λ (x : ℕ). ltb x c.args.bound) c.args.sets.now c.partition_point.result
    c.partition_point.ensures.partitioned parted (λ a r q k. search rules) in
    record {
      within = c.partition_point.ensures.bound;
      below = λ k l. ltb-true _ c.args.bound (point.0 k 0 (omega arith) l);
      from = λ k l m. ltb-false _ c.args.bound (point.1 k 0 l m);
    }
