use Rattle.std.proofs.Common.{◌≡◌, ◌<◌, ℕ, length, slice_index}
use Rattle.product_rep.proofs.matrices.numbers.Given as goal

abbrev pub invariant-loop-j : goal.invariant-loop-j
invariant-loop-j l =
    record {
      length : length l.list.items ≡ l.j;
      entries : (k : ℕ) → k < l.j → slice_index l.list.items k ≡ k;
    }
