use Rattle.std.proofs.Common.{◌≡◌, ◌≢◌, ◌<◌, ◌+◌, ◌/◌, ℕ, length, slice_index}
use Rattle.extension.proofs.normalised.raised.Given as goal

-- the codes before this place
abbrev pub invariant-loop-p : goal.invariant-loop-p
invariant-loop-p l =
    record {
      rows : length l.raised.items ≡ l.p;
      before : (k : ℕ) → k < l.p → k < l.place → slice_index l.raised.items k ≡ slice_index l.column k;
      at : (k : ℕ) → k < l.p → k ≡ l.place → slice_index l.raised.items k ≡ slice_index l.column l.place + 1;
      in_row : (k : ℕ) → k < l.p → l.place < k → k / l.count ≡ l.place / l.count → slice_index l.raised.items k ≡ 1;
      later_rows : (k : ℕ) → k < l.p → l.place < k → k / l.count ≢ l.place / l.count → slice_index l.raised.items k ≡ 0;
    }
