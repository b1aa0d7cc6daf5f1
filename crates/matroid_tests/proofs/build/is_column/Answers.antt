use Rattle.std.proofs.Common.{◌≡◌, ◌<◌, ◌+◌, ◌*◌, ◌%◌, ℕ, List, length, slice_index, arith, subst}
use Rattle.std.proofs.lemmas.Nat.{mod-mul-add, mul-add-lt}
use Rattle.std.proofs.Math.Nat.{mul_comm}
use Rattle.matroid_theory.specs.Rep.{IsProductColumn}
use Rattle.matroid_tests.proofs.build.is_column.Goals as goal

-- a list of codes in rows, each code one of its field
codes_in_rows : (fs : List ℕ) (r : ℕ) (v : List ℕ) → length v ≡ r * length fs
    → ((p : ℕ) → p < length v → slice_index v p < slice_index fs (p % length fs)) → IsProductColumn fs r v
codes_in_rows fs r v e h = record {
  rows = e;
  codes = λ i f l m.
      let b : i * length fs + f < length fs * r = mul-add-lt i (length fs) f r l m in
      let s : length fs * r ≡ r * length fs = mul_comm (length fs) r in
      subst (λ (x : ℕ). slice_index v (i * length fs + f) < slice_index fs x) (mod-mul-add i (length fs) f m)
      (h (i * length fs + f) (omega arith));
}

pub returns : goal.returns
returns c = λ _.
    let all : length c.args.codes.now ≡ c.args.rank * c.count-count.result = omega arith in
    let rows : length c.args.codes.now ≡ c.args.rank * length c.args.factors.now =
    subst (λ (n : ℕ). length c.args.codes.now ≡ c.args.rank * n) c.count-count.ensures.count all in
    codes_in_rows c.args.factors.now c.args.rank c.args.codes.now rows (λ p l. c.loop-place.invariant p (omega arith))
