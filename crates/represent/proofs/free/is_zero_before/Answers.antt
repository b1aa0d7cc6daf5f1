use Rattle.std.proofs.Common.{◌≡◌, ◌+◌, ◌*◌, ◌/◌, ◌%◌, ◌-◌, ◌<◌, ◌≤◌, ℕ, List, length, slice_index, sym, ◌∙◌, ap, subst, arith}
use Rattle.std.proofs.lemmas.Bool.{false≢true}
use Rattle.represent.specs.Filled.{row_at, column_at}
use Rattle.represent.proofs.free.is_zero_before.Goals as goal

-- the entry of the row in one of the columns
zero_there : (codes : List ℕ) (r n k : ℕ) → n ≡ length codes → k < n / r
    → ((j : ℕ) → r ≤ j → j < column_at r (length codes) → slice_index codes ((j - r) * r + row_at r (length codes)) ≡ 0)
    → slice_index codes (k * r + n % r) ≡ 0
zero_there codes r n k e l h =
    let g : k < length codes / r = subst (λ m. k < m / r) e l in
    let d : r + k - r ≡ k = omega arith in
    subst (λ m. slice_index codes (k * r + m % r) ≡ 0) (sym e)
    (subst (λ j. slice_index codes (j * r + length codes % r) ≡ 0) d (h (r + k) (omega arith) (omega arith)))

pub returns-then-deref-column-ne0 : goal.returns-then-deref-column-ne0
returns-then-deref-column-ne0 c = (
  λ t. absurd (false≢true t),
  λ h. absurd (c.if-deref-column-ne0.true (
      ap (λ (xs : List ℕ). slice_index xs (c.loop-column.column * c.args.rank + c.len.result % c.args.rank)) c.deref.ensures.0
      ∙ zero_there c.args.codes.now.items c.args.rank c.len.result c.loop-column.column c.len.ensures.value
      (subst (λ n. c.loop-column.column < n / c.args.rank) (c.len-2.ensures.value ∙ sym c.len.ensures.value) c.loop-column-test.true) h)),
)
