use Rattle.std.proofs.Common.{◌≡◌, inl, inr, ℕ, ◌<◌, List, slice_index, sym, ◌∙◌, ap, arith, cond}
use Rattle.std.specs.Bool.{◌==◌}
use Rattle.std.proofs.lemmas.Bool.{cases_eq}
use Rattle.matroid_theory.specs.Field.{IsField, plus, times}
use Rattle.matrix_lemmas.proofs.Sums.{same_number, other_number, zero_times, plus_zero_right}
use Rattle.form_states.specs.Codes.{code, cleared_code}
use Rattle.form_states.proofs.columns.kept_row.Goals as goal

-- where row p is 0 there is nothing to clear
nothing_cleared : (fields : List ℕ) (p : ℕ) (minus e : ℕ → ℕ → ℕ) (f j : ℕ) → IsField (slice_index fields f) → e f p ≡ 0 → e f j < slice_index fields f →
    e f j ≡ cleared_code fields p minus e f j
nothing_cleared fields p minus e f j F z b = elim (cases_eq j p) [
  | inl o ↦ sym (ap (λ v. cond v (e f p) (plus (slice_index fields f) (e f j) (times (slice_index fields f) (e f p) (minus f j))))
      (ap (λ x. x == p) o ∙ same_number p) ∙ ap (e f) (sym o))
  | inr n ↦ sym (ap (λ v. cond v (e f p) (plus (slice_index fields f) (e f j) (times (slice_index fields f) (e f p) (minus f j)))) (other_number j p n)
      ∙ ap (λ x. plus (slice_index fields f) (e f j) (times (slice_index fields f) x (minus f j))) z
      ∙ ap (plus (slice_index fields f) (e f j)) (zero_times (slice_index fields f) F (minus f j)) ∙ plus_zero_right (slice_index fields f) F (e f j) b)
]

pub returns-clause-cleared : goal.returns-clause-cleared
returns-clause-cleared c f l =
    let t : f < 3 = omega (arith, c.requires.limits.few) in
    nothing_cleared c.args.shape.now.fields c.args.p (code c.args.minus.now) (code c.args.column.now) f c.args.i (c.laws.ensures f t) (c.requires.zero f l)
    (c.requires.column c.args.i c.requires.i f t)
