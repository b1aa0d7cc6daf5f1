use Rattle.std.proofs.Common.{◌≡◌, ◌<◌, ℕ, List, arith, sym, ◌∙◌, ap, subst, refl}
use Rattle.std.specs.List.{slice_index}
use Rattle.std.proofs.lemmas.Bool.{false≢true}
use Rattle.matroid_theory.specs.Rep.{size}
use Rattle.matroid_theory.specs.Matroid.{IsIndependentIn}
use Rattle.matroid_theory.specs.Level.{followed_by}
use Rattle.matroid_laws.proofs.Agreement.{one_more}
use Rattle.matrix_lemmas.proofs.Pairs.{pair}
use Rattle.extension.proofs.Parallel.{new_rows, new_column, old_column, multiple_parallel, apart_parallel}
use Rattle.extension.proofs.admissible.is_apart_in.Goals as goal

-- the order of the factor, as the function reads it
the_order : (q f : ℕ) (fs gs : List ℕ) → q ≡ slice_index gs f → gs ≡ fs → q ≡ slice_index fs f
the_order q f fs gs e d = e ∙ ap (λ (fs : List ℕ). slice_index fs f) d

pub is_multiple-requires-clause-lead : goal.is_multiple-requires-clause-lead
is_multiple-requires-clause-lead c = subst (λ (n : ℕ). c.args.lead < n)
    (sym (new_rows c.args.rep.now c.args.column.now.items c.requires.is_rep c.requires.room c.requires.column c.args.factor
    c.requires.factor c.field-field.result
    (the_order c.field-field.result c.args.factor c.args.rep.now.factors c.factors.result c.field-field.ensures c.factors.ensures)
    c.as_slice-in-loop-j.result.now (c.as_slice-in-loop-j.ensures.value ∙ c.part-part.ensures))) c.requires.lead

pub is_multiple-requires-clause-column : goal.is_multiple-requires-clause-column
is_multiple-requires-clause-column c = old_column c.args.rep.now c.args.column.now.items c.requires.is_rep c.requires.room
    c.requires.column c.args.factor c.requires.factor c.field-field.result
    (the_order c.field-field.result c.args.factor c.args.rep.now.factors c.factors.result c.field-field.ensures c.factors.ensures)
    c.as_slice-in-loop-j.result.now (c.as_slice-in-loop-j.ensures.value ∙ c.part-part.ensures) c.loop-j.j
    (let e : c.size-j-end.result ≡ size c.args.rep.now = c.size-j-end.ensures.value in omega arith) c.as_slice.result.now
    (c.as_slice.ensures.value ∙ c.factor_column.ensures)

pub is_multiple-requires-clause-of : goal.is_multiple-requires-clause-of
is_multiple-requires-clause-of c =
    new_column c.args.rep.now c.args.column.now.items c.requires.is_rep c.requires.room c.requires.column c.args.factor
    c.requires.factor c.field-field.result
    (the_order c.field-field.result c.args.factor c.args.rep.now.factors c.factors.result c.field-field.ensures c.factors.ensures)
    c.as_slice-in-loop-j.result.now (c.as_slice-in-loop-j.ensures.value ∙ c.part-part.ensures)

pub returns-then-is_multiple : goal.returns-then-is_multiple
returns-then-is_multiple c = (
  λ t. absurd (false≢true t),
  λ h. absurd (multiple_parallel c.args.rep.now c.args.column.now.items c.requires.is_rep c.requires.room c.requires.column
      c.args.factor c.requires.factor c.field-field.result
      (the_order c.field-field.result c.args.factor c.args.rep.now.factors c.factors.result c.field-field.ensures c.factors.ensures)
      c.as_slice-in-loop-j.result.now (c.as_slice-in-loop-j.ensures.value ∙ c.part-part.ensures) c.loop-j.j
      (let e : c.size-j-end.result ≡ size c.args.rep.now = c.size-j-end.ensures.value in omega arith) c.as_slice.result.now
      (c.as_slice.ensures.value ∙ c.factor_column.ensures) c.args.lead c.requires.lead c.requires.one
      (c.is_multiple.ensures.0 c.if-is_multiple.true)
      (h c.loop-j.j (let e : c.size-j-end.result ≡ size c.args.rep.now = c.size-j-end.ensures.value in omega arith))),
)

pub loop-j-preserved : goal.loop-j-preserved
loop-j-preserved c = one_more c.loop-j.j
    (λ j. IsIndependentIn (followed_by c.args.rep.now c.args.column.now.items) c.args.factor (pair (size c.args.rep.now) j)) c.loop-j.invariant
    (apart_parallel c.args.rep.now c.args.column.now.items c.requires.is_rep c.requires.room c.requires.column c.args.factor
    c.requires.factor c.field-field.result
    (the_order c.field-field.result c.args.factor c.args.rep.now.factors c.factors.result c.field-field.ensures c.factors.ensures)
    c.as_slice-in-loop-j.result.now (c.as_slice-in-loop-j.ensures.value ∙ c.part-part.ensures) c.loop-j.j
    (let e : c.size-j-end.result ≡ size c.args.rep.now = c.size-j-end.ensures.value in omega arith) c.as_slice.result.now
    (c.as_slice.ensures.value ∙ c.factor_column.ensures) c.args.lead c.requires.lead c.requires.one
    (λ m. false≢true (sym c.if-is_multiple.false ∙ c.is_multiple.ensures.1 m)))

pub returns : goal.returns
returns c = (λ _ j l. c.loop-j.invariant j (let e : c.size-j-end.result ≡ size c.args.rep.now = c.size-j-end.ensures.value in omega arith), λ _. refl)
