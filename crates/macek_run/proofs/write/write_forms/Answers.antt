use Rattle.std.proofs.Common.{◌∙◌, ℕ, List, ap, subst}
use Rattle.std.specs.Io.KnownBytes.{Appends}
use Rattle.outside.specs.Bytes.{AppendsFront}
use Rattle.formats.specs.Levels.{columns_of}
use Rattle.formats.specs.Listing.{form_text}
use Rattle.macek_run.proofs.Writes.{next_written, next_failed}
use Rattle.macek_run.proofs.write.write_forms.Goals as goal

pub returns-in_default-clause-err : goal.returns-in_default-clause-err
returns-in_default-clause-err g c =
    next_failed (λ form. form_text (columns_of form.now)) c.args.forms.now c.loop-form.form-index _ c.loop-form-test.true _ _ _ c.loop-form.invariant.written
    (subst (λ (bs : List ℕ). AppendsFront (g.K.Sink.held c.loop-form.sink) (g.K.Sink.held c.put.new.sink) bs)
    (c.as_slice.ensures.value ∙ c.form_text-line.ensures ∙ ap (λ form. form_text (columns_of form.now)) c.form-item.is)
    c.in_default.ensures.err)

pub loop-form-preserved : goal.loop-form-preserved
loop-form-preserved g c = record {
  written = next_written (λ form. form_text (columns_of form.now)) c.args.forms.now c.loop-form.form-index _ c.loop-form-test.true
      _ _ _ c.loop-form.invariant.written
      (subst (λ (bs : List ℕ). Appends (g.K.Sink.held c.loop-form.sink) (g.K.Sink.held c.put.new.sink) bs)
      (c.as_slice.ensures.value ∙ c.form_text-line.ensures ∙ ap (λ form. form_text (columns_of form.now)) c.form-item.is) c.in-Ok.ensures.ok);
  kept = cc (c.in-Ok.ensures.cause.kept);
}
