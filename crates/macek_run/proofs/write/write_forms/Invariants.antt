use Rattle.std.proofs.Common.{◌≡◌, drop}
use Rattle.formats.specs.Levels.{columns_of}
use Rattle.formats.specs.Listing.{form_text}
use Rattle.outside.proofs.Known.{IsPartWritten}
use Rattle.macek_run.proofs.Writes.{bytes_of}
use Rattle.macek_run.proofs.write.write_forms.Given as goal

-- what was written so far, with the lines that are left, is all of the lines
abbrev pub invariant-loop-form : goal.invariant-loop-form
invariant-loop-form g l = record {
  written : IsPartWritten (g.K.Sink.held l.initial.sink) (g.K.Sink.held l.sink)
      (bytes_of (λ form. form_text (columns_of form.now)) l.forms)
      (bytes_of (λ form. form_text (columns_of form.now)) (drop l.form-index l.forms));
  kept : g.K.Sink.faults l.sink ≡ g.K.Sink.faults l.initial.sink;
}
