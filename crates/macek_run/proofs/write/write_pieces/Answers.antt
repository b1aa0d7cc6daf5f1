use Rattle.std.proofs.Common.{ℕ, List, map, subst}
use Rattle.std.specs.List.{concat}
use Rattle.std.proofs.lemmas.Result.{on_err_weaker}
use Rattle.outside.specs.Bytes.{AppendsFront}
use Rattle.formats.specs.Levels.{columns_of}
use Rattle.formats.specs.Listing.{form_text}
use Rattle.macek_run.proofs.Writes.{first_failed, then_failed, two_before}
use Rattle.macek_run.proofs.write.write_pieces.Goals as goal

pub returns-in_default-clause-err : goal.returns-in_default-clause-err
returns-in_default-clause-err g c =
    let lines : List ℕ = concat (map (λ form. form_text (columns_of form.now)) c.args.forms.now) in
    subst (λ (bs : List ℕ). AppendsFront (g.K.Sink.held c.args.sink.now) (g.K.Sink.held c.write_block.new.sink) bs)
    (two_before c.args.front.now c.args.line.now lines) (first_failed _ _ _ lines c.in_default.ensures.err)

pub returns-clause-err : goal.returns-clause-err
returns-clause-err g c =
    let lines : List ℕ = concat (map (λ form. form_text (columns_of form.now)) c.args.forms.now) in
    on_err_weaker c.write_forms.result (λ failed.
    subst (λ (bs : List ℕ). AppendsFront (g.K.Sink.held c.args.sink.now) (g.K.Sink.held c.write_forms.new.sink) bs)
    (two_before c.args.front.now c.args.line.now lines)
    (then_failed _ (g.K.Sink.held c.write_block.new.sink) _ _ lines c.in-Ok.ensures.ok failed)) c.write_forms.ensures.err
