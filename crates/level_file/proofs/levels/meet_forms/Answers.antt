use Rattle.std.proofs.Common.{◌≡◌, ◌∙◌, ◌+◌, ◌++◌, ℕ, List, Some, take, drop, sym, ap, subst, append_assoc}
use Rattle.std.specs.Prelude.{slice_get}
use Rattle.std.specs.Option.{option_copied}
use Rattle.level_file.specs.Compared.{IsUnmet}
use Rattle.level_file.specs.Grown.{form_line, form_lines}
use Rattle.level_file.proofs.Meeting.{unmet_more, unmet_after}
use Rattle.level_file.proofs.FormLines.{lines_more, lines_split}
use Rattle.level_file.proofs.levels.meet_forms.Goals as goal

pub returns-in-Err-clause-unmet : goal.returns-in-Err-clause-unmet
returns-in-Err-clause-unmet c =
    let forms = c.args.forms.now in
    let i = c.loop-i.i in
    let form = c.in-Some.form.now in
    let why = c.in-Err.why in
    let later = form_lines (drop (i + 1) forms) in
    let at : slice_get forms i ≡ Some form = sym c.get.ensures ∙ ap option_copied c.in-Some.is in
    let line : c.as_slice.result.now ≡ form_line form = c.as_slice.ensures.value ∙ c.form_text.ensures in
    let met = subst (λ (piece : List ℕ). IsUnmet c.loop-i.left.now piece why) line c.in-Err.ensures.unmet in
    subst (λ (bytes : List ℕ). IsUnmet c.args.rest.now bytes why) (sym (lines_split forms i form at))
    (unmet_after c.args.rest.now (form_lines (take i forms)) c.loop-i.left.now (form_line form ++ later) why c.loop-i.invariant
    (unmet_more c.loop-i.left.now (form_line form) later why met))

pub loop-i-preserved : goal.loop-i-preserved
loop-i-preserved c =
    let forms = c.args.forms.now in
    let i = c.loop-i.i in
    let form = c.in-Some.form.now in
    let after = c.in-Ok.after.now in
    let at : slice_get forms i ≡ Some form = sym c.get.ensures ∙ ap option_copied c.in-Some.is in
    let line : c.as_slice.result.now ≡ form_line form = c.as_slice.ensures.value ∙ c.form_text.ensures in
    c.loop-i.invariant
    ∙ ap (λ (t : List ℕ). form_lines (take i forms) ++ t) (c.in-Ok.ensures.whole ∙ ap (λ (piece : List ℕ). piece ++ after) line)
    ∙ sym (append_assoc (form_lines (take i forms)) (form_line form) after)
    ∙ ap (λ (t : List ℕ). t ++ after) (sym (lines_more forms i form at))
