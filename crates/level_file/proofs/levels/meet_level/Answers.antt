use Rattle.std.proofs.Common.{◌≡◌, ◌∙◌, ◌++◌, ℕ, List, length, ap}
use Rattle.std.proofs.lemmas.Result.{IfErr-weaker}
use Rattle.formats.specs.Listing.{level_text}
use Rattle.level_file.specs.Grown.{form_lines}
use Rattle.level_file.proofs.Meeting.{unmet_after}
use Rattle.level_file.proofs.levels.meet_level.Goals as goal

pub returns-in-Ok-clause-unmet : goal.returns-in-Ok-clause-unmet
returns-in-Ok-clause-unmet c =
    let level = c.args.level.now in
    let count = c.len-count.ensures in
    let line : c.as_slice.result.now ≡ level_text c.args.size (length level.forms) (length level.forms) level.tried =
    c.as_slice.ensures.value ∙ c.level_text-line.ensures ∙ (λ i. level_text c.args.size (count i) (count i) level.tried) in
    IfErr-weaker c.meet_forms.result _ _ (λ why unmet.
    unmet_after c.args.rest.now (level_text c.args.size (length level.forms) (length level.forms) level.tried) c.in-Ok.left.now (form_lines level.forms) why
    (c.in-Ok.ensures.whole ∙ ap (λ (t : List ℕ). t ++ c.in-Ok.left.now) line) unmet) c.meet_forms.ensures.unmet
