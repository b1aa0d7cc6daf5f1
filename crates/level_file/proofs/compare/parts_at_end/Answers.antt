use Rattle.std.proofs.Common.{ℕ, List, ◌∙◌, subst}
use Rattle.level_file.specs.declared.compare.Unmet.TheVariants.{Parts}
use Rattle.level_file.specs.Compared.{IsUnmet}
use Rattle.level_file.proofs.Meeting.{parts_from_end}
use Rattle.level_file.proofs.compare.parts_at_end.Goals as goal

pub returns-in-Err-Parts : goal.returns-in-Err-Parts
returns-in-Err-Parts c =
    let left = c.in-Err-Parts.left in
    let unmet = rw c.in-Err-Parts.field-0-is at c.in-Err-Parts.ensures.unmet in
    parts_from_end c.args.rest.now left
    (subst (λ (piece : List ℕ). IsUnmet c.args.rest.now piece (Parts left)) (c.as_slice.ensures.value ∙ c.end_text.ensures) unmet)
