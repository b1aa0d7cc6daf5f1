use mathlib.Core.Bool.{false≢true}
use Rattle.std.proofs.Common.{◌≡◌, ◌∙◌, ℕ, List, drop, sym, ap, subst}
use Rattle.std.proofs.lemmas.Bool.Decides.{Decides-eqb}
use Rattle.std.proofs.lemmas.Slice.Eq.{slice_eq-Decides}
use Rattle.formats.specs.Request.{StandsFor}
use Rattle.formats.specs.Refusal.{HasRefusal}
use Rattle.formats.specs.Listing.{text_of_statements, head_text}
use Rattle.formats.proofs.Unique.{not_both}
use Rattle.resume_formats.specs.Cut.{ListsAllForms}
use Rattle.resume_formats.proofs.HeadLemmas.{begun, head_ends}
use Rattle.resume_formats.proofs.WholeHeads.{lines_stand, request_is}
use Rattle.level_file.proofs.head.request_of_head.Goals as goal
use Rattle.level_file.proofs.head.request_of_head.Goals.{else-is_head-via-then-is_head+else-lists_all_forms, else-is_head-via-else-is_head}

pub returns-then-not-has_last_line : goal.returns-then-not-has_last_line
returns-then-not-has_last_line c = λ q h.
    false≢true (sym c.if-not-has_last_line.true ∙ c.has_last_line.ensures.others (text_of_statements (begun q)) (h.is ∙ head_ends q h.all_forms))

pub returns-in_default : goal.returns-in_default
returns-in_default c = λ q h.
    let head = c.args.head.now in
    let why = c.in_default.field-0 in
    not_both (drop 16 head) q why (lines_stand q head h) (subst (λ (t : List ℕ). HasRefusal t why) c.split_at.ensures.back c.in_default.ensures.err)

pub returns : goal.returns
returns c = λ q h.
    let head = c.args.head.now in
    let request = c.in-Ok.request in
    let same : request ≡ q = request_is q request head h (subst (λ (t : List ℕ). StandsFor t request) c.split_at.ensures.back c.in-Ok.ensures.ok) in
    elim c.else-is_head.branch [
      | else-is_head-via-then-is_head+else-lists_all_forms w ↦
          false≢true (sym w.if-lists_all_forms.false ∙ w.lists_all_forms.ensures.1 (subst ListsAllForms (sym same) h.all_forms))
      | else-is_head-via-else-is_head w ↦ (
          let is : c.as_slice.result.now ≡ head = c.as_slice.ensures.value ∙ c.head_text.ensures ∙ ap head_text same ∙ sym h.is in
          let decides = slice_eq-Decides Decides-eqb c.as_slice.result.now head c.eq-is_head.result c.eq-is_head.ensures in
          false≢true (sym w.if-is_head.false ∙ decides.1 is))
    ]
