-- The lines of the forms of a level, one by one.
use Rattle.std.proofs.Common.{◌≡◌, ◌∙◌, ℕ, ◌+◌, List, [], ◌∷◌, ◌++◌, take, drop, Some, refl, sym, ap, append_assoc, take-append-drop}
use Rattle.std.specs.Prelude.{slice_get}
use Rattle.std.proofs.lemmas.List.{append-nil, take_more, drop_more}
use Rattle.std.proofs.lemmas.Option.{slice_get_within, get_or_from_slice_get}
use Rattle.matroid_theory.specs.Rep.{Rep}
use Rattle.level_file.specs.Grown.{form_line, form_lines}

lines-append : (xs ys : List Rep) → form_lines (xs ++ ys) ≡ form_lines xs ++ form_lines ys
lines-append [] ys = refl
lines-append (x ∷ xs) ys = ap (λ (t : List ℕ). form_line x ++ t) (lines-append xs ys) ∙ sym (append_assoc (form_line x) (form_lines xs) (form_lines ys))

module _ (forms : List Rep) (i : ℕ) (form : Rep) (at : slice_get forms i ≡ Some form) where
  one_more : take (i + 1) forms ≡ take i forms ++ form ∷ []
  one_more = take_more forms i form (slice_get_within forms i form at) ∙ ap (λ (M : Rep). take i forms ++ M ∷ []) (get_or_from_slice_get forms i form form at)

  from_here : drop i forms ≡ form ∷ drop (i + 1) forms
  from_here = drop_more forms i form (slice_get_within forms i form at) ∙ ap (λ (M : Rep). M ∷ drop (i + 1) forms) (get_or_from_slice_get forms i form form at)

  -- the lines of one more form
  pub lines_more : form_lines (take (i + 1) forms) ≡ form_lines (take i forms) ++ form_line form
  lines_more = ap form_lines one_more ∙ lines-append (take i forms) (form ∷ [])
      ∙ ap (λ (t : List ℕ). form_lines (take i forms) ++ t) (append-nil (form_line form))

  -- all lines, with that of this form
  pub lines_split : form_lines forms ≡ form_lines (take i forms) ++ (form_line form ++ form_lines (drop (i + 1) forms))
  lines_split = ap form_lines (sym (take-append-drop i forms)) ∙ lines-append (take i forms) (drop i forms)
      ∙ ap (λ (fs : List Rep). form_lines (take i forms) ++ form_lines fs) from_here
