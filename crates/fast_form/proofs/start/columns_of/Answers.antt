use Rattle.std.proofs.Common.{◌≡◌, ◌<◌, ◌∷◌, [], ℕ, refl, List, slice_index, slice_index_or, sym, ◌∙◌, ap, subst, arith}
use Rattle.std.proofs.lemmas.List.{get_or-replicate}
use Rattle.form_states.specs.Codes.{code}
use Rattle.fast_form.proofs.start.columns_of.Goals as goal

abbrev zero_row : List ℕ
zero_row = 0 ∷ (0 ∷ (0 ∷ []))

abbrev zero_column : List (List ℕ)
zero_column = zero_row ∷ (zero_row ∷ (zero_row ∷ (zero_row ∷ (zero_row ∷ (zero_row ∷ [])))))

abbrev four : List (List (List ℕ)) → List (List (List ℕ))
four rest = zero_column ∷ (zero_column ∷ (zero_column ∷ (zero_column ∷ rest)))

abbrev zero_columns : List (List (List ℕ))
zero_columns = four (four (four (four [])))

zero_code : (e i f : ℕ) → e < 16 → i < 6 → f < 3 → code (slice_index_or zero_columns e []) f i ≡ 0
zero_code e i f l m n =
    ap (λ (column : List (List ℕ)). slice_index (slice_index_or column i []) f) (get_or-replicate 16 e zero_column [] l) ∙ ap
    (λ (row : List ℕ). slice_index row f) (get_or-replicate 6 i zero_row [] m) ∙ get_or-replicate 3 f 0 0 n

pub loop-e-init : goal.loop-e-init
loop-e-init c = record {
  size = refl;
  codes = λ e l i m f n. subst (λ v. v < slice_index c.args.shape.now.fields f) (sym (zero_code e i f l m n))
      (let q : 1 < slice_index c.args.shape.now.fields f = c.requires.limits.scalars f n in omega arith);
  rows = λ j l. absurd (omega arith);
}
