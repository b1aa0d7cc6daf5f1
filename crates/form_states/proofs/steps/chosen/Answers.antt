use Rattle.std.proofs.Common.{◌≡◌, ◌≤◌, ◌<◌, ◌∷◌, [], ◌∙◌, ℕ, List, slice_index, ap, subst, sym, arith}
use Rattle.std.proofs.lemmas.List.{get_or-replicate}
use Rattle.form_states.specs.Codes.{code}
use Rattle.form_states.proofs.Marks.{marked_most}
use Rattle.form_states.proofs.Moves.{chooses}
use Rattle.form_states.proofs.steps.chosen.Goals as goal

abbrev one_row : List ℕ
one_row = 1 ∷ (1 ∷ (1 ∷ []))

abbrev one_column : List (List ℕ)
one_column = one_row ∷ (one_row ∷ (one_row ∷ (one_row ∷ (one_row ∷ (one_row ∷ [])))))

one_code : (f i : ℕ) → f < 3 → i < 6 → code one_column f i ≡ 1
one_code f i n m = ap (λ (row : List ℕ). slice_index row f) (get_or-replicate 6 i one_row [] m) ∙ get_or-replicate 3 f 1 0 n

pub returns-clause-codes : goal.returns-clause-codes
returns-clause-codes c = record {
  columns_are = c.requires.columns;
  p_below = (let l : c.args.row.now.p ≤ c.args.k = c.requires.chosen.p_most in omega (arith, c.requires.row, c.requires.shape.rank_is));
  minus_are = c.requires.chosen.minus_codes;
  layer_are = c.requires.layer;
  scalars_are = λ i l f m. subst (λ v. v < slice_index c.args.shape.now.fields f) (sym (one_code f i m l)) (c.requires.shape.limits.scalars f m);
  groups_are = c.requires.groups;
}

pub returns-clause-few : goal.returns-clause-few
returns-clause-few c = omega (arith, marked_most c.args.row.now.class)

pub returns-clause-chooses : goal.returns-clause-chooses
returns-clause-chooses c =
    chooses c.args.rep.now c.args.shape.now.fields c.args.shape.now.count c.args.shape.now.rank c.args.shape.now.size c.requires.shape c.args.k
    c.requires.row c.args.columns.now c.args.frame.now.there
    c.args.frame.now.groups c.args.b c.requires.columns c.requires.element c.args.row.now.p c.args.row.now.minus c.args.row.now.class c.args.row.now.rest
    c.requires.chosen c.args.layer.now c.requires.layer c.requires.pivoted
    one_column one_code
