use Rattle.std.proofs.Common.{◌≡◌, ◌<◌, ℕ, List, [], ◌∷◌, ◌++◌, length, take, append_assoc, sym, ◌∙◌, ap, subst}
use Rattle.std.specs.List.{slice_index_or}
use Rattle.std.proofs.lemmas.List.{take_more}
use Rattle.matroid_theory.specs.Level.{followed_by}
use Rattle.matroid_theory.specs.Rep.{Rep, Shape, IsProductColumn}
use Rattle.canonical_form.proofs.Picks.{list_item, lists_length}
use Rattle.canonical_form.proofs.StandardLemmas.{later_column}
use Rattle.canonical_form.proofs.form.standard.Goals as goal

pub push_column-requires-clause-column : goal.push_column-requires-clause-column
push_column-requires-clause-column c =
    let n : length c.as_slice-column-items.result.now ≡ length c.args.columns.now =
    lists_length c.as_slice-column-items.result.now c.args.columns.now c.as_slice-column-items.ensures.columns in
    let s = c.unit-form.ensures.shape in
    subst (λ (P : Rep). IsProductColumn P.factors P.rank c.column-item.result.items) (sym c.loop-column.invariant)
    (subst (λ (fs : List ℕ). IsProductColumn fs c.unit-form.result.rank c.column-item.result.items) (sym (ap (λ (S : Shape). S.factors) s ∙ c.factors.ensures))
    (subst (λ (r : ℕ). IsProductColumn c.args.rep.now.factors r c.column-item.result.items) (sym (ap (λ (S : Shape). S.rank) s ∙ c.rank.ensures))
    (subst (IsProductColumn c.args.rep.now.factors c.args.rep.now.rank)
    (list_item c.as_slice-column-items.result.now c.args.columns.now c.loop-column.column-index c.column-item.result
    c.as_slice-column-items.ensures.columns c.loop-column-test.true c.column-item.is)
    (later_column c.args.rep.now c.args.columns.now c.requires c.loop-column.column-index
    (subst (λ (x : ℕ). c.loop-column.column-index < x) n c.loop-column-test.true)))))

pub loop-column-preserved : goal.loop-column-preserved
loop-column-preserved c =
    let n : length c.as_slice-column-items.result.now ≡ length c.args.columns.now =
    lists_length c.as_slice-column-items.result.now c.args.columns.now c.as_slice-column-items.ensures.columns in
    let e : slice_index_or c.args.columns.now c.loop-column.column-index [] ≡ c.column-item.result.items =
    list_item c.as_slice-column-items.result.now c.args.columns.now c.loop-column.column-index c.column-item.result
    c.as_slice-column-items.ensures.columns c.loop-column-test.true c.column-item.is in
    c.push_column.ensures
    ∙ ap (λ (P : Rep). followed_by P c.column-item.result.items) c.loop-column.invariant
    ∙ ap (λ (w : List (List ℕ)). record c.unit-form.result { columns = w })
    (append_assoc c.unit-form.result.columns (take c.loop-column.column-index c.args.columns.now) (c.column-item.result.items ∷ [])
    ∙ ap (λ (w : List (List ℕ)). c.unit-form.result.columns ++ w)
    (ap (λ (v : List ℕ). take c.loop-column.column-index c.args.columns.now ++ v ∷ []) (sym e)
    ∙ sym (take_more c.args.columns.now c.loop-column.column-index [] (subst (λ (x : ℕ). c.loop-column.column-index < x) n c.loop-column-test.true))))
