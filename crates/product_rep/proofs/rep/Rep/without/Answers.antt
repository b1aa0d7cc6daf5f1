use Rattle.std.proofs.Common.{◌≡◌, ◌<◌, ◌+◌, ◌-◌, ◌*◌, ℕ, [], ◌++◌, length, take, drop, List, sym, ◌∙◌, ap, refl, arith}
use Rattle.std.proofs.lemmas.List.{length-take-le, take_rest}
use Rattle.product_rep.specs.declared.rep.Rep.TheInside.{Inside}
use Rattle.product_rep.proofs.PiecesLemmas.{column_below, column_within}
use Rattle.product_rep.proofs.RemoveLemmas.{without, remove_view, remove_keeps}
use Rattle.product_rep.proofs.rep.Rep.without.Goals as goal

-- the codes that are left, as the function reads them
left : (a : Inside) (j w : ℕ) (codes none before after : List ℕ) → w ≡ a.rank * length a.factors → codes ≡ a.codes.items →
    none ≡ [] → before ≡ none ++ take (j * w) codes → after ≡ before ++ take (length codes - (j + 1) * w) (drop ((j + 1) * w) codes) →
    after ≡ take (j * (a.rank * length a.factors)) a.codes.items ++ drop ((j + 1) * (a.rank * length a.factors)) a.codes.items
left a j w codes none before after e d n b f = f
    ∙ (λ i. (b ∙ (λ i. n i ++ take (j * w) codes)) i ++ take_rest codes ((j + 1) * w) i)
    ∙ (λ i. take (j * e i) (d i) ++ drop ((j + 1) * e i) (d i))

-- one column less
less : (j n : ℕ) → j < n → n - 1 + 1 ≡ n
less j n l = omega arith

pub slice_bounds-push_codes-end : goal.slice_bounds-push_codes-end
slice_bounds-push_codes-end c =
    let b = column_within c.self.inside _ c.args.j _ _ c.self.view_is c.self.invariant
    (λ i. c.from.ensures i * c.count.ensures.count i) c.as_slice-all.ensures.value c.requires in
    sym (length-take-le (c.args.j * (c.from.result * c.count.result)) c.as_slice-all.result.now (omega arith))

pub slice_bounds-push_codes-count : goal.slice_bounds-push_codes-count
slice_bounds-push_codes-count c =
    let b = column_within c.self.inside _ c.args.j _ _ c.self.view_is c.self.invariant
    (λ i. c.from.ensures i * c.count.ensures.count i) c.as_slice-all.ensures.value c.requires in
    omega arith

pub slice_bounds-push_codes-start : goal.slice_bounds-push_codes-start
slice_bounds-push_codes-start c =
    let b = column_within c.self.inside _ c.args.j _ _ c.self.view_is c.self.invariant
    (λ i. c.from.ensures i * c.count.ensures.count i) c.as_slice-all.ensures.value c.requires in
    omega arith

pub invariant_of-result : goal.invariant_of-result
invariant_of-result c =
    let b = column_below c.self.inside _ c.args.j c.self.view_is c.requires in
    remove_keeps c.self.inside _ c.args.j c.self.invariant b c.copy.ensures refl (less c.args.j c.self.inside.size b)
    (left c.self.inside c.args.j _ _ _ _ _ (λ i. c.from.ensures i * c.count.ensures.count i) c.as_slice-all.ensures.value
    c.new-codes.ensures c.push_codes.ensures c.push_codes-2.ensures)

pub returns : goal.returns
returns c =
    let b = column_below c.self.inside _ c.args.j c.self.view_is c.requires in
    remove_view c.self.inside _ c.args.j c.self.invariant b c.copy.ensures refl (less c.args.j c.self.inside.size b)
    (left c.self.inside c.args.j _ _ _ _ _ (λ i. c.from.ensures i * c.count.ensures.count i) c.as_slice-all.ensures.value
    c.new-codes.ensures c.push_codes.ensures c.push_codes-2.ensures)
    ∙ ap (λ M. without M c.args.j) c.self.view_is
