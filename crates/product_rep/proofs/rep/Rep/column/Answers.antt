use Rattle.std.proofs.Common.{◌≡◌, ◌≤◌, ◌+◌, ◌*◌, ℕ, [], ◌<◌, ◌-◌, length, List, sym, ◌∙◌, ap, arith, take, drop, Some, length-drop}
use Rattle.std.specs.List.{slice_index_or, slice_get}
use Rattle.std.proofs.lemmas.List.{length-take-le, take_rest}
use Rattle.std.proofs.lemmas.Option.{slice_get-get_or}
use Rattle.matroid_theory.specs.Rep.{Rep, size}
use Rattle.product_rep.specs.declared.rep.Rep.TheInside.{Inside}
use Rattle.product_rep.specs.Pieces.{matrices}
use Rattle.product_rep.proofs.PiecesLemmas.{column_below, column_within, piece-at}
use Rattle.product_rep.proofs.rep.Rep.column.Goals as goal

pub slice_bounds-rest-start : goal.slice_bounds-rest-start
slice_bounds-rest-start c =
    let b = column_within c.self.inside _ c.args.j _ _ c.self.view_is c.self.invariant
    (λ i. c.from.ensures i * c.count.ensures.count i) c.as_slice.ensures.value c.requires in
    omega arith

pub slice_bounds-rest-count : goal.slice_bounds-rest-count
slice_bounds-rest-count c =
    let b = column_within c.self.inside _ c.args.j _ _ c.self.view_is c.self.invariant
    (λ i. c.from.ensures i * c.count.ensures.count i) c.as_slice.ensures.value c.requires in
    omega arith

-- a part of what is left of the codes
part : (codes : List ℕ) (s w : ℕ) → s + w ≤ length codes → w ≡ length (take w (take (length codes - s) (drop s codes)))
part codes s w l =
    sym (ap (λ (v : List ℕ). length (take w v)) (take_rest codes s) ∙ length-take-le w (drop s codes) (omega (arith, length-drop s codes)))

pub slice_bounds-list_of-end : goal.slice_bounds-list_of-end
slice_bounds-list_of-end c =
    part c.as_slice.result.now (c.args.j * (c.from.result * c.count.result)) (c.from.result * c.count.result)
    (column_within c.self.inside _ c.args.j _ _ c.self.view_is c.self.invariant
    (λ i. c.from.ensures i * c.count.ensures.count i) c.as_slice.ensures.value c.requires)

-- the column, as the function reads it
read : (a : Inside) (M : Rep) (j w : ℕ) (codes column : List ℕ) → matrices a ≡ M → w ≡ a.rank * length a.factors →
    codes ≡ a.codes.items → j < size M → column ≡ take w (drop (j * w) codes) → slice_get M.columns j ≡ Some column
read a M j w codes column v e d l i =
    slice_get-get_or M.columns j [] l
    ∙ ap Some (ap (λ M. slice_index_or M.columns j []) (sym v)
    ∙ piece-at (a.rank * length a.factors) a.size a.codes.items j (column_below a M j v l)
    ∙ sym (i ∙ (λ t. take (e t) (drop (j * e t) (d t)))))

pub returns : goal.returns
returns c = read c.self.inside c.args.self.now c.args.j
    (c.from.result * c.count.result) c.as_slice.result.now c.list_of.result.items c.self.view_is
    (λ i. c.from.ensures i * c.count.ensures.count i) c.as_slice.ensures.value c.requires
    (c.list_of.ensures ∙ ap (take (c.from.result * c.count.result)) (take_rest c.as_slice.result.now (c.args.j * (c.from.result * c.count.result))))
