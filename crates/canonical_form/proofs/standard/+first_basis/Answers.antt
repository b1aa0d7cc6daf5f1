use Rattle.std.proofs.Common.{◌≡◌, ◌≤◌, ◌++◌, ◌∷◌, [], ℕ, List, length, None, refl, sym, ◌∙◌, ap, subst, arith}
use Rattle.std.proofs.lemmas.Bool.{false≢true}
use Rattle.canonical_form.specs.Search.{AreIndependentColumns}
use Rattle.canonical_form.proofs.SearchSteps.{one_more_gone_through, dependent_passed}
use Rattle.canonical_form.proofs.standard.+first_basis.Goals as goal
use Rattle.canonical_form.proofs.standard.+first_basis.Goals.{then-are_independent+in_default, else-are_independent}

pub loop-j-preserved : goal.loop-j-preserved
loop-j-preserved t c =
    let longer_is : c.followed_by-longer.result.items ≡ c.args.columns.items ++ c.loop-j.j ∷ [] =
    c.followed_by-longer.ensures ∙ ap (λ (w : List ℕ). w ++ c.loop-j.j ∷ []) c.as_slice.ensures.value in
    elim c.if-are_independent.branch [
      | then-are_independent+in_default w ↦
          one_more_gone_through c.args.rep.now c.size-j-end.ensures.is_rep c.args.columns.items c.followed_by-longer.result.items
          c.loop-j.j None None None c.loop-j.invariant longer_is c.loop-j.invariant.found.sound (λ columns h. h)
          (w.in_default.ensures.none refl)
      | else-are_independent w ↦
          dependent_passed c.args.rep.now c.size-j-end.ensures.is_rep c.args.columns.items c.followed_by-longer.result.items c.loop-j.j
          None None c.loop-j.invariant longer_is
          (let few : length c.args.columns.items ≤ c.args.rep.now.rank = c.requires.few in
          let v : c.len.result ≡ length c.args.columns.items = c.len.ensures.value in
          let r : c.rank.result ≡ c.args.rep.now.rank = c.rank.ensures in omega arith)
          (λ i. false≢true (sym w.if-are_independent.false
          ∙ c.are_independent.ensures.1 (subst (AreIndependentColumns c.args.rep.now) (sym c.as_slice-in-loop-j.ensures.value) i)))
    ]
