use Rattle.std.proofs.Common.{◌≡◌, ◌≤◌, ◌+◌, ◌++◌, ◌∷◌, [], ℕ, List, length, Option, sym, ◌∙◌, ap, subst, arith}
use Rattle.std.proofs.lemmas.Bool.{false≢true}
use Rattle.canonical_form.specs.Search.{AreIndependentColumns}
use Rattle.canonical_form.proofs.SearchSteps.{IsGoneThroughBelow, one_more_gone_through, dependent_passed}
use Rattle.canonical_form.proofs.search.+try_bases.Goals as goal
use Rattle.canonical_form.proofs.search.+try_bases.Goals.{then-are_independent, else-are_independent}

pub loop-j-preserved : goal.loop-j-preserved
loop-j-preserved t c = elim c.if-are_independent.branch [
  | then-are_independent w ↦
      subst (λ (x : Option (List (List ℕ))). IsGoneThroughBelow c.args.rep.now c.args.columns.items (c.loop-j.j + 1) c.args.best.now x) (sym w.best-is)
      (one_more_gone_through c.args.rep.now c.size-j-end.ensures.is_rep c.args.columns.items c.followed_by-longer.result.items
      c.loop-j.j c.args.best.now c.loop-j.best w.try_bases.new.best
      c.loop-j.invariant (c.followed_by-longer.ensures ∙ ap (λ (w : List ℕ). w ++ c.loop-j.j ∷ []) c.as_slice.ensures.value)
      w.try_bases.ensures.sound w.try_bases.ensures.lower w.try_bases.ensures.covers)
  | else-are_independent w ↦
      subst (λ (x : Option (List (List ℕ))). IsGoneThroughBelow c.args.rep.now c.args.columns.items (c.loop-j.j + 1) c.args.best.now x) (sym w.best-is)
      (dependent_passed c.args.rep.now c.size-j-end.ensures.is_rep c.args.columns.items c.followed_by-longer.result.items c.loop-j.j
      c.args.best.now c.loop-j.best
      c.loop-j.invariant (c.followed_by-longer.ensures ∙ ap (λ (w : List ℕ). w ++ c.loop-j.j ∷ []) c.as_slice.ensures.value)
      (let few : length c.args.columns.items ≤ c.args.rep.now.rank = c.requires.few in
      let v : c.len.result ≡ length c.args.columns.items = c.len.ensures.value in
      let r : c.rank.result ≡ c.args.rep.now.rank = c.rank.ensures in omega arith)
      (λ i. false≢true (sym w.if-are_independent.false
      ∙ c.are_independent.ensures.1 (subst (AreIndependentColumns c.args.rep.now) (sym c.as_slice-in-loop-j.ensures.value) i))))
]
