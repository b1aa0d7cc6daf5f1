use Rattle.std.proofs.Common.{◌≡◌, ◌+◌, ◌≤◌, ℕ, List, sym, ◌∙◌, subst, arith}
use Rattle.std.proofs.lemmas.Bool.{false≢true}
use Rattle.matroid_theory.specs.Rep.{size}
use Rattle.canonical_form.proofs.Others.{AreOthersBelow, more_others, same_others, all_others, contains_by_any}
use Rattle.canonical_form.proofs.coordinates.other_coordinates.Goals as goal
use Rattle.canonical_form.proofs.coordinates.other_coordinates.Goals.{then-not-contains, else-not-contains}

pub loop-k-preserved : goal.loop-k-preserved
loop-k-preserved c = let b = contains_by_any c.args.basis.now c.loop-k.k in
    elim c.if-not-contains.branch [
      | then-not-contains w ↦
          subst (λ (v : List (List ℕ)). AreOthersBelow c.args.rep.now c.args.basis.now (c.loop-k.k + 1) v) (sym w.list-is)
          (more_others c.args.rep.now c.args.basis.now c.loop-k.k c.loop-k.list c.loop-k.invariant w.push.new.self w.coordinates.result.items w.push.ensures
          (λ m. false≢true (sym w.if-not-contains.true ∙ c.contains.ensures.value ∙ b.1 m)) w.coordinates.ensures)
      | else-not-contains w ↦
          subst (λ (v : List (List ℕ)). AreOthersBelow c.args.rep.now c.args.basis.now (c.loop-k.k + 1) v) (sym w.list-is)
          (same_others c.args.rep.now c.args.basis.now c.loop-k.k c.loop-k.list c.loop-k.invariant
          (b.0 (sym c.contains.ensures.value ∙ w.if-not-contains.false)))
    ]

pub returns : goal.returns
returns c =
    let e : c.size-k-end.result ≡ size c.args.rep.now = c.size-k-end.ensures.value in
    let g : c.size-k-end.result ≤ c.loop-k.k = c.loop-k-test.false in
    let m : c.loop-k.k ≤ c.size-k-end.result = c.loop-k.auto.k-end in
    all_others c.args.rep.now c.args.basis.now c.loop-k.k c.loop-k.list c.loop-k.invariant (omega arith)
