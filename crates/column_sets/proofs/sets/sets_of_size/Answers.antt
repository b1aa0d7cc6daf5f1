use Rattle.std.proofs.Common.{ℕ, ◌∙◌, ap, Vec}
use Rattle.column_sets.proofs.SetLemmas.{more_taken, same_taken}
use Rattle.column_sets.proofs.sets.sets_of_size.Goals as goal
use Rattle.column_sets.proofs.sets.sets_of_size.Goals.{then-takes+in_ok-push, else-takes}

pub loop-set-preserved : goal.loop-set-preserved
loop-set-preserved g c =
    elim c.if-takes.branch [
      | then-takes+in_ok-push w ↦ (let t = c.takes.ensures.yes w.if-takes.true in
          more_taken c.loop-set.set c.args.n c.args.k _ c.loop-set.sets.items c.loop-set.invariant c.if-takes.sets.items
          (ap (λ (v : Vec ℕ _). v.items) w.sets-is ∙ w.in_ok-push.ensures.items) t.0 t.1)
      | else-takes w ↦ same_taken c.loop-set.set c.args.n c.args.k _ c.loop-set.sets.items c.loop-set.invariant
          c.if-takes.sets.items (ap (λ (v : Vec ℕ _). v.items) w.sets-is) (c.takes.ensures.no w.if-takes.false)
    ]
