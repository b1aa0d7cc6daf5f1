use Rattle.std.proofs.Common.{◌+◌, ◌++◌, ◌∷◌, [], take, ap, ap₂, sym, ◌∙◌, append_assoc, arith}
use Rattle.class_store.proofs.Closing.{take_next}
use Rattle.class_store.proofs.rising.copy_keys.Goals as goal

pub loop-i-preserved : goal.loop-i-preserved
loop-i-preserved c =
    c.in_ok-push.ensures.items ∙ (ap₂ (λ l k. l ++ k ∷ []) c.loop-i.invariant c.in_ok-copy.ensures.same
    ∙ (append_assoc c.args.keys.now.items (take c.loop-i.i c.args.set.now.keys) (c.in-Some.key.now ∷ [])
    ∙ ap (λ l. c.args.keys.now.items ++ l) (sym (take_next c.args.set.now.keys c.loop-i.i (c.loop-i.i + 1) c.in-Some.key.now c.in-Some.ensures (omega arith)))))
