use Rattle.std.proofs.Common.{ℕ, ◌+◌, sym, ◌∙◌, subst}
use Rattle.base_iso.proofs.Images.{IsImageBelow, one_in, one_out}
use Rattle.base_iso.proofs.carried.image.Goals as goal
use Rattle.base_iso.proofs.carried.image.Goals.{then-in_set, else-in_set}

pub loop-i-preserved : goal.loop-i-preserved
loop-i-preserved c =
    let before : IsImageBelow c.args.labels.now c.loop-i.i c.args.set c.loop-i.image =
    record { labelled = c.loop-i.invariant.labelled; others = c.loop-i.invariant.others } in
    let more : IsImageBelow c.args.labels.now (c.loop-i.i + 1) c.args.set c.if-in_set.image = elim c.if-in_set.branch [
      | then-in_set w ↦ subst (λ (x : ℕ). IsImageBelow c.args.labels.now (c.loop-i.i + 1) c.args.set x) (sym w.image-is)
          (one_in c.args.labels.now c.loop-i.i c.args.set c.loop-i.image c.requires c.loop-i-test.true before (sym c.in_set.ensures ∙ w.if-in_set.true))
      | else-in_set w ↦ subst (λ (x : ℕ). IsImageBelow c.args.labels.now (c.loop-i.i + 1) c.args.set x) (sym w.image-is)
          (one_out c.args.labels.now c.loop-i.i c.args.set c.loop-i.image c.requires c.loop-i-test.true before (sym c.in_set.ensures ∙ w.if-in_set.false))
    ] in
    record { labelled = more.labelled; others = more.others }
