use Rattle.std.proofs.Common.{ℕ, sym, ◌∙◌, subst}
use Rattle.std.proofs.lemmas.Bool.{iff_false}
use Rattle.base_iso.specs.Started.{AreLabels}
use Rattle.base_iso.proofs.Cuts.{carried_named, count_named, images_are_bases}
use Rattle.base_iso.proofs.Kept.{last_counts_kept}
use Rattle.base_iso.proofs.Within.{count_kept}
use Rattle.base_iso.proofs.search.may_begin.Goals as goal
use Rattle.base_iso.proofs.search.may_begin.Goals.{then-keeps_last_counts, else-keeps_last_counts}

pub keeps_last_counts-requires-clause-labels : goal.keeps_last_counts-requires-clause-labels
keeps_last_counts-requires-clause-labels c = subst (λ (n : ℕ). AreLabels n c.args.labels.now) (sym c.requires.of_a.elements) c.requires.labels

pub returns-then-keeps_count-clause-bases : goal.returns-then-keeps_count-clause-bases
returns-then-keeps_count-clause-bases c t =
    (carried_named c.bases-then-keeps_count.result.now c.bases-then-keeps_count-2.result.now c.args.a.now.bases c.args.b.now.bases
    c.args.labels.now c.carries_last.result
    c.bases-then-keeps_count.ensures c.bases-then-keeps_count-2.ensures c.carries_last.ensures).0 t

pub returns-then-keeps_count-clause-none : goal.returns-then-keeps_count-clause-none
returns-then-keeps_count-clause-none c f p u s i =
    iff_false (carried_named c.bases-then-keeps_count.result.now c.bases-then-keeps_count-2.result.now c.args.a.now.bases
    c.args.b.now.bases c.args.labels.now c.carries_last.result
    c.bases-then-keeps_count.ensures c.bases-then-keeps_count-2.ensures c.carries_last.ensures) f
    (λ X Y l. images_are_bases c.args.a.now c.args.b.now p u i c.args.labels.now c.requires.labels s X Y l.1)

pub returns-else-keeps_count-clause-none : goal.returns-else-keeps_count-clause-none
returns-else-keeps_count-clause-none c _ p u s i = elim c.if-keeps_last_counts.branch [
  | then-keeps_last_counts w ↦
      iff_false (count_named w.bases.result.now w.bases-then-keeps_last_counts.result.now c.args.a.now.bases c.args.b.now.bases
      c.args.labels.now w.keeps_count.result
      w.bases.ensures w.bases-then-keeps_last_counts.ensures w.keeps_count.ensures) (sym w.value-is ∙ c.if-keeps_count.false)
      (count_kept c.args.a.now c.args.b.now p u i c.laws.ensures c.laws-2.ensures c.args.labels.now c.requires.labels s)
  | else-keeps_last_counts w ↦
      iff_false c.keeps_last_counts.ensures w.if-keeps_last_counts.false
      (last_counts_kept c.args.a.now c.args.b.now p u i c.laws.ensures c.laws-2.ensures c.args.of_a.now.items
      c.args.of_b.now.items c.requires.of_a c.requires.of_b
      c.args.labels.now c.requires.some (let l = c.requires.labels in l.few) s)
]
