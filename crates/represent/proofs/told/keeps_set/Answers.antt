use Rattle.std.proofs.Common.{◌≡◌, ◌↔◌, ℕ, sym, ◌∙◌, subst, rules}
use Rattle.std.specs.List.{Contains}
use Rattle.std.specs.Int.RustNames.{count_ones}
use Rattle.matroid_theory.specs.Matrix.{size_below}
use Rattle.matroid_theory.specs.Matroid.{members}
use Rattle.column_sets.specs.Picked.{IsIndependentSet}
use Rattle.represent.specs.Sought.{matroid_of}
use Rattle.represent.proofs.ToldSets.{told_once}
use Rattle.represent.proofs.KeptSets.{told_size, agreeing}
use Rattle.represent.proofs.told.keeps_set.Goals as goal

pub returns-then-set-from : goal.returns-then-set-from
returns-then-set-from c =
    let w = c.requires.place in (
      (λ _ X t full.
          let e : c.told_set-set.result ≡ X =
          told_once c.args.target.now.rank c.args.place w.row w.past c.args.units c.args.later c.told_set-set.result X c.told_set-set.ensures t in
          let k : size_below c.args.target.now.size (members X) ≡ count_ones X =
          told_size (matroid_of c.args.target.now) c.args.place c.args.units c.args.later X w.column t in
          absurd (c.if-set-from.true ((λ i. count_ones (e i)) ∙ sym k ∙ full ∙ sym c.from.ensures))),
      (λ _. search rules),
    )

pub returns-else-set-from : goal.returns-else-set-from
returns-else-set-from c =
    let w = c.requires.place in
    let k = agreeing c.contains.result c.is_independent.result c.contains.ensures c.is_independent.ensures in (
      (λ e X t full.
          subst (λ (x : ℕ). Contains c.args.target.now.bases x ↔ IsIndependentSet c.args.matrix.now.field c.args.matrix.now.columns.items (members x))
          (told_once c.args.target.now.rank c.args.place w.row w.past c.args.units c.args.later c.told_set-set.result X c.told_set-set.ensures t) (k.0 e)),
      (λ h. k.1 (h c.told_set-set.result c.told_set-set.ensures
          (told_size (matroid_of c.args.target.now) c.args.place c.args.units c.args.later c.told_set-set.result w.column
          c.told_set-set.ensures ∙ c.if-set-from.false ∙ c.from.ensures))),
    )
