use Rattle.std.proofs.Common.{◌≡◌, sym, ◌∙◌, subst, refl, false, not}
use Rattle.std.specs.declared.cmp.Ordering.{Ordering}
use Rattle.std.specs.declared.cmp.Ordering.TheVariants.{Less, Equal, Greater}
use Rattle.std.specs.Bool.{◌==◌}
use Rattle.std.specs.Ordering.{ordering_index}
use Rattle.matroid_laws.proofs.Levels.{columns_total}
use Rattle.matrix_lemmas.proofs.Orderings.{at_most_chain, at_most_itself}
use Rattle.canonical_form.specs.Search.{columns_cmp}
use Rattle.canonical_form.specs.Found.{IsAtMost}
use Rattle.canonical_form.proofs.Orders.{above_reversed}
use Rattle.canonical_form.proofs.scalars.keep_less.Goals as goal
use Rattle.canonical_form.proofs.scalars.keep_less.Goals.{in-Some+else-ne, in_default}

-- the test that two orders differ
is_greater : (r : Ordering) → not (ordering_index r == 2) ≡ false → r ≡ Greater
is_greater Less e = cc
is_greater Equal e = cc
is_greater Greater e = refl

pub returns-clause-at_most : goal.returns-clause-at_most
returns-clause-at_most c = at_most_itself columns_cmp columns_total c.args.columns

pub returns-clause-lower : goal.returns-clause-lower
returns-clause-lower c others h = elim c.match-best.branch [
  | in-Some+else-ne w ↦
      let g : columns_cmp w.in-Some.least c.args.columns ≡ Greater = sym w.compare.ensures ∙ is_greater w.compare.result (sym w.ne.ensures ∙ w.if-ne.false) in
      at_most_chain columns_cmp columns_total c.args.columns w.in-Some.least others (above_reversed w.in-Some.least c.args.columns g)
      (subst (λ o. IsAtMost o others) w.in-Some.is h)
  | in_default w ↦ absurd (subst (λ o. IsAtMost o others) w.in_default.is h)
]
