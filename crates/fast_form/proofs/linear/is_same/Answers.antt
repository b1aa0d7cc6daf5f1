use Rattle.std.proofs.Common.{sym, ◌∙◌, ap, subst}
use Rattle.std.proofs.lemmas.Cmp.{tied_itself}
use Rattle.matroid_theory.specs.declared.Mode.TheVariants.{Linear}
use Rattle.matroid_theory.specs.Order.{rep_cmp, IsForm}
use Rattle.matroid_laws.proofs.Forms.{one_form}
use Rattle.matroid_laws.proofs.Levels.{columns_total, rep_cmp-equal}
use Rattle.fast_form.proofs.linear.is_same.Goals as goal

pub returns : goal.returns
returns c = (
  λ e. subst (IsForm Linear) (sym (rep_cmp-equal c.args.rep.now c.args.form.now (sym c.requires.equivalent.takes.same_shape)
      (sym c.compare.ensures ∙ c.is_equal.ensures.0 e))) c.requires.form,
  λ f. c.is_equal.ensures.1 (c.compare.ensures ∙ ap (rep_cmp c.args.rep.now) (sym
      (one_form Linear c.args.rep.now c.args.form.now f c.requires.form c.requires.equivalent))
      ∙ tied_itself columns_total c.args.rep.now.columns),
)
