use Rattle.std.proofs.Common.{◌≡◌, sym, ap, subst}
use Rattle.matroid_theory.specs.Rep.{Rep, IsShaped}
use Rattle.matroid_theory.specs.Order.{IsForm}
use Rattle.matroid_theory.specs.Level.{followed_by}
use Rattle.orderly.specs.Refused.{RefusalOf, IsBelowLast}
use Rattle.orderly.proofs.Refused.{below_last}
use Rattle.orderly.proofs.refusal.Refusal.refuses.Goals as goal

pub returns-then-is_below_last-clause-refused : goal.returns-then-is_below_last-clause-refused
returns-then-is_below_last-clause-refused c _ =
    let r : RefusalOf = c.args.self.now in
    let here : c.self.inside.parent.now ≡ r.parent = ap (λ (r : RefusalOf). r.parent) c.self.view_is in
    below_last r.mode r.parent c.args.column.now.items (subst IsShaped here c.laws.ensures.shaped) c.requires.parent.standard
    c.requires.column.normalised.is_column
    (subst (λ (P : Rep). IsBelowLast P c.args.column.now.items) here (c.is_below_last.ensures.0 c.if-is_below_last.true))
