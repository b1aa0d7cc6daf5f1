use Rattle.std.proofs.Common.{ℕ, List, sym, subst, refl}
use Rattle.dual_theory.specs.Represented.{IsLeastOver}
use Rattle.represent.specs.Sought.{matroid_of}
use Rattle.represent.specs.Completions.{IsLeastWith, NoneWith}
use Rattle.represent.proofs.Completing.{least_found, none_found}
use Rattle.represent.proofs.least.least_over.Goals as goal

pub returns-in_err-codes-clause-none : goal.returns-in_err-codes-clause-none
returns-in_err-codes-clause-none c _ =
    none_found c.args.target.now.order (matroid_of c.args.target.now) c.requires
    (subst (NoneWith c.args.target.now.order (matroid_of c.args.target.now)) c.new.ensures (c.in_err-codes.ensures.none refl))

pub returns-clause-found : goal.returns-clause-found
returns-clause-found c =
    subst (IsLeastOver c.args.target.now.order (matroid_of c.args.target.now)) (sym c.filled.ensures)
    (least_found c.args.target.now.order (matroid_of c.args.target.now) c.requires c.in_ok-codes.codes.items
    (subst (λ (xs : List ℕ). IsLeastWith c.args.target.now.order
    (matroid_of c.args.target.now) xs c.in_ok-codes.codes.items) c.new.ensures c.in_ok-codes.ensures.found))
