use Rattle.std.proofs.Common.{◌^◌, ◌<◌, ◌↔◌, ℕ, subst, IsTrue, rules}
use Rattle.column_sets.proofs.SetLemmas.{no_set_found}
use Rattle.represent.specs.Sought.{matroid_of}
use Rattle.represent.specs.Kept.{IsToldWith, KeepsSet}
use Rattle.represent.proofs.KeptSets.{opposite}
use Rattle.represent.proofs.told.keeps_later.Goals as goal

pub returns : goal.returns
returns c =
    let e = subst (λ (n : ℕ). IsTrue c.is_none.result ↔
    ((units : ℕ) → units < 2 ^ n → (X : ℕ) → IsToldWith c.args.target.now.rank c.args.place units c.args.later X
    → KeepsSet (matroid_of c.args.target.now) c.args.matrix.now X)) c.from.ensures
    (no_set_found (λ units. units < 2 ^ c.from.result) _
    (λ units. (X : ℕ) → IsToldWith c.args.target.now.rank c.args.place units c.args.later X
    → KeepsSet (matroid_of c.args.target.now) c.args.matrix.now X)
    c.first_set.result c.is_none.result c.is_none.ensures (λ X s b e. search (rules, opposite)) c.first_set.ensures) in
    (λ t units X l. e.0 t units l X, λ h. e.1 (λ units l X. h units X l))
