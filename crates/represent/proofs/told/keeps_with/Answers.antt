use Rattle.std.proofs.Common.{◌↔◌, ℕ, subst, IsTrue, rules}
use Rattle.column_sets.specs.Sets.{IsSetOfSize}
use Rattle.column_sets.proofs.SetLemmas.{no_set_found}
use Rattle.represent.specs.Sought.{matroid_of}
use Rattle.represent.specs.Kept.{KeepsWith}
use Rattle.represent.proofs.KeptSets.{opposite}
use Rattle.represent.proofs.told.keeps_with.Goals as goal

pub returns : goal.returns
returns c =
    subst (λ (n : ℕ). IsTrue c.is_none.result ↔
    ((later : ℕ) → IsSetOfSize n c.args.count later
    → KeepsWith (matroid_of c.args.target.now) c.args.matrix.now c.args.place later)) c.from-before.ensures
    (no_set_found (IsSetOfSize c.from-before.result c.args.count) _ (KeepsWith (matroid_of c.args.target.now) c.args.matrix.now c.args.place)
    c.first_of_size.result c.is_none.result c.is_none.ensures (λ X s b e. search (rules, opposite)) c.first_of_size.ensures)
