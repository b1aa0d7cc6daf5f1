use Rattle.std.proofs.lemmas.Result.{IfOk-weaker}
use Rattle.bases.proofs.Factors.{bases_are}
use Rattle.bases.proofs.base_list.bases_of.Goals as goal

pub returns : goal.returns
returns c = IfOk-weaker c.bases_of_columns.result _ _
    (λ v d. bases_are c.args.rep.now c.laws.ensures c.field.result c.of-first.result.field c.rank.result c.columns.result.now
    c.of-first.result.columns.items v.items
    c.of-first.ensures c.field.ensures c.rank.ensures c.columns.ensures.columns d)
    c.bases_of_columns.ensures
