use Rattle.std.proofs.Common.{◌≡◌, ◌*◌, length, rules}
use Rattle.form_key.proofs.Built.{piece, next_column, built_more}
use Rattle.form_key.proofs.from_key.standard.Goals as goal

pub push_column-requires-clause-column : goal.push_column-requires-clause-column
push_column-requires-clause-column c =
    let width : c.from.result * c.count.result ≡ c.args.rank * length c.args.factors = search rules in
    next_column _ _ _ _ _ _ _ c.loop-j.invariant c.requires.are_codes c.requires.count c.loop-j-test.true (piece _ _ _ _ _ width c.column.ensures)

pub loop-j-preserved : goal.loop-j-preserved
loop-j-preserved c =
    let width : c.from.result * c.count.result ≡ c.args.rank * length c.args.factors = search rules in
    built_more _ _ _ _ _ _ _ c.loop-j.invariant (piece _ _ _ _ _ width c.column.ensures) c.push_column.ensures
