use Rattle.std.proofs.Common.{◌≡◌, ◌≤◌, ◌<◌, ◌+◌, ◌++◌, length, rules}
use Rattle.matroid_theory.specs.Rep.{size}
use Rattle.form_key.proofs.Columns.{column_more, column_room, later_halves}
use Rattle.form_key.proofs.to_key.codes_of.Goals as goal

pub push_codes-requires : goal.push_codes-requires
push_codes-requires c =
    let low : c.args.rep.now.rank ≤ c.loop-j.j = search rules in
    let below : c.loop-j.j < size c.args.rep.now = search rules in
    let room : length c.loop-j.codes.items + length c.column.result.items ≤ 180 =
    column_room c.args.rep.now c.loop-j.j c.column.result.items c.loop-j.codes.items c.size-j-end.ensures.is_rep low below
    c.column.ensures c.loop-j.invariant in
    search rules

pub loop-j-preserved : goal.loop-j-preserved
loop-j-preserved c =
    let low : c.args.rep.now.rank ≤ c.loop-j.j = search rules in
    let below : c.loop-j.j < size c.args.rep.now = search rules in
    let new : c.push_codes.new.codes.items ≡ c.loop-j.codes.items ++ c.column.result.items = search rules in
    column_more c.args.rep.now c.loop-j.j c.column.result.items c.loop-j.codes.items c.push_codes.new.codes.items low below
    c.column.ensures c.loop-j.invariant new

pub returns-clause-halves : goal.returns-clause-halves
returns-clause-halves c =
    let all : size c.args.rep.now ≤ c.loop-j.j = search rules in
    later_halves c.args.rep.now c.loop-j.j c.loop-j.codes.items c.size-j-end.ensures.is_rep.shaped c.loop-j.invariant all
