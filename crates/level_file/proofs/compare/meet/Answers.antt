use Rattle.std.proofs.Common.{◌<◌, length, ap, arith}
use Rattle.level_file.proofs.Meeting.{some_left, met_parts}
use Rattle.level_file.proofs.compare.meet.Goals as goal

pub returns-clause-unmet : goal.returns-clause-unmet
returns-clause-unmet c =
    let k = c.common_len-common.result in
    let some : 0 < length c.split_at.result.1.now = some_left _ _ c.is_empty.ensures c.if-is_empty.false in
    let in_rest : k < length c.args.rest.now = omega (arith, some, c.split_at.ensures.back_len) in
    let in_piece : k < length c.args.piece.now = omega (arith, c.common_len-common.ensures.second, c.if-common-piece.false) in
    met_parts c.args.rest.now c.args.piece.now k c.common_len-common.ensures.common (length c.split_at.result.1.now) in_rest in_piece
    (c.common_len-common.ensures.parts in_rest in_piece) (ap length c.split_at.ensures.back)
