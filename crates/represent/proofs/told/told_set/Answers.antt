use Rattle.std.proofs.Common.{◌≡◌, ◌*◌, ◌%◌, ◌^◌, ◌≤◌, suc, arith, lit<}
use Rattle.std.proofs.lemmas.Nat.{one_shl}
use Rattle.std.proofs.Math.Nat.{pow-le-pow_right}
use Rattle.represent.proofs.ToldSets.{two_shl, told_value}
use Rattle.represent.proofs.told.told_set.Goals as goal

pub overflow_sub-after : goal.overflow_sub-after
overflow_sub-after c =
    let a : 1 * 2 ^ c.args.rank % 65536 ≡ 2 ^ c.args.rank = one_shl c.args.rank 16 (omega arith) in
    let b : 2 * 2 ^ c.args.place.row % 65536 ≡ 2 ^ suc c.args.place.row = two_shl c.args.place.row (omega arith) in
    let l : 2 ^ suc c.args.place.row ≤ 2 ^ c.args.rank = pow-le-pow_right (lit< tt) (omega arith) in
    omega arith

pub returns : goal.returns
returns c = told_value c.args.rank c.args.place c.requires.row c.requires.past c.args.units c.args.later c.requires.units
    c.requires.later c.requires.rank c.requires.column
