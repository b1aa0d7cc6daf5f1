use Rattle.std.proofs.Common.{◌≡◌, ◌<◌, ◌≤◌, ◌+◌, ◌*◌, ◌^◌, ℕ, suc, sym, ◌∙◌, ap, arith, lit<, lit≤}
use Rattle.std.proofs.Math.Nat.{pow-succ', pow-le-pow_right, mul-le-mul, le_refl}
use Rattle.form_trails.specs.Numbers.{weighed_on}
use Rattle.form_trails.proofs.Numbers.{weighed_row}
use Rattle.form_states.specs.Codes.{code}
use Rattle.form_states.proofs.weights.number.Goals as goal

room : (n i rank : ℕ) → n < 4096 ^ i → i < rank → rank ≤ 6 → n < 2 ^ 100
room n i rank b l m =
    let p : 4096 ^ i ≤ 4096 ^ 5 = pow-le-pow_right (lit< tt) (let k : i ≤ 5 = omega arith in k) in
    let q : 4096 ^ 5 ≤ 2 ^ 100 = lit≤ tt in omega arith

next : (n m i : ℕ) → n < 4096 ^ i → m < 4096 * (n + 1) → m < 4096 ^ (i + 1)
next n m i b l =
    let e : 4096 ^ suc i ≡ 4096 * 4096 ^ i = pow-succ' 4096 i in
    let s : 4096 ^ (i + 1) ≡ 4096 ^ suc i = (let z : i + 1 ≡ suc i = omega arith in ap (λ k. 4096 ^ k) z) in
    let p : 4096 * (n + 1) ≤ 4096 * 4096 ^ i = mul-le-mul (le_refl 4096) (let k : n + 1 ≤ 4096 ^ i = omega arith in k) in omega arith

pub weigh-number-requires-clause-room : goal.weigh-number-requires-clause-room
weigh-number-requires-clause-room c = room c.loop-i.number c.loop-i.i c.args.rank c.loop-i.invariant.most c.loop-i-test.true c.requires.rank

pub loop-i-preserved : goal.loop-i-preserved
loop-i-preserved c = record {
  digits = c.weigh-number.ensures.digits
      ∙ ap (λ v. weighed_on v (λ f. code c.args.column.now f c.loop-i.i) c.args.count) c.loop-i.invariant.digits
      ∙ sym (weighed_row (code c.args.column.now) c.args.count c.loop-i.i);
  most = next c.loop-i.number c.weigh-number.result c.loop-i.i c.loop-i.invariant.most c.weigh-number.ensures.most;
}
