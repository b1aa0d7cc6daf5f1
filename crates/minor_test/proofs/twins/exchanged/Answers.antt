use Rattle.std.proofs.Common.{◌<◌, ◌^◌, ℕ, sym, ◌∙◌, ap, subst, arith, bit_or, bit_xor}
use Rattle.std.specs.Bool.{◌==◌}
use Rattle.std.proofs.lemmas.Bool.{false≢true}
use Rattle.std.proofs.lemmas.Nat.{one_shl}
use Rattle.matroid_theory.specs.Matroid.{members}
use Rattle.minor_test.proofs.Answers.{answers_same}
use Rattle.minor_test.proofs.TwinSets.{exchanged_flipped, flipped_below}
use Rattle.minor_test.proofs.twins.exchanged.Goals as goal

pub returns-else-in_set-clause-members : goal.returns-else-in_set-clause-members
returns-else-in_set-clause-members c x =
    let l : c.args.i < c.args.j = c.requires.before in
    let m : c.args.j < 16 = c.requires.element in
    let o : c.args.i < 16 = omega arith in
    (λ u. members (bit_xor c.args.set (bit_or (one_shl c.args.i 16 o u) (one_shl c.args.j 16 m u))) x)
    ∙ exchanged_flipped c.args.set c.args.i c.args.j x l
    (λ e. false≢true (sym c.if-in_set.false
    ∙ answers_same c.in_set.result c.in_set-2.result (c.in_set.ensures ∙ ap (λ b. b == 1) e ∙ sym c.in_set-2.ensures)))

pub returns-else-in_set-clause-below : goal.returns-else-in_set-clause-below
returns-else-in_set-clause-below c n k b =
    let l : c.args.i < c.args.j = c.requires.before in
    let m : c.args.j < 16 = c.requires.element in
    let o : c.args.i < 16 = omega arith in
    subst (λ (y : ℕ). y < 2 ^ n) (λ u. bit_xor c.args.set (bit_or (sym (one_shl c.args.i 16 o) u) (sym (one_shl c.args.j 16 m) u)))
    (flipped_below c.args.set c.args.i c.args.j n l k b)
