use Rattle.std.proofs.Common.{◌≡◌, ◌<◌, ◌≤◌, ◌+◌, ◌^◌, ◌||◌, ◌↔◌, ℕ, Bool, sym, ◌∙◌, ap, subst, arith, IsTrue, inl, inr}
use Rattle.std.specs.Bool.{◌==◌}
use Rattle.std.proofs.lemmas.Bool.{false≢true, eqb-true, or_cases, or_left, or_right, cases_lt}
use Rattle.matroid_theory.specs.Rep.{Rep, size}
use Rattle.matroid_theory.specs.Matroid.{members, IsBasis}
use Rattle.matrix_lemmas.proofs.Sums.{same_number}
use Rattle.minor_test.specs.declared.table.Table.{Table}
use Rattle.matroid_theory.specs.Tables.{has}
use Rattle.minor_test.proofs.table.bases_of.Goals as goal
use Rattle.minor_test.proofs.table.bases_of.Goals.{then-is_basis, else-is_basis}

-- the bases below a mask
abbrev IsBasisBelow : Rep → ℕ → ℕ → Type 0
IsBasisBelow M n X = (X < n) × IsBasis M 0 (members X)

-- one more mask, a basis or not
with_basis : (M : Rep) (set X : ℕ) (a b : Bool) → b ≡ (a || (set == X)) → IsBasis M 0 (members set) →
    IsTrue a ↔ IsBasisBelow M set X → IsTrue b ↔ IsBasisBelow M (set + 1) X
with_basis M set X a b e s h = (
  (λ t. elim (or_cases a (set == X) (sym e ∙ t)) [
    | inl o ↦ (let w : IsBasisBelow M set X = h.0 o in let l : X < set = w.0 in (omega arith, w.1))
    | inr o ↦ (let i : set ≡ X = eqb-true set X o in (omega arith, subst (λ (x : ℕ). IsBasis M 0 (members x)) i s))
  ]),
  (λ w. e ∙ elim (cases_lt X set) [
    | inl l ↦ or_left a (set == X) (h.1 (l, w.1))
    | inr g ↦ (let l : X < set + 1 = w.0 in let i : set ≡ X = omega arith in or_right a (set == X) (ap (λ x. x == X) i ∙ same_number X))
  ]),
)

without_basis : (M : Rep) (set X : ℕ) (a : Bool) → ¬ (IsBasis M 0 (members set)) → IsTrue a ↔ IsBasisBelow M set X → IsTrue a ↔ IsBasisBelow M (set + 1) X
without_basis M set X a out h = (
  (λ t. let w : IsBasisBelow M set X = h.0 t in let l : X < set = w.0 in (omega arith, w.1)),
  (λ w. elim (cases_lt X set) [
    | inl l ↦ h.1 (l, w.1)
    | inr g ↦ (let l : X < set + 1 = w.0 in let i : X ≡ set = omega arith in absurd (out (subst (λ (x : ℕ). IsBasis M 0 (members x)) i w.1)))
  ]),
)

pub loop-set-init : goal.loop-set-init
loop-set-init c X = ((λ t. absurd (false≢true (sym (c.new-table.ensures X) ∙ t))), (λ w. absurd (let l = w.0 in omega arith)))

pub loop-set-preserved : goal.loop-set-preserved
loop-set-preserved c X =
    elim c.if-is_basis.branch [
      | then-is_basis w ↦ with_basis c.args.rep.now c.loop-set.set X (has c.loop-set.table.words X)
          (has c.if-is_basis.table.words X) (ap (λ (t : Table 1024). has t.words X) w.table-is ∙ w.add.ensures X)
          (c.is_basis.ensures.0 w.if-is_basis.true) (c.loop-set.invariant X)
      | else-is_basis w ↦ subst (λ (t : Table 1024). IsTrue (has t.words X) ↔ IsBasisBelow c.args.rep.now (c.loop-set.set + 1) X) (sym w.table-is)
          (without_basis c.args.rep.now c.loop-set.set X (has c.loop-set.table.words X)
          (λ b. false≢true (sym w.if-is_basis.false ∙ c.is_basis.ensures.1 b)) (c.loop-set.invariant X))
    ]

pub returns : goal.returns
returns c =
    record {
      exact = λ X l. (
        (λ t. ((c.loop-set.invariant X).0 t).1),
        (λ b. (c.loop-set.invariant X).1 (
          (let d : 2 ^ c.size.result ≡ 2 ^ size c.args.rep.now = ap (λ n. 2 ^ n) c.size.ensures.value in
              let o : c.set_count-set-end.result ≤ c.loop-set.set = c.loop-set-test.false in
              let v : c.set_count-set-end.result ≡ 2 ^ c.size.result = c.set_count-set-end.ensures.value in
              omega arith),
          b,
        )),
      );
    }
