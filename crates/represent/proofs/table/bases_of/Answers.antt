use Rattle.std.proofs.Common.{◌≡◌, ◌<◌, ◌≤◌, ◌+◌, ◌^◌, ◌↔◌, ◌⊎◌, ℕ, List, sym, ◌∙◌, ap, subst, arith, inl, inr}
use Rattle.std.specs.List.{Contains}
use Rattle.std.proofs.lemmas.Bool.{false≢true, cases_lt}
use Rattle.matroid_theory.specs.Rep.{Rep, size}
use Rattle.matroid_theory.specs.Matroid.{members, IsBasis}
use Rattle.represent.proofs.table.bases_of.Goals as goal
use Rattle.represent.proofs.table.bases_of.Goals.{then-is_basis, else-is_basis}

-- the bases below a mask
abbrev IsBasisBelow : Rep → ℕ → ℕ → Type 0
IsBasisBelow M n X = (X < n) × IsBasis M 0 (members X)

-- one more mask, a basis or not
with_basis : (M : Rep) (set X : ℕ) (old new : List ℕ) → Contains new X ↔ (Contains old X ⊎ (set ≡ X)) → IsBasis M 0 (members set)
    → Contains old X ↔ IsBasisBelow M set X → Contains new X ↔ IsBasisBelow M (set + 1) X
with_basis M set X old new e s h = (
  (λ c. elim (e.0 c) [
    | inl o ↦ (let w : IsBasisBelow M set X = h.0 o in let l : X < set = w.0 in (omega arith, w.1))
    | inr i ↦ (omega arith, subst (λ (x : ℕ). IsBasis M 0 (members x)) i s)
  ]),
  (λ w. e.1 (elim (cases_lt X set) [
    | inl l ↦ inl (h.1 (l, w.1))
    | inr g ↦ inr (let l : X < set + 1 = w.0 in omega arith)
  ])),
)

without_basis : (M : Rep) (set X : ℕ) (old : List ℕ) → ¬ (IsBasis M 0 (members set)) → Contains old X ↔ IsBasisBelow M set X
    → Contains old X ↔ IsBasisBelow M (set + 1) X
without_basis M set X old out h = (
  (λ c. let w : IsBasisBelow M set X = h.0 c in let l : X < set = w.0 in (omega arith, w.1)),
  (λ w. elim (cases_lt X set) [
    | inl l ↦ h.1 (l, w.1)
    | inr g ↦ (let l : X < set + 1 = w.0 in let i : X ≡ set = omega arith in absurd (out (subst (λ (x : ℕ). IsBasis M 0 (members x)) i w.1)))
  ]),
)

pub loop-set-preserved : goal.loop-set-preserved
loop-set-preserved c X =
    elim c.if-is_basis.branch [
      | then-is_basis w ↦ subst (λ (t : List ℕ). Contains t X ↔ IsBasisBelow c.args.rep.now (c.loop-set.set + 1) X) (sym w.table-is)
          (with_basis c.args.rep.now c.loop-set.set X c.loop-set.table w.add.new.self (w.add.ensures X)
          (c.is_basis.ensures.0 w.if-is_basis.true) (c.loop-set.invariant X))
      | else-is_basis w ↦ subst (λ (t : List ℕ). Contains t X ↔ IsBasisBelow c.args.rep.now (c.loop-set.set + 1) X) (sym w.table-is)
          (without_basis c.args.rep.now c.loop-set.set X c.loop-set.table
          (λ b. false≢true (sym w.if-is_basis.false ∙ c.is_basis.ensures.1 b)) (c.loop-set.invariant X))
    ]

pub returns : goal.returns
returns c =
    let d : 2 ^ c.size.result ≡ 2 ^ size c.args.rep.now = ap (λ n. 2 ^ n) c.size.ensures.value in
    let o : c.set_count-set-end.result ≤ c.loop-set.set = c.loop-set-test.false in
    let v : c.set_count-set-end.result ≡ 2 ^ c.size.result = c.set_count-set-end.ensures.value in
    let g : c.loop-set.set ≤ c.set_count-set-end.result = c.loop-set.auto.set-end in
    record {
      rising = c.laws-2.ensures;
      exact = λ X. (
        (λ m. let w = (c.loop-set.invariant X).0 m in (let l : X < c.loop-set.set = w.0 in omega arith, w.1)),
        (λ w. (c.loop-set.invariant X).1 (let l : X < 2 ^ size c.args.rep.now = w.0 in omega arith, w.1)),
      );
    }
