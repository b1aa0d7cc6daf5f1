use Rattle.std.proofs.Common.{◌≡◌, ◌↔◌, ◌<◌, ◌≤◌, ◌^◌, ℕ, List, refl, sym, ◌∙◌, ap, subst, arith, lit<, length, slice_index, Contains, IsTrue, below_more}
use Rattle.std.proofs.lemmas.Bool.{false≢true}
use Rattle.std.proofs.lemmas.List.Elements.{All-from_get_or, All-contains, Contains-get_or}
use Rattle.std.proofs.Math.Nat.{pow-le-pow_right}
use Rattle.matroid_theory.specs.Matroid.{members}
use Rattle.matroid_theory.specs.Minor.{Matroid}
use Rattle.named_matroids.specs.SmallMatroids.{IsSmallMatroid}
use Rattle.matroid_theory.specs.Tables.{has}
use Rattle.minor_test.specs.Tables.{HasMasks}
use Rattle.minor_test.specs.Twins.{swapped, IsSwapped, AreTwins}
use Rattle.minor_test.proofs.SmallSets.{in_table}
use Rattle.minor_test.proofs.TwinSets.{one_swapped}
use Rattle.minor_test.proofs.twins.are_twins.Goals as goal

-- one basis
module _ (N : Matroid) (small : IsSmallMatroid N) (words : List ℕ) (t : HasMasks N.bases words) (i j X Z : ℕ) (before : i < j)
    (below : j < N.size) (basis : Contains N.bases X)
    (e : (x : ℕ) → members Z x ≡ members X (swapped i j x)) (b : (n : ℕ) → j < n → X < 2 ^ n → Z < 2 ^ n) where
  basis_below : X < 2 ^ N.size
  basis_below = All-contains (λ X. X < 2 ^ N.size) N.bases X small.below basis

  exchanged_in : IsTrue (has words Z) ↔ Contains N.bases Z
  exchanged_in = t.exact Z
      (let p : 2 ^ N.size ≤ 2 ^ 16 = pow-le-pow_right {n = 2} (lit< tt) {i = N.size} {j = 16}
      (let m : N.size ≤ 10 = small.size_most in omega arith) in let z : Z < 2 ^ N.size = b N.size below basis_below in omega arith)

  is_kept : IsTrue (has words Z) → (Y : ℕ) → Y < 2 ^ N.size → IsSwapped N.size i j X Y → Contains N.bases Y
  is_kept h Y l s = subst (λ (y : ℕ). Contains N.bases y) (one_swapped N.size i j X Y Z l (b N.size below basis_below) s e) (exchanged_in.0 h)

  kept_is : AreTwins N i j → IsTrue (has words Z)
  kept_is a = exchanged_in.1 (a.bases X Z basis_below (b N.size below basis_below) (λ x _. e x) basis)

-- the basis that the loop is at
at_place : (bases items : List ℕ) (k : ℕ) → items ≡ bases → k < length items → Contains bases (slice_index items k)
at_place bases items k e l = subst (λ (xs : List ℕ). Contains xs (slice_index items k)) e (Contains-get_or items k 0 l)

pub contains-requires : goal.contains-requires
contains-requires c =
    let small : IsSmallMatroid c.args.minor.now = c.laws.ensures in (
      lit< tt,
      in_table c.args.minor.now.size c.exchanged.result small.size_most
          (c.exchanged.ensures.below c.args.minor.now.size c.requires.element
          (All-contains (λ X. X < 2 ^ c.args.minor.now.size) c.args.minor.now.bases
          (slice_index c.bases-basis-items.result.now c.loop-basis.basis-index) small.below
          (at_place c.args.minor.now.bases c.bases-basis-items.result.now c.loop-basis.basis-index c.bases-basis-items.ensures
          c.loop-basis-test.true))),
    )

pub returns-then-not-contains : goal.returns-then-not-contains
returns-then-not-contains c = (
  (λ t. absurd (false≢true t)),
  (λ a. absurd (false≢true
      (sym c.if-not-contains.true ∙ c.contains.ensures
      ∙ kept_is c.args.minor.now c.laws.ensures c.args.table.now.words c.requires.table c.args.i c.args.j
      (slice_index c.bases-basis-items.result.now c.loop-basis.basis-index) c.exchanged.result c.requires.before c.requires.element
      (at_place c.args.minor.now.bases c.bases-basis-items.result.now c.loop-basis.basis-index c.bases-basis-items.ensures
      c.loop-basis-test.true) c.exchanged.ensures.members c.exchanged.ensures.below a))),
)

pub loop-basis-preserved : goal.loop-basis-preserved
loop-basis-preserved c = below_more _ _ c.loop-basis.invariant
    (λ Y l s. is_kept c.args.minor.now c.laws.ensures c.args.table.now.words c.requires.table c.args.i c.args.j
    (slice_index c.bases-basis-items.result.now c.loop-basis.basis-index) c.exchanged.result c.requires.before c.requires.element
    (at_place c.args.minor.now.bases c.bases-basis-items.result.now c.loop-basis.basis-index c.bases-basis-items.ensures
    c.loop-basis-test.true) c.exchanged.ensures.members c.exchanged.ensures.below
    (sym c.contains.ensures ∙ c.if-not-contains.false) Y l
    (subst (λ (xs : List ℕ). IsSwapped c.args.minor.now.size c.args.i c.args.j (slice_index xs c.loop-basis.basis-index) Y)
    (sym c.bases-basis-items.ensures) s))

pub returns : goal.returns
returns c = (
  (λ _. record {
    before = c.requires.before;
    below = c.requires.element;
    bases = λ X Y _ m s h.
        All-contains (λ X. IsSwapped c.args.minor.now.size c.args.i c.args.j X Y → Contains c.args.minor.now.bases Y) c.args.minor.now.bases X
        (All-from_get_or (λ X. IsSwapped c.args.minor.now.size c.args.i c.args.j X Y → Contains c.args.minor.now.bases Y) c.args.minor.now.bases 0
        (λ k l. c.loop-basis.invariant k
        (let g : length c.bases-basis-items.result.now ≤ c.loop-basis.basis-index = c.loop-basis-test.false in
        let e : length c.bases-basis-items.result.now ≡ length c.args.minor.now.bases =
        ap (λ (xs : List ℕ). length xs) c.bases-basis-items.ensures in omega arith) Y m)) h s;
  }),
  (λ _. refl),
)
