use Rattle.std.proofs.Common.{◌≡◌, ◌≢◌, ◌<◌, ◌≤◌, ◌*◌, ◌/◌, ◌%◌, ℕ, zero, suc, List, [], ◌∷◌, length, length-set, slice_index, sym, ◌∙◌, ap, subst, arith}
use Rattle.std.specs.List.{slice_set}
use Rattle.std.proofs.lemmas.List.{get_or-replicate}
use Rattle.std.proofs.Math.Nat.{mod-lt}
use Rattle.matroid_laws.proofs.First.{row_below}
use Rattle.form_trails.specs.Numbers.{weighed}
use Rattle.form_states.specs.Codes.{code}
use Rattle.form_states.proofs.GroupSteps.{set_at}
use Rattle.form_states.proofs.above.least_with.Goals as goal

-- greater digits make a greater number
weighed_most : (d e : ℕ → ℕ) (n : ℕ) → ((k : ℕ) → k < n → d k ≤ e k) → weighed d n ≤ weighed e n
weighed_most d e zero h = omega arith
weighed_most d e (suc n) h = let a : weighed d n ≤ weighed e n = weighed_most d e n (λ k l. h k (omega arith)) in
    let b : d n ≤ e n = h n (omega arith) in omega arith

abbrev zeros : List ℕ
zeros = 0 ∷ (0 ∷ (0 ∷ []))

abbrev ones : List ℕ
ones = 1 ∷ (1 ∷ (1 ∷ []))

abbrev nothing : List (List ℕ)
nothing = zeros ∷ (zeros ∷ (zeros ∷ (zeros ∷ (zeros ∷ (zeros ∷ [])))))

-- the column that is 1 in two rows
ones_at : (k j f i : ℕ) → k < 6 → j < 6 → f < 3 → i < 6 → (P : ℕ → Type 0) → (i ≡ k → P 1) → (i ≡ j → P 1) → P 0 →
    P (code (slice_set (slice_set nothing k ones) j ones) f i)
ones_at k j f i kb jb l b P at_k at_j z =
    set_at (slice_set nothing k ones) j ones [] i (let n : length (slice_set nothing k ones) ≡ 6 = length-set nothing k ones in omega arith)
    (λ row. P (slice_index row f)) (λ e. subst P (sym (get_or-replicate 3 f 1 0 l)) (at_j e))
    (λ _. set_at nothing k ones [] i kb (λ row. P (slice_index row f)) (λ e. subst P (sym (get_or-replicate 3 f 1 0 l)) (at_k e))
    (λ _. subst P (sym (ap (λ (row : List ℕ). slice_index row f) (get_or-replicate 6 i zeros [] b) ∙ get_or-replicate 3 f 0 0 l)) z))

pub number-requires-clause-digits : goal.number-requires-clause-digits
number-requires-clause-digits c f i l b = ones_at c.args.k c.args.j f i (omega (arith, c.requires.limits.low, c.requires.k))
    (omega (arith, c.requires.limits.low, c.requires.j)) l b (λ v. v < 16) (λ _. omega arith) (λ _. omega arith) (omega arith)

pub returns : goal.returns
returns c v at_k at_j = subst (λ n. n ≤ weighed (λ e. v (e % c.args.shape.now.count) (e / c.args.shape.now.count)) (c.args.shape.now.rank * c.args.shape.now.count))
    (sym c.number.ensures)
    (weighed_most (λ e. code (slice_set (slice_set nothing c.args.k ones) c.args.j ones) (e % c.args.shape.now.count) (e / c.args.shape.now.count))
    (λ e. v (e % c.args.shape.now.count) (e / c.args.shape.now.count)) (c.args.shape.now.rank * c.args.shape.now.count)
    (λ e l. digit (e % c.args.shape.now.count) (e / c.args.shape.now.count)
    (mod-lt e (let o = c.requires.limits.one in omega arith))
    (row_below e c.args.shape.now.count c.args.shape.now.rank (let o = c.requires.limits.one in omega arith) l)))
  where
    some_digit : (n : ℕ) → n ≢ 0 → 1 ≤ n
    some_digit n m = omega arith

    digit : (f i : ℕ) → f < c.args.shape.now.count → i < c.args.shape.now.rank → code (slice_set (slice_set nothing c.args.k ones) c.args.j ones) f i ≤ v f i
    digit f i l b = ones_at c.args.k c.args.j f i (omega (arith, c.requires.limits.low, c.requires.k)) (omega (arith, c.requires.limits.low, c.requires.j))
        (omega (arith, c.requires.limits.few)) (omega (arith, c.requires.limits.low)) (λ n. n ≤ v f i)
        (λ e. some_digit (v f i) (subst (λ i. v f i ≢ 0) (sym e) (at_k f l))) (λ e. some_digit (v f i) (subst (λ i. v f i ≢ 0) (sym e) (at_j f l))) (omega arith)
