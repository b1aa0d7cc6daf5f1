use Rattle.std.proofs.Common.{◌≡◌, ◌≢◌, ◌<◌, ◌*◌, ◌/◌, ◌%◌, ℕ, [], List, slice_index, slice_index_or, sym, ◌∙◌, ap, subst, arith}
use Rattle.std.proofs.Math.Nat.{mod-lt}
use Rattle.matroid_theory.specs.Field.{IsField, times}
use Rattle.matroid_laws.proofs.First.{row_below}
use Rattle.form_trails.specs.Numbers.{weighed}
use Rattle.form_trails.proofs.Numbers.{weighed_same}
use Rattle.form_states.specs.Codes.{AreColumnCodes, code}
use Rattle.form_states.specs.Groups.{AreGroupFactors}
use Rattle.form_states.specs.States.{AreLimits, IsScaledNumber}
use Rattle.form_states.proofs.lists.marked_numbers.Goals as goal

-- below 2 and not 0
one_below : (v : ℕ) → v < 2 → v ≢ 0 → v ≡ 1
one_below v b n = omega arith

module _ (fields : List ℕ) (factors rank total : ℕ) (groups : ℕ → ℕ) (by : ℕ → ℕ → ℕ) (column : List (List ℕ)) (limits : AreLimits fields factors rank total)
    (codes : AreColumnCodes fields column) (laws : (f : ℕ) → f < 3 → IsField (slice_index fields f)) (binary : (f : ℕ) → f < 3 → slice_index fields f ≡ 2)
    (ones : (f i : ℕ) → f < factors → i < rank → by f i ≡ 1) where
  three : {f : ℕ} → f < factors → f < 3
  three {f} l = omega (arith, limits.few)

  six : {i : ℕ} → i < rank → i < 6
  six {i} l = omega (arith, limits.low)

  -- to multiply by 1 changes no code
  by_one : (f i : ℕ) → f < factors → i < rank → times (slice_index fields f) 1 (code column f i) ≡ code column f i
  by_one f i l b = let F = laws f (three l) in F.times_one (code column f i) (codes i (six b) f (three l))

  multiplied : (f i : ℕ) → f < factors → i < rank → times (slice_index fields f) (by f i) (code column f i) ≡ code column f i
  multiplied f i l b = ap (λ x. times (slice_index fields f) x (code column f i)) (ones f i l b) ∙ by_one f i l b

  one_factors : AreGroupFactors fields factors groups rank (λ f i. times (slice_index fields f) (by f i) (code column f i)) (λ _ _. 1)
  one_factors = record {
    nonzero = λ f g l b e. absurd (omega arith);
    leads = λ i b z n f l m. ap (times (slice_index fields f) 1) (multiplied f i l b) ∙ by_one f i l b
        ∙ one_below (code column f i) (subst (λ q. code column f i < q) (binary f (three l)) (codes i (six b) f (three l)))
        (λ o. m (multiplied f i l b ∙ o));
  }

  own_scaled : (n : ℕ) → n ≡ weighed (λ e. code column (e % factors) (e / factors)) (rank * factors) →
      IsScaledNumber fields groups factors rank (λ f i. times (slice_index fields f) (by f i) (code column f i)) n
  own_scaled n e = record {
    own = λ _ _. 1;
    own_code = λ f g l b. limits.scalars f l;
    own_factors = one_factors;
    number_is = e ∙ weighed_same (λ e. code column (e % factors) (e / factors))
        (λ e. times (slice_index fields (e % factors)) 1 (times (slice_index fields (e % factors)) (by (e % factors) (e / factors))
        (code column (e % factors) (e / factors)))) (rank * factors)
        (λ k l. (let f : k % factors < factors = mod-lt k (let o = limits.one in omega arith) in
        let i : k / factors < rank = row_below k factors rank (let o = limits.one in omega arith) l in
        sym (ap (times (slice_index fields (k % factors)) 1) (multiplied (k % factors) (k / factors) f i) ∙ by_one (k % factors) (k / factors) f i)));
  }

pub returns-then-scales_nothing : goal.returns-then-scales_nothing
returns-then-scales_nothing c e l m =
    own_scaled c.args.shape.now.fields c.args.shape.now.count c.args.shape.now.rank c.args.shape.now.size (slice_index c.args.groups.now) (code c.args.by.now)
    (slice_index_or c.args.columns.now e []) c.requires.limits (c.requires.columns e (omega (arith, c.requires.limits.sixteen))) c.laws.ensures
    (c.scales_nothing.ensures.binary c.if-scales_nothing.true) (c.scales_nothing.ensures.ones c.if-scales_nothing.true)
    (slice_index c.own_numbers.result e) (c.own_numbers.ensures e l m)
