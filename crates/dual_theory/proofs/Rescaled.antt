-- A standard matrix with its rows and columns scaled: a column's first nonzero entry, and a row's after the unit columns, can be made 1.
use Rattle.std.proofs.Common.{◌≡◌, ◌≢◌, ℕ, ◌<◌, ◌≤◌, refl, sym, ◌∙◌, ap, subst, arith, cond, true, false, inl, inr, length}
use Rattle.std.specs.Bool.{◌==◌}
use Rattle.std.proofs.lemmas.Bool.{cases_lt, cases_eq}
use Rattle.matroid_theory.specs.Field.{times, inverse, raised, IsField}
use Rattle.matroid_theory.specs.Matrix.{combination, unit}
use Rattle.matroid_theory.specs.Rep.{Rep, count, size, order, matrix, IsStandard}
use Rattle.matroid_theory.specs.Minor.{Matroid}
use Rattle.matroid_theory.specs.declared.Mode.TheVariants.{Linear}
use Rattle.matrix_lemmas.proofs.FieldLaws.{field_laws}
use Rattle.matrix_lemmas.proofs.Sums.{sum_same, times_zero, combination-unit, same_number, other_number}
use Rattle.matrix_lemmas.proofs.Frobenius.{inverse_nonzero}
use Rattle.matroid_laws.proofs.Built.{standard_each}
use Rattle.matroid_laws.proofs.Standard.{standard_by}
use Rattle.matroid_laws.proofs.Rest.{units_basis}
use Rattle.dual_theory.specs.Represented.{Represents, AgreeBefore}
use Rattle.dual_theory.proofs.Representations.{represents_moved}

-- L is M, of one factor, with the scalars s: entry i, k times s k and divided by s i
pub record Rescaled (q : ℕ) (N : Matroid) (M : Rep) (s : ℕ → ℕ) : Type 0 where
  pub rep : Rep
  pub standard : IsStandard rep
  pub represents : Represents q N rep
  pub entries : (i k : ℕ) → i < M.rank → k < size M →
      matrix rep 0 i k ≡ times (order M 0) (s k) (times (order M 0) (inverse (order M 0) (s i)) (matrix M 0 i k))

pub rescaled : (q : ℕ) (N : Matroid) (M : Rep) (s : ℕ → ℕ) → Represents q N M → IsStandard M →
    ((k : ℕ) → k < size M → s k < order M 0) → ((k : ℕ) → k < size M → s k ≢ 0) → Rescaled q N M s
rescaled q N M s p standard codes nonzero =
    let (L, m, st, valid, takes, labels, scalars, powers) = standard_each Linear M (λ j. j) (λ j. j) (λ _. s) (λ _. 0) p.shaped some
    (record { below = λ j l. l; inverse_below = λ j l. l; there = λ j l. refl; back = λ j l. refl })
    (λ f l. units_basis M p.shaped standard f l)
    (λ f j l m. subst (λ f. s j < order M f) (zeroth f l) (codes j m)) (λ f j _ m. nonzero j m)
    (λ f l. let F = field_laws (order M f) (p.shaped.orders f l) in F.degree_positive) (λ f _. refl) in
    record {
      rep = L;
      standard = st;
      represents = represents_moved q N M L m p valid takes labels;
      entries = λ i k l n.
          standard_by Linear M L m p.shaped st valid takes 0 some k n (λ i. matrix M 0 i k)
          (λ i l. subst (λ (u : ℕ → ℕ). combination (order M 0) M.rank (λ i l. matrix M 0 i (u l))
          (λ i. matrix M 0 i k) i ≡ matrix M 0 i (u k)) (sym labels) (own k n i l)) i l
          ∙ (λ t. times (order M 0) (scalars t 0 k)
          (times (order M 0) (inverse (order M 0) (scalars t 0 i)) (raised (order M 0) (powers t 0) (matrix M 0 i k))));
    }
  where
    some : 0 < count M
    some = let one : count M ≡ 1 = ap (λ fs. length fs) p.one_factor in omega arith

    zeroth : (f : ℕ) → f < count M → 0 ≡ f
    zeroth f l = let one : count M ≡ 1 = ap (λ fs. length fs) p.one_factor in omega arith

    own : (k : ℕ) → k < size M → (i : ℕ) → i < M.rank → combination (order M 0) M.rank (matrix M 0) (λ i. matrix M 0 i k) i ≡ matrix M 0 i k
    own k n i l =
        let F = field_laws (order M 0) (p.shaped.orders 0 some) in
        sum_same (order M 0) F M.rank (λ j. times (order M 0) (matrix M 0 i j) (matrix M 0 j k))
        (λ j. times (order M 0) (unit i j) (matrix M 0 j k))
        (λ j m. ap (λ x. times (order M 0) x (matrix M 0 j k)) (standard.units 0 i j some l m))
        ∙ combination-unit (order M 0) F M.rank (λ j. matrix M 0 j k) i l (p.shaped.codes 0 i k some l n)

-- ---- entry i, j made 1

abbrev only : ℕ → ℕ → ℕ → ℕ
only at x k = cond (k == at) x 1

only_own : (at x : ℕ) → only at x at ≡ x
only_own at x = ap (λ b. cond b x 1) (same_number at)

only_other : (at x k : ℕ) → k ≢ at → only at x k ≡ 1
only_other at x k ne = ap (λ b. cond b x 1) (other_number k at ne)

module _ (q : ℕ) (N : Matroid) (M : Rep) (p : Represents q N M) (standard : IsStandard M) (i j : ℕ) (i_below : i < M.rank)
    (past : M.rank ≤ j) (j_below : j < size M) (nonzero : matrix M 0 i j ≢ 0) where
  abbrev o : ℕ
  o = order M 0

  some : 0 < count M
  some = let one : count M ≡ 1 = ap (λ fs. length fs) p.one_factor in omega arith

  F : IsField o
  F = field_laws o (p.shaped.orders 0 some)

  code : (l k : ℕ) → l < M.rank → k < size M → matrix M 0 l k < o
  code l k m n = p.shaped.codes 0 l k some m n

  abbrev x : ℕ
  x = matrix M 0 i j

  x_code : x < o
  x_code = code i j i_below j_below

  inverse_one : inverse o 1 ≡ 1
  inverse_one = let G = F in sym (G.times_one (inverse o 1) (G.inverse_below 1 G.two)) ∙ G.times_inverse 1 G.two (λ e. absurd (omega arith))

  only_code : (at y k : ℕ) → y < o → only at y k < o
  only_code at y k l = let G = F in elim (k == at) as (λ b. cond b y 1 < o) [ true ↦ l | false ↦ G.two ]

  only_nonzero : (at y k : ℕ) → y ≢ 0 → only at y k ≢ 0
  only_nonzero at y k ne = elim (k == at) as (λ b. cond b y 1 ≢ 0) [ true ↦ ne | false ↦ (λ e. absurd (omega arith)) ]

  scaled_by : (a b y : ℕ) → a ≡ 1 → b ≡ 1 → y < o → times o a (times o (inverse o b) y) ≡ y
  scaled_by a b y e d l = let G = F in (λ t. times o (e t) (times o (inverse o (d t)) y)) ∙ G.times_one _ (G.times_below _ _)
      ∙ ap (λ z. times o z y) inverse_one ∙ G.times_one y l

  scaled_zero : (a b y : ℕ) → y ≡ 0 → times o a (times o (inverse o b) y) ≡ y
  scaled_zero a b y e = ap (λ y. times o a (times o (inverse o b) y)) e ∙ ap (times o a) (times_zero o F (inverse o b)) ∙ times_zero o F a ∙ sym e

  abbrev Normal : Type 0
  Normal = (L : Rep) × IsStandard L × Represents q N L × AgreeBefore M L i j × (matrix L 0 i j ≡ 1)

  -- the entries above it in its column are 0: the column is divided by it
  pub lead_made_one : ((l : ℕ) → l < i → matrix M 0 l j ≡ 0) → Normal
  lead_made_one z =
      let r = rescaled q N M (only j (inverse o x)) p standard
      (λ k _. only_code j (inverse o x) k (let G = F in G.inverse_below x x_code))
      (λ k _. only_nonzero j (inverse o x) k (inverse_nonzero o F x x_code nonzero)) in (
        r.rep,
        r.standard,
        r.represents,
        (λ l k m n c. sym (r.entries l k m n ∙ elim c [
          | inl b ↦ scaled_by _ _ (matrix M 0 l k) (only_other j (inverse o x) k (λ e. absurd (omega arith)))
              (only_other j (inverse o x) l (λ e. absurd (omega arith))) (code l k m n)
          | inr d ↦ scaled_zero _ _ (matrix M 0 l k) (ap (matrix M 0 l) d.0 ∙ z l d.1)
        ])),
        r.entries i j i_below j_below
            ∙ (λ t. times o (only_own j (inverse o x) t) (times o (inverse o (only_other j (inverse o x) i (λ e. absurd (omega arith)) t)) x))
            ∙ (let G = F in ap (times o (inverse o x)) (ap (λ z. times o z x) inverse_one ∙ G.times_one x x_code)
            ∙ G.times_comm (inverse o x) x ∙ G.times_inverse x x_code nonzero),
      )

  -- the entries before it in its row, after the unit columns, are 0: the row is divided by it
  pub first_made_one : ((k : ℕ) → M.rank ≤ k → k < j → matrix M 0 i k ≡ 0) → Normal
  first_made_one z =
      let r = rescaled q N M (only i x) p standard (λ k _. only_code i x k x_code) (λ k _. only_nonzero i x k nonzero) in (
        r.rep,
        r.standard,
        r.represents,
        (λ l k m n c. elim (cases_lt k M.rank) [
          | inl b ↦ standard.units 0 l k some m b ∙ sym (unit_over r.rep r.standard r.represents l k m b)
          | inr g ↦ sym (r.entries l k m n ∙ elim (cases_eq l i) [
            | inr ne ↦ scaled_by _ _ (matrix M 0 l k) (only_other i x k (λ e. absurd (omega arith))) (only_other i x l ne) (code l k m n)
            | inl e ↦ scaled_zero _ _ (matrix M 0 l k) (ap (λ l. matrix M 0 l k) e ∙ elim c [ inl b ↦ z k g b | inr d ↦ (let b = d.1 in absurd (omega arith)) ])
          ])
        ]),
        r.entries i j i_below j_below
            ∙ (λ t. times o (only_other i x j (λ e. absurd (omega arith)) t) (times o (inverse o (only_own i x t)) x))
            ∙ (let G = F in G.times_one _ (G.times_below _ _) ∙ G.times_comm (inverse o x) x ∙ G.times_inverse x x_code nonzero),
      )
    where
      unit_over : (L : Rep) → IsStandard L → Represents q N L → (l k : ℕ) → l < M.rank → k < M.rank → matrix L 0 l k ≡ unit l k
      unit_over L s r l k m b =
          let one : count L ≡ 1 = ap (λ fs. length fs) r.one_factor in
          let e : M.rank ≡ L.rank = p.ranks ∙ sym r.ranks in
          s.units 0 l k (omega arith) (omega arith) (omega arith)
