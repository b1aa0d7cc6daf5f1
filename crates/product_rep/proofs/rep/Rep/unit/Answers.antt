use Rattle.std.proofs.Common.{◌≡◌, ◌<◌, ◌+◌, ◌*◌, ℕ, length, List, sym, ◌∙◌, ap, subst, arith, Bool, true, false, if◌then◌else◌, inl, inr, add-one}
use Rattle.std.specs.Bool.{◌==◌}
use Rattle.std.specs.List.{slice_index}
use Rattle.std.proofs.lemmas.Bool.{cases_lt}
use Rattle.matroid_theory.specs.Field.{IsOrder, IsFactors}
use Rattle.matroid_theory.specs.Matrix.{unit}
use Rattle.matroid_theory.specs.Rep.{Rep, size, count, matrix, IsProductColumn}
use Rattle.matroid_theory.specs.Level.{followed_by}
use Rattle.matrix_lemmas.proofs.FieldLaws.{field_laws}
use Rattle.matroid_laws.proofs.Followed.{matrix_before, matrix_last, size_followed}
use Rattle.product_rep.proofs.rep.Rep.unit.Goals as goal

-- the entries of the identity matrix are below the order of each field
unit_below : (q i j : ℕ) → IsOrder q → unit i j < q
unit_below q i j o = bit (i == j)
  where
    bit : (b : Bool) → (if b then 1 else 0) < q
    bit true = (field_laws q o).two
    bit false = let h : 1 < q = (field_laws q o).two in omega arith

-- a unit column of all factors may follow
is_column : (factors : List ℕ) (r c j : ℕ) (v : List ℕ) → IsFactors factors → c ≡ length factors → length v ≡ r * c →
    ((i f : ℕ) → i < r → f < c → slice_index v (i * c + f) ≡ unit i j) → IsProductColumn factors r v
is_column factors r c j v h e l u = record {
  rows = l ∙ ap (λ (n : ℕ). r * n) e;
  codes = λ i f m o. subst (λ (x : ℕ). x < slice_index factors f) (sym (at i f m o)) (unit_below (slice_index factors f) i j (h.fields f o));
}
  where
    at : (i f : ℕ) → i < r → f < length factors → slice_index v (i * length factors + f) ≡ unit i j
    at = subst (λ (n : ℕ). (i f : ℕ) → i < r → f < n → slice_index v (i * n + f) ≡ unit i j) e u

pub push_column-requires-clause-column : goal.push_column-requires-clause-column
push_column-requires-clause-column c =
    let h = c.loop-j.invariant in
    subst (λ (r : ℕ). IsProductColumn c.loop-j.rep.factors r c.unit_column.result.items) (sym h.rank)
    (is_column c.loop-j.rep.factors c.args.rank c.count-count.result c.loop-j.j _ (subst IsFactors (sym h.factors) c.count-count.ensures.are_factors)
    (c.count-count.ensures.count ∙ ap (λ (fs : List ℕ). length fs) (sym h.factors)) c.unit_column.ensures.rows c.unit_column.ensures.codes)

-- one more unit column
step : (P : Rep) (v : List ℕ) (j : ℕ) → size P ≡ j → ((f i k : ℕ) → f < count P → i < P.rank → k < j → matrix P f i k ≡ unit i k) →
    ((i f : ℕ) → i < P.rank → f < count P → slice_index v (i * count P + f) ≡ unit i j) → (f i k : ℕ) → f < count P → i < P.rank →
    k < j + 1 → matrix (followed_by P v) f i k ≡ unit i k
step P v j s u h f i k l m o =
    elim (cases_lt k j) [
      | inl b ↦ matrix_before P v f i k (omega arith) ∙ u f i k l m b
      | inr g ↦ (let e : k ≡ size P = omega arith in
          ap (λ (k : ℕ). matrix (followed_by P v) f i k) e ∙ matrix_last P v f i ∙ h i f m l ∙ ap (λ (k : ℕ). unit i k) (sym s ∙ sym e))
    ]

pub loop-j-preserved : goal.loop-j-preserved
loop-j-preserved c =
    let h = c.loop-j.invariant in
    let e = c.push_column.ensures in
    let n : c.count-count.result ≡ count c.loop-j.rep = c.count-count.ensures.count ∙ ap (λ (fs : List ℕ). length fs) (sym h.factors) in
    record {
      factors = ap (λ P. P.factors) e ∙ h.factors;
      rank = ap (λ P. P.rank) e ∙ h.rank;
      size = ap size e ∙ size_followed c.loop-j.rep c.unit_column.result.items ∙ sym (add-one (size c.loop-j.rep)) ∙ ap (λ (k : ℕ). k + 1) h.size;
      units = subst (λ P. (f i k : ℕ) → f < count P → i < P.rank → k < c.loop-j.j + 1 → matrix P f i k ≡ unit i k) (sym e)
          (step c.loop-j.rep c.unit_column.result.items c.loop-j.j h.size h.units
          (subst (λ (m : ℕ). (i f : ℕ) → i < c.loop-j.rep.rank → f < m → slice_index c.unit_column.result.items (i * m + f) ≡ unit i c.loop-j.j) n
          (subst (λ (r : ℕ). (i f : ℕ) → i < r → f < c.count-count.result →
          slice_index c.unit_column.result.items (i * c.count-count.result + f) ≡ unit i c.loop-j.j)
          (sym h.rank) c.unit_column.ensures.codes)));
    }
