use Rattle.std.proofs.Common.{◌≡◌, ℕ, ◌+◌, ◌*◌, ◌<◌, sym, ◌∙◌, ap, subst, List, length, slice_index, add-one}
use Rattle.matroid_theory.specs.Rep.{size, count, matrix}
use Rattle.matroid_laws.proofs.Followed.{size_followed}
use Rattle.dual_theory.specs.Dual.{dual_matrix}
use Rattle.dual_form.proofs.Columns.{dual_column_follows, next_codes}
use Rattle.dual_form.proofs.dual.standard_dual.Goals as goal

pub push_column-requires-clause-column : goal.push_column-requires-clause-column
push_column-requires-clause-column c =
    let h = c.loop-j.invariant in
    dual_column_follows c.args.rep.now c.loop-j.dual c.loop-j.j c.dual_column.result.items c.laws.ensures h.factors h.rank
    c.dual_column.ensures.rows c.dual_column.ensures.codes

pub loop-j-preserved : goal.loop-j-preserved
loop-j-preserved c =
    let M = c.args.rep.now in
    let P = c.loop-j.dual in
    let v = c.dual_column.result.items in
    let h = c.loop-j.invariant in
    let e = c.push_column.ensures in
    let n : count P ≡ count M = ap (λ (fs : List ℕ). length fs) h.factors in
    record {
      factors = ap (λ Q. Q.factors) e ∙ h.factors;
      rank = ap (λ Q. Q.rank) e ∙ h.rank;
      columns = ap size e ∙ size_followed P v ∙ sym (add-one (size P)) ∙ ap (λ (k : ℕ). k + 1) h.columns;
      codes = λ f i k l m o.
          ap (λ Q. matrix Q f i k) e
          ∙ next_codes P v (dual_matrix M) c.loop-j.j h.columns
          (λ f i k l m. h.codes f i k (subst (λ (x : ℕ). f < x) n l) (subst (λ (x : ℕ). i < x) h.rank m))
          (λ i f m l. ap (λ (x : ℕ). slice_index v (i * x + f)) n
          ∙ c.dual_column.ensures.codes i f (subst (λ (x : ℕ). i < x) h.rank m) (subst (λ (x : ℕ). f < x) n l))
          f i k (subst (λ (x : ℕ). f < x) (sym n) l) (subst (λ (x : ℕ). i < x) (sym h.rank) m) o;
    }
