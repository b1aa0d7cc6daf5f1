use Rattle.std.proofs.Common.{◌≡◌, ◌<◌, ◌≤◌, ◌∷◌, [], ℕ, List, length, slice_index, sym, ◌∙◌, ap, subst, arith}
use Rattle.matroid_theory.specs.Field.{IsOrder}
use Rattle.matroid_theory.specs.Rep.{count, order}
use Rattle.matrix_lemmas.proofs.FieldLaws.{field_laws, order_most}
use Rattle.form_states.proofs.Shapes.{by_three}
use Rattle.fast_form.proofs.start.shape_of.Goals as goal

more_than_one : (q : ℕ) → IsOrder q → 1 < q
more_than_one q o = let F = field_laws q o in F.two

few_codes : (q : ℕ) → IsOrder q → q < 16
few_codes q o = omega (arith, order_most q o)

pub returns-clause-shape : goal.returns-clause-shape
returns-clause-shape c = record {
  fields_are = λ f l. by_three (λ f. f < count c.args.rep.now → slice_index (c.field_at.result ∷ (c.field_at-2.result ∷ (c.field_at-3.result ∷ []))) f ≡
      order c.args.rep.now f)
      (λ m. c.field_at.ensures.field (subst (λ (w : List ℕ). 0 < length w) (sym c.factors-factors.ensures) m) ∙ ap (λ (w : List ℕ). slice_index w 0)
      c.factors-factors.ensures)
      (λ m. c.field_at-2.ensures.field (subst (λ (w : List ℕ). 1 < length w) (sym c.factors-factors.ensures) m) ∙ ap (λ (w : List ℕ). slice_index w 1)
      c.factors-factors.ensures)
      (λ m. c.field_at-3.ensures.field (subst (λ (w : List ℕ). 2 < length w) (sym c.factors-factors.ensures) m) ∙ ap (λ (w : List ℕ). slice_index w 2)
      c.factors-factors.ensures)
      f (let q : length c.factors-factors.result ≤ 3 = c.count.ensures.are_factors.few in let z : length c.factors-factors.result ≡ count c.args.rep.now = ap
      (λ (w : List ℕ). length w) c.factors-factors.ensures in omega arith) l;
  limits = record {
    scalars = by_three (λ f. 1 < slice_index (c.field_at.result ∷ (c.field_at-2.result ∷ (c.field_at-3.result ∷ []))) f)
        (more_than_one c.field_at.result c.field_at.ensures.is_order) (more_than_one c.field_at-2.result c.field_at-2.ensures.is_order)
        (more_than_one c.field_at-3.result c.field_at-3.ensures.is_order);
    small = by_three (λ f. slice_index (c.field_at.result ∷ (c.field_at-2.result ∷ (c.field_at-3.result ∷ []))) f < 16)
        (few_codes c.field_at.result c.field_at.ensures.is_order) (few_codes c.field_at-2.result c.field_at-2.ensures.is_order)
        (few_codes c.field_at-3.result c.field_at-3.ensures.is_order);
    one = subst (λ n. 1 ≤ n) (sym c.count.ensures.count) (let q : 0 < length c.factors-factors.result = c.count.ensures.are_factors.some in omega arith);
    few = subst (λ n. n ≤ 3) (sym c.count.ensures.count) c.count.ensures.are_factors.few;
    low = subst (λ n. n ≤ 6) (sym c.rank.ensures) c.size.ensures.is_rep.rank_most;
    sixteen = subst (λ n. n ≤ 16) (sym c.size.ensures.value) c.size.ensures.is_rep.size_most;
  };
  factors_are = c.count.ensures.count ∙ ap (λ (w : List ℕ). length w) c.factors-factors.ensures;
  rank_is = c.rank.ensures;
  total_is = c.size.ensures.value;
  is_rep = c.size.ensures.is_rep;
  standard = c.requires.standard;
  agrees = c.requires.agrees;
}
