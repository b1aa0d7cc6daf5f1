use Rattle.std.proofs.Common.{◌≡◌, ◌<◌, ◌*◌, ◌+◌, ℕ, ◌≤◌, List, length, replicate, sym, ◌∙◌, ap, subst, slice_index}
use Rattle.std.proofs.lemmas.List.{get_or-replicate, length-replicate}
use Rattle.matroid_theory.specs.Field.{IsOrder, degree}
use Rattle.matroid_theory.specs.Matrix.{unit}
use Rattle.matrix_lemmas.proofs.Dimension.{unit_code}
use Rattle.matrix_lemmas.proofs.FieldLaws.{field_laws}
use Rattle.matroid_theory.specs.Rep.{Rep, size, count}
use Rattle.product_rep.proofs.PiecesLemmas.{place_below}
use Rattle.product_rep.proofs.IdentityLemmas.{identity_valid, identity_takes}
use Rattle.product_rep.proofs.moves.Move.identity.Goals as goal

-- the codes of the unit matrix, the power 0 and the code 1
unit_below : (q x i k : ℕ) → IsOrder q → x ≡ unit i k → x < q
unit_below q x i k o e = subst (λ (x : ℕ). x < q) (sym e) (unit_code q (field_laws q o) i k)

power_below : (q x : ℕ) → IsOrder q → x ≡ 0 → x < degree q
power_below q x o e = subst (λ (x : ℕ). x < degree q) (sym e) (field_laws q o).degree_positive

one_below : (q x : ℕ) → IsOrder q → x ≡ 1 → x < q
one_below q x o e = subst (λ (x : ℕ). x < q) (sym e) (field_laws q o).two

pub invariant_of-result : goal.invariant_of-result
invariant_of-result c =
    let e : c.count-count.result ≡ length c.factors-factors.result = c.count-count.ensures.count in
    let h = c.size-size.ensures.is_rep in
    record {
      fields = c.count-count.ensures.are_factors;
      rank_positive = subst (λ (r : ℕ). 0 < r) (sym c.rank-rank.ensures) h.rank_positive;
      rank_most = subst (λ (r : ℕ). r ≤ 6) (sym c.rank-rank.ensures) h.rank_most;
      size_most = subst (λ (n : ℕ). n ≤ 16) (sym c.size-size.ensures.value) h.size_most;
      rows = c.unit_rows.ensures.length ∙ (λ u. e u * c.rank-rank.result * c.rank-rank.result);
      back = c.unit_rows-2.ensures.length ∙ (λ u. e u * c.rank-rank.result * c.rank-rank.result);
      scalars = ap (λ (xs : List ℕ). length xs) c.ones.ensures ∙ length-replicate (c.count-count.result * c.size-size.result) 1
          ∙ (λ u. e u * c.size-size.result);
      labels = c.numbers.ensures.length;
      powers = ap (λ (xs : List ℕ). length xs) c.zeros.ensures ∙ length-replicate c.count-count.result 0 ∙ e;
      powers_below = λ f l. power_below (slice_index c.factors-factors.result f) _ (c.count-count.ensures.are_factors.fields f l)
          (ap (λ (xs : List ℕ). slice_index xs f) c.zeros.ensures ∙ get_or-replicate c.count-count.result f 0 0 (subst (λ (n : ℕ). f < n) (sym e) l));
      row_codes = λ f i k l m o. unit_below (slice_index c.factors-factors.result f) _ i k
          (c.count-count.ensures.are_factors.fields f l) (c.unit_rows.ensures.codes f i k (subst (λ (n : ℕ). f < n) (sym e) l) m o);
      back_codes = λ f i k l m o. unit_below (slice_index c.factors-factors.result f) _ i k
          (c.count-count.ensures.are_factors.fields f l) (c.unit_rows-2.ensures.codes f i k (subst (λ (n : ℕ). f < n) (sym e) l) m o);
      scalar_codes = λ f j l m. one_below (slice_index c.factors-factors.result f) _ (c.count-count.ensures.are_factors.fields f l)
          (ap (λ (xs : List ℕ). slice_index xs (f * c.size-size.result + j)) c.ones.ensures
          ∙ get_or-replicate (c.count-count.result * c.size-size.result) (f * c.size-size.result + j) 1 0
          (place_below c.count-count.result c.size-size.result f j (subst (λ (n : ℕ). f < n) (sym e) l) m));
      label_columns = λ j l. subst (λ (x : ℕ). x < c.size-size.result) (sym (c.numbers.ensures.entries j l)) l;
    }

-- what the function has, in the terms of the representation
powers_are : (M : Rep) (c : ℕ) (xs : List ℕ) → c ≡ count M → xs ≡ replicate c 0 → (f : ℕ) → f < count M → slice_index xs f ≡ 0
powers_are M c xs ce e f l = ap (λ (xs : List ℕ). slice_index xs f) e ∙ get_or-replicate c f 0 0 (subst (λ (x : ℕ). f < x) (sym ce) l)

rows_are : (M : Rep) (c r : ℕ) (xs : List ℕ) → c ≡ count M → r ≡ M.rank →
    ((f i k : ℕ) → f < c → i < r → k < r → slice_index xs ((f * r + i) * r + k) ≡ unit i k) → (f i k : ℕ) → f < count M → i < M.rank →
    k < M.rank → slice_index xs ((f * r + i) * r + k) ≡ unit i k
rows_are M c r xs ce re h f i k l m o = h f i k (subst (λ (x : ℕ). f < x) (sym ce) l) (subst (λ (x : ℕ). i < x) (sym re) m)
    (subst (λ (x : ℕ). k < x) (sym re) o)

scalars_are : (M : Rep) (c n : ℕ) (xs : List ℕ) → c ≡ count M → n ≡ size M → xs ≡ replicate (c * n) 1 → (f j : ℕ) → f < count M →
    j < size M → slice_index xs (f * n + j) ≡ 1
scalars_are M c n xs ce ne e f j l m =
    ap (λ (xs : List ℕ). slice_index xs (f * n + j)) e
    ∙ get_or-replicate (c * n) (f * n + j) 1 0 (place_below c n f j (subst (λ (x : ℕ). f < x) (sym ce) l) (subst (λ (x : ℕ). j < x) (sym ne) m))

labels_are : (M : Rep) (n : ℕ) (xs : List ℕ) → n ≡ size M → ((j : ℕ) → j < n → slice_index xs j ≡ j) → (j : ℕ) → j < size M → slice_index xs j ≡ j
labels_are M n xs ne h j l = h j (subst (λ (x : ℕ). j < x) (sym ne) l)

pub returns-clause-valid : goal.returns-clause-valid
returns-clause-valid c mode =
    let e : c.count-count.result ≡ count c.args.rep.now = c.count-count.ensures.count ∙ ap (λ (fs : List ℕ). length fs) c.factors-factors.ensures in
    identity_valid c.args.rep.now
    (record {
      shape = record { factors = c.factors-factors.result; rank = c.rank-rank.result; size = c.size-size.result };
      powers =
          c.zeros.result.items;
      rows = c.unit_rows.result.items;
      back = c.unit_rows-2.result.items;
      scalars =
          c.ones.result.items;
      labels = c.numbers.result.items;
    })
    c.size-size.ensures.is_rep
    (rows_are c.args.rep.now c.count-count.result c.rank-rank.result c.unit_rows.result.items e c.rank-rank.ensures c.unit_rows.ensures.codes)
    (scalars_are c.args.rep.now c.count-count.result c.size-size.result c.ones.result.items e c.size-size.ensures.value c.ones.ensures)
    (labels_are c.args.rep.now c.size-size.result c.numbers.result.items c.size-size.ensures.value c.numbers.ensures.entries)
    mode (powers_are c.args.rep.now c.count-count.result c.zeros.result.items e c.zeros.ensures)
    (rows_are c.args.rep.now c.count-count.result c.rank-rank.result c.unit_rows-2.result.items e c.rank-rank.ensures c.unit_rows-2.ensures.codes)
    (c.numbers.ensures.length ∙ c.size-size.ensures.value)

pub returns-clause-takes : goal.returns-clause-takes
returns-clause-takes c =
    let e : c.count-count.result ≡ count c.args.rep.now = c.count-count.ensures.count ∙ ap (λ (fs : List ℕ). length fs) c.factors-factors.ensures in
    identity_takes c.args.rep.now
    (record {
      shape = record { factors = c.factors-factors.result; rank = c.rank-rank.result; size = c.size-size.result };
      powers =
          c.zeros.result.items;
      rows = c.unit_rows.result.items;
      back = c.unit_rows-2.result.items;
      scalars =
          c.ones.result.items;
      labels = c.numbers.result.items;
    })
    c.size-size.ensures.is_rep
    (rows_are c.args.rep.now c.count-count.result c.rank-rank.result c.unit_rows.result.items e c.rank-rank.ensures c.unit_rows.ensures.codes)
    (scalars_are c.args.rep.now c.count-count.result c.size-size.result c.ones.result.items e c.size-size.ensures.value c.ones.ensures)
    (labels_are c.args.rep.now c.size-size.result c.numbers.result.items c.size-size.ensures.value c.numbers.ensures.entries)
    (powers_are c.args.rep.now c.count-count.result c.zeros.result.items e c.zeros.ensures)

pub returns-clause-entries : goal.returns-clause-entries
returns-clause-entries c =
    let e : c.count-count.result ≡ count c.args.rep.now = c.count-count.ensures.count ∙ ap (λ (fs : List ℕ). length fs) c.factors-factors.ensures in
    record {
      powers = powers_are c.args.rep.now c.count-count.result c.zeros.result.items e c.zeros.ensures;
      rows = rows_are c.args.rep.now c.count-count.result c.rank-rank.result c.unit_rows.result.items e c.rank-rank.ensures c.unit_rows.ensures.codes;
      back = rows_are c.args.rep.now c.count-count.result c.rank-rank.result c.unit_rows-2.result.items e c.rank-rank.ensures c.unit_rows-2.ensures.codes;
      scalars = scalars_are c.args.rep.now c.count-count.result c.size-size.result c.ones.result.items e c.size-size.ensures.value c.ones.ensures;
      labels = labels_are c.args.rep.now c.size-size.result c.numbers.result.items c.size-size.ensures.value c.numbers.ensures.entries;
    }
