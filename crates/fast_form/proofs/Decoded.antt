-- The columns with the numbers of a standard representation are its columns.
use Rattle.std.proofs.Common.{◌≡◌, inl, inr, ℕ, ◌+◌, ◌-◌, ◌*◌, ◌/◌, ◌%◌, ◌^◌, ◌<◌, ◌≤◌, List, [], ◌∷◌, ◌++◌, length, length-append, slice_index, slice_index_or, sym, ◌∙◌, ap, subst, arith}
use Rattle.std.proofs.lemmas.Bool.{cases_lt}
use Rattle.std.proofs.Math.Seq.{ext_get_or, get_or-append_seam}
use Rattle.std.proofs.Math.ListN.{get_or-append}
use Rattle.matroid_theory.specs.Rep.{Rep, Shape, shape, count, size, IsShaped, IsStandard, IsProductColumn}
use Rattle.matroid_theory.specs.Level.{followed_by}
use Rattle.matroid_laws.proofs.First.{same_column}
use Rattle.form_trails.specs.Numbers.{weighed}
use Rattle.form_search.specs.Search.{AreOfClass}
use Rattle.form_trails.proofs.Numbers.{value-weighed, digit_of}
use Rattle.form_trails.proofs.Columns.{column, column_length, column_digits, column_number}
use Rattle.form_search.proofs.Found.{numbers_at, class_length}

module _ (M : Rep) (numbers : List ℕ) (class : AreOfClass M numbers) where
  abbrev pub L : Rep
  L = class.member

  pub l_shaped : IsShaped L
  l_shaped = let x = class.equivalent in x.takes.shaped

  pub l_same : shape L ≡ shape M
  l_same = let x = class.equivalent in x.takes.same_shape

  module _ (j : ℕ) (j_below : j < length numbers) where
    pub p_below : M.rank + j < size M
    p_below = let n : length numbers ≡ size M - M.rank = class_length M numbers class in omega arith

    number_weighed : slice_index numbers j ≡ weighed (slice_index (column L (M.rank + j))) (M.rank * count M)
    number_weighed =
        ap (λ (w : List ℕ). slice_index w j) (sym class.numbers_are)
        ∙ numbers_at M L j (let n : length numbers ≡ size M - M.rank = class_length M numbers class in omega arith)
        ∙ sym (column_number M L l_shaped l_same (M.rank + j) p_below)
        ∙ value-weighed (column L (M.rank + j)) ∙ ap (weighed (slice_index (column L (M.rank + j)))) (column_length M L l_shaped l_same (M.rank + j) p_below)

    -- the digits of the number are the codes of the column
    pub decoded : (items : List ℕ) (width : ℕ) → width ≡ M.rank * count M → length items ≡ width →
        ((e : ℕ) → e < width → slice_index items e ≡ slice_index numbers j / 16 ^ (width - 1 - e) % 16) → items ≡ column L (M.rank + j)
    decoded items width z n h =
        ext_get_or 0 items (column L (M.rank + j)) (n ∙ z ∙ sym long)
        (λ e l. h e (omega arith) ∙ ap (λ v. v / 16 ^ (width - 1 - e) % 16) number_weighed
        ∙ ap (λ w. weighed (slice_index (column L (M.rank + j))) w / 16 ^ (width - 1 - e) % 16) (sym z)
        ∙ digit_of (slice_index (column L (M.rank + j))) width e (width - 1 - e) (λ k b. column_digits M L l_shaped l_same (M.rank + j) p_below k
        (subst (λ n. k < n) (sym long) (subst (λ n. k < n) z b))) (omega arith) (omega arith))
      where
        long : length (column L (M.rank + j)) ≡ M.rank * count M
        long = column_length M L l_shaped l_same (M.rank + j) p_below

-- the first columns of the member with these numbers
pub record IsPart (M : Rep) (numbers : List ℕ) (j : ℕ) (P : Rep) : Type 0 where
  pub class : AreOfClass M numbers
  pub factors_are : P.factors ≡ M.factors
  pub rank_is : P.rank ≡ M.rank
  pub size_is : size P ≡ M.rank + j
  pub same : (i : ℕ) → i < M.rank + j → slice_index_or P.columns i [] ≡ column class.member i

module _ (M : Rep) (numbers : List ℕ) (some : 0 < count M) where
  -- the unit columns
  pub unit_part : (U : Rep) → AreOfClass M numbers → IsShaped U → IsStandard U → shape U ≡ record { factors = M.factors; rank = M.rank; size = M.rank } →
      IsPart M numbers 0 U
  unit_part U class s t e = record {
    class = class;
    factors_are = ap (λ (S : Shape). S.factors) e;
    rank_is = ap (λ (S : Shape). S.rank) e;
    size_is = ap (λ (S : Shape). S.size) e ∙ omega arith;
    same = λ i l.
        (let i' : i < M.rank = omega arith in
        let room : M.rank ≤ size M = (let r = class.standard in let q : L'.rank ≤ size L' = r.room in let x = l_same M numbers class in
        let a : L'.rank ≡ M.rank = ap (λ (S : Shape). S.rank) x in let b : size L' ≡ size M = ap (λ (S : Shape). S.size) x in omega arith) in
        let iu : i < size U = (let a : size U ≡ M.rank = ap (λ (S : Shape). S.size) e in omega arith) in
        same_column M.rank (count M) (slice_index_or U.columns i []) (column L' i)
        (s.lengths i iu ∙ ap (λ (S : Shape). S.rank * length S.factors) e) (column_length M L' (l_shaped M numbers class) (l_same M numbers class) i
        (omega arith)) some
        (λ f j m n.
        ap (λ (S : Shape). slice_index (slice_index_or U.columns i []) (j * length S.factors + f)) (sym e)
        ∙ t.units f j i (subst (λ (S : Shape). f < length S.factors) (sym e) m) (subst (λ (S : Shape). j < S.rank) (sym e) n)
        (subst (λ (S : Shape). i < S.rank) (sym e) i')
        ∙ sym ((let r = class.standard in r.units f j i (subst (λ (S : Shape). f < length S.factors) (sym (l_same M numbers class)) m)
        (subst (λ (S : Shape). j < S.rank) (sym (l_same M numbers class)) n)
        (subst (λ (S : Shape). i < S.rank) (sym (l_same M numbers class)) i')))
        ∙ ap (λ (S : Shape). slice_index (column L' i) (j * length S.factors + f)) (l_same M numbers class)));
  }
    where
      L' : Rep
      L' = class.member

  module _ (j : ℕ) (P : Rep) (w : IsPart M numbers j P) (b : j < length numbers) (items : List ℕ) (width : ℕ) (z : width ≡ M.rank * count M)
      (n : length items ≡ width)
      (digits : (e : ℕ) → e < width → slice_index items e ≡ slice_index numbers j / 16 ^ (width - 1 - e) % 16) where
    is_column : items ≡ column (let c = w.class in c.member) (M.rank + j)
    is_column = decoded M numbers w.class j b items width z n digits

    -- the column fits
    pub part_column : IsProductColumn P.factors P.rank items
    part_column = subst (λ (fs : List ℕ). IsProductColumn fs P.rank items) (sym w.factors_are)
        (subst (λ (r : ℕ). IsProductColumn M.factors r items) (sym w.rank_is) (record {
          rows = n ∙ z;
          codes = λ i f l m.
              subst (λ (xs : List ℕ). slice_index xs (i * count M + f) < slice_index M.factors f) (sym is_column)
              (subst (λ (S : Shape). slice_index (column L' (M.rank + j)) (i * length S.factors + f) < slice_index S.factors f) (l_same M numbers w.class)
              (let s = l_shaped M numbers w.class in s.codes f i (M.rank + j) (subst (λ (S : Shape). f < length S.factors) (sym (l_same M numbers w.class)) m)
              (subst (λ (S : Shape). i < S.rank) (sym (l_same M numbers w.class)) l)
              (subst (λ (S : Shape). M.rank + j < S.size) (sym (l_same M numbers w.class))
              (p_below M numbers w.class j b))));
        }))
      where
        L' : Rep
        L' = let c = w.class in c.member

    pub part_room : size P < size M
    part_room = let a : size P ≡ M.rank + j = w.size_is in let q : M.rank + j < size M = p_below M numbers w.class j b in omega arith

    -- and is the next
    pub pushed_part : IsPart M numbers (j + 1) (followed_by P items)
    pushed_part = record {
      class = w.class;
      factors_are = w.factors_are;
      rank_is = w.rank_is;
      size_is = (let a : size P ≡ M.rank + j = w.size_is in let q : length (P.columns ++ items ∷ []) ≡ length P.columns + 1 = length-append P.columns
          (items ∷ []) in omega arith);
      same = λ i l. elim (cases_lt i (size P)) [
        | inl m ↦ get_or-append P.columns (items ∷ []) [] i m ∙ w.same i (let a : size P ≡ M.rank + j = w.size_is in omega arith)
        | inr m ↦ (let a : size P ≡ M.rank + j = w.size_is in let e : size P ≡ i = omega arith in let e' : M.rank + j ≡ i = omega arith in
            ap (λ k. slice_index_or (P.columns ++ items ∷ []) k []) (sym e) ∙ get_or-append_seam P.columns items [] [] ∙ is_column ∙ ap
            (column (let c = w.class in c.member)) e')
      ];
    }

  -- all of it is the member
  pub whole_part : (j : ℕ) (P : Rep) → IsPart M numbers j P → j ≡ length numbers → (class : AreOfClass M numbers) × (P ≡ class.member)
  whole_part j P w e = (w.class, λ t. record { factors = factors t; rank = rank t; columns = columns t })
    where
      L' : Rep
      L' = let c = w.class in c.member

      factors : P.factors ≡ L'.factors
      factors = w.factors_are ∙ ap (λ (S : Shape). S.factors) (sym (l_same M numbers w.class))

      rank : P.rank ≡ L'.rank
      rank = w.rank_is ∙ ap (λ (S : Shape). S.rank) (sym (l_same M numbers w.class))

      columns : P.columns ≡ L'.columns
      columns = ext_get_or [] P.columns L'.columns
          (let a : size P ≡ M.rank + j = w.size_is in let n : length numbers ≡ size M - M.rank = class_length M numbers w.class in
          let q : size L' ≡ size M = ap (λ (S : Shape). S.size) (l_same M numbers w.class) in
          let r : L'.rank ≡ M.rank = ap (λ (S : Shape). S.rank) (l_same M numbers w.class) in
          let o : L'.rank ≤ size L' = (let c = w.class in let t = c.standard in t.room) in omega arith)
          (λ i l. w.same i (let a : size P ≡ M.rank + j = w.size_is in omega arith))
