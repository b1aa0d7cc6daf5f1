-- What words tell of the representations that they spell.
use Rattle.std.proofs.Common.{◌≡◌, ℕ, ◌<◌, sym, ◌∙◌, ap, subst, List, length, Option, Some, None}
use Rattle.std.specs.Prelude.{MatchOption}
use Rattle.std.specs.List.{slice_index}
use Rattle.matroid_theory.specs.Rep.{Rep, Shape, count, size, matrix, KeepsLimits, IsStandard}
use Rattle.matroid_theory.specs.Field.{IsFactors}
use Rattle.matroid_theory.specs.Matroid.{Agrees}
use Rattle.ask_formats.specs.Question.{CanBeSpelled, MayBeNamed, representation_words}
use Rattle.ask_formats.specs.Places.{AreReadAsFactors, AreReadAsColumns, IsReadAsEntry, IsReadAs}
use Rattle.ask_formats.proofs.Asked.{spelled_named}
use Rattle.ask_formats.proofs.Readings.{read_as, spelled_as, same_orders, same_layout, read_same}
use Rattle.ask_run.specs.Layouts.{IsLayout, LacksEntry, AreMatricesOf}
use Rattle.ask_run.specs.declared.layout.Layout.{Layout}

-- another answer where a value is there, and where none is
pub match_other : {X : Type 0} (o : Option X) (No Other : Type 0) (Yes Else : X → Type 0) → (No → Other) → ((x : X) → Yes x → Else x)
    → MatchOption o No Yes → MatchOption o Other Else
match_other None No Other Yes Else f g h = f h
match_other (Some x) No Other Yes Else f g h = g x h

module _ (words : List (List ℕ)) (M : Rep) (can : CanBeSpelled M) (spelled : words ≡ representation_words M) where
  read : IsReadAs words M
  read = read_as M can words spelled

  -- its factors are read
  pub factors_read : AreReadAsFactors words M.factors
  factors_read = read.orders

  module _ (orders : List ℕ) (h : AreReadAsFactors words orders) (fields : IsFactors orders) where
    pub factors_same : M.factors ≡ orders
    factors_same = same_orders words M.factors orders can.limits.fields fields read.orders h

    -- so are its numbers of columns and rows
    pub layout_read : (factors : ℕ) → factors ≡ length orders → AreReadAsColumns words factors (size M) M.rank
    layout_read factors e = subst (λ (n : ℕ). AreReadAsColumns words n (size M) M.rank) (ap (λ (fs : List ℕ). length fs) factors_same ∙ sym e) read.layout

    -- and no entry is missing
    pub no_lack : (layout : Layout) → IsLayout words layout → layout.factors ≡ length orders → (j : ℕ) → j < layout.columns →
        LacksEntry words orders layout j → ⊥
    no_lack layout is e j l lack =
        let n : count M ≡ layout.factors = ap (λ (fs : List ℕ). length fs) factors_same ∙ sym e in
        let both = same_layout words layout.factors (size M) layout.columns M.rank layout.rows is.some
        (subst (λ (n : ℕ). AreReadAsColumns words n (size M) M.rank) n read.layout) is.read in
        let f = lack.factor in
        let i = lack.row in
        let f' : f < count M = subst (λ (n : ℕ). f < n) (sym n) lack.factor_below in
        let i' : i < M.rank = subst (λ (n : ℕ). i < n) (sym both.1) lack.row_below in
        let j' : j < size M = subst (λ (n : ℕ). j < n) (sym both.0) l in
        lack.none (matrix M f i j) (subst (λ (fs : List ℕ). matrix M f i j < slice_index fs f) factors_same (can.limits.shaped.codes f i j f' i' j'))
        (subst (λ (n : ℕ). IsReadAsEntry words n layout.columns layout.rows f i j (matrix M f i j)) n
        (subst (λ (n : ℕ). IsReadAsEntry words (count M) n layout.rows f i j (matrix M f i j)) both.0
        (subst (λ (n : ℕ). IsReadAsEntry words (count M) (size M) n f i j (matrix M f i j)) both.1 (read.entries f i j f' i' j'))))

-- the matrices that are read are spelled
module _ (words : List (List ℕ)) (orders : List ℕ) (layout : Layout) (M : Rep) (limits : KeepsLimits M)
    (h : AreReadAsFactors words orders) (is : IsLayout words layout)
    (e : layout.factors ≡ length orders) (are : AreMatricesOf words orders layout M) where
  factors_are : M.factors ≡ orders
  factors_are = ap (λ (S : Shape). S.factors) are.shape_is

  rank_is : M.rank ≡ layout.rows
  rank_is = ap (λ (S : Shape). S.rank) are.shape_is

  size_is : size M ≡ layout.columns
  size_is = ap (λ (S : Shape). S.size) are.shape_is

  count_is : count M ≡ layout.factors
  count_is = ap (λ (fs : List ℕ). length fs) factors_are ∙ sym e

  pub matrices_spelled : CanBeSpelled M × (words ≡ representation_words M)
  matrices_spelled = (
    can,
    spelled_as M can words (record {
      orders = subst (AreReadAsFactors words) (sym factors_are) h;
      layout = subst (λ (n : ℕ). AreReadAsColumns words n (size M) M.rank) (sym count_is)
          (subst (λ (n : ℕ). AreReadAsColumns words layout.factors n M.rank) (sym size_is)
          (subst (λ (n : ℕ). AreReadAsColumns words layout.factors layout.columns n) (sym rank_is) is.read));
      entries = λ f i j l m n.
          subst (λ (k : ℕ). IsReadAsEntry words k (size M) M.rank f i j (matrix M f i j)) (sym count_is)
          (subst (λ (k : ℕ). IsReadAsEntry words layout.factors k M.rank f i j (matrix M f i j)) (sym size_is)
          (subst (λ (k : ℕ). IsReadAsEntry words layout.factors layout.columns k f i j (matrix M f i j)) (sym rank_is)
          (are.entries f i j (subst (λ (k : ℕ). f < k) count_is l) (subst (λ (k : ℕ). i < k) rank_is m) (subst (λ (k : ℕ). j < k) size_is n))));
    }),
  )
    where
      can : CanBeSpelled M
      can = record { limits = limits; some = subst (λ (n : ℕ). 0 < n) (sym size_is) is.columns_some }

-- words that spell one representation spell no other
pub only_one : (words : List (List ℕ)) (M N : Rep) → CanBeSpelled M → CanBeSpelled N → words ≡ representation_words M → words ≡ representation_words N → M ≡ N
only_one words M N c d p q = read_same words M N c d (read_as M c words p) (read_as N d words q)

-- which may be named where it is standard and its factors agree
pub named_alone : (words : List (List ℕ)) (M N : Rep) → CanBeSpelled N → words ≡ representation_words N → MayBeNamed M →
    words ≡ representation_words M → IsStandard N × Agrees N
named_alone words M N d q may p =
    let e : M ≡ N = only_one words M N (spelled_named M may) d p q in
    (subst IsStandard e may.standard, subst Agrees e may.agrees)
