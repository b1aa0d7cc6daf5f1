-- How the search fills in one entry after the other.
use Rattle.std.proofs.Common.{◌≡◌, ◌≢◌, ◌⊎◌, ℕ, suc, ◌<◌, refl, sym, ◌∙◌, ap, subst, arith, inl, inr, length}
use Rattle.std.specs.declared.cmp.Ordering.{Ordering}
use Rattle.std.specs.declared.cmp.Ordering.TheVariants.{Less, Equal, Greater}
use Rattle.std.proofs.lemmas.Bool.{cases_lt}
use Rattle.matroid_theory.specs.Rep.{Rep, shape, count, size, matrix, IsStandard}
use Rattle.matroid_theory.specs.Minor.{Matroid}
use Rattle.matroid_theory.specs.Order.{rep_cmp}
use Rattle.matroid_laws.proofs.First.{same_codes}
use Rattle.matroid_laws.proofs.Levels.{rep_cmp-reversed}
use Rattle.std.specs.Ordering.{ordering_reverse}
use Rattle.dual_theory.specs.Represented.{Represents, IsLeastOver, AgreeBefore, IsStandardOver, Completes, IsLeastCompletion}
use Rattle.dual_theory.proofs.Searches.{same_shape}
use Rattle.dual_theory.proofs.Entries.{smaller_entry}

not_above : (r : Ordering) → r ≡ Less → r ≢ Greater
not_above Less e h = cc
not_above Equal e h = cc
not_above Greater e h = cc

pub over_same : (q : ℕ) (N : Matroid) (M L : Rep) → IsStandardOver q N M → IsStandardOver q N L → shape L ≡ shape M
over_same q N M L a b = λ t. record { factors = (b.one_factor ∙ sym a.one_factor) t; rank = (b.ranks ∙ sym a.ranks) t; size = (b.sizes ∙ sym a.sizes) t }

module _ (q : ℕ) (N : Matroid) (M : Rep) (over : IsStandardOver q N M) where
  some : 0 < count M
  some = let one : count M ≡ 1 = ap (λ fs. length fs) over.one_factor in omega arith

  -- all standard matrices begin with the unit columns
  begins_all : (L : Rep) → Represents q N L → IsStandard L → AgreeBefore M L 0 M.rank
  begins_all L p s l k m n c = elim c [
    | inl b ↦ (let t = over.standard in t.units 0 l k some m b)
        ∙ sym (s.units 0 l k (subst (λ S. 0 < length S.factors) (sym e) some) (subst (λ S. l < S.rank) (sym e) m)
        (subst (λ S. k < S.rank) (sym e) b))
    | inr d ↦ (let b = d.1 in absurd (omega arith))
  ]
    where
      e : shape L ≡ shape M
      e = same_shape q N M L over p

  -- so the least completion from the first entry is the least of all
  pub least_from_start : (L : Rep) → IsLeastCompletion q N M 0 M.rank L → IsLeastOver q N L
  least_from_start L h = record {
    represents = (let c = h.completes in c.represents);
    standard = (let c = h.completes in c.standard);
    least = λ K p s. h.least K (record { represents = p; standard = s; begins = begins_all K p s });
  }

  pub none_from_start : ((L : Rep) → ¬ (Completes q N M 0 M.rank L)) → (L : Rep) → Represents q N L → ¬ (IsStandard L)
  none_from_start h L p s = h L (record { represents = p; standard = s; begins = begins_all L p s })

  -- after the last row of a column comes the first of the next
  pub next_column : (j : ℕ) (L : Rep) → Completes q N M M.rank j L → Completes q N M 0 (suc j) L
  next_column j L c = record {
    represents = c.represents;
    standard = c.standard;
    begins = λ l k m n o. c.begins l k m n (elim o [
      | inl b ↦ elim (cases_lt k j) [ inl d ↦ inl d | inr g ↦ inr ((let z : k ≡ j = omega arith in z), m) ]
      | inr d ↦ (let b = d.1 in absurd (omega arith))
    ]);
  }

  pub last_column : (j : ℕ) (L : Rep) → Completes q N M 0 (suc j) L → Completes q N M M.rank j L
  last_column j L c = record {
    represents = c.represents;
    standard = c.standard;
    begins = λ l k m n o. c.begins l k m n (elim o [ inl b ↦ inl (omega arith) | inr d ↦ (let b = d.0 in inl (omega arith)) ]);
  }

  -- a whole matrix with the bases is its own least completion
  pub whole_least : Represents q N M → IsLeastCompletion q N M 0 (size M) M
  whole_least p = record {
    completes = record { represents = p; standard = over.standard; begins = λ l k m n o. refl };
    least = λ K c. subst (λ (R : Rep). rep_cmp M R ≢ Greater) (sym (only K c)) own;
  }
    where
      only : (K : Rep) → Completes q N M 0 (size M) K → K ≡ M
      only K c = (let t = c.represents in same_codes M K over.shaped t.shaped (same_shape q N M K over t) (λ f i j l m n.
          (let z : 0 ≡ f = (let one : count M ≡ 1 = ap (λ fs. length fs) over.one_factor in omega arith) in
          subst (λ f. matrix K f i j ≡ matrix M f i j) z (sym (c.begins i j m n (inl n))))))

      own : rep_cmp M M ≢ Greater
      own = neither_way (rep_cmp M M) (rep_cmp-reversed M M)
        where
          neither_way : (r : Ordering) → r ≡ ordering_reverse r → r ≢ Greater
          neither_way Less e h = cc
          neither_way Equal e h = cc
          neither_way Greater e h = cc

  -- ---- one entry

  module _ (M' : Rep) (over' : IsStandardOver q N M') (i j : ℕ) (i_below : i < M.rank) (j_below : j < size M) (same : AgreeBefore M M' i j) where
    e : shape M' ≡ shape M
    e = over_same q N M M' over over'

    -- the completions of M' are those of M with the entry of M'
    pub entry_set : (L : Rep) → Completes q N M' (suc i) j L → Completes q N M i j L × (matrix L 0 i j ≡ matrix M' 0 i j)
    entry_set L c = (
      record {
        represents = c.represents;
        standard = c.standard;
        begins = λ l k m n o. same l k m n o ∙ c.begins l k (subst (λ S. l < S.rank) (sym e) m) (subst (λ S. k < S.size) (sym e) n)
            (elim o [ inl b ↦ inl b | inr d ↦ (let b = d.1 in inr (d.0, omega arith)) ]);
      },
      sym (c.begins i j (subst (λ S. i < S.rank) (sym e) i_below) (subst (λ S. j < S.size) (sym e) j_below) (inr (refl, omega arith))),
    )

    pub entry_kept : (L : Rep) → Completes q N M i j L → matrix L 0 i j ≡ matrix M' 0 i j → Completes q N M' (suc i) j L
    entry_kept L c v = record {
      represents = c.represents;
      standard = c.standard;
      begins = λ l k m n o. elim o [
        | inl b ↦ earlier l k m n (inl b)
        | inr d ↦ elim (cases_lt l i) [
          | inl b ↦ earlier l k m n (inr (d.0, b))
          | inr g ↦ (let z : l ≡ i = (let b = d.1 in omega arith) in (λ t. matrix M' 0 (z t) (d.0 t)) ∙ sym v ∙ sym (λ t. matrix L 0 (z t) (d.0 t)))
        ]
      ];
    }
      where
        earlier : (l k : ℕ) → l < M'.rank → k < size M' → (k < j) ⊎ ((k ≡ j) × (l < i)) → matrix M' 0 l k ≡ matrix L 0 l k
        earlier l k m n o = let m' = subst (λ S. l < S.rank) e m in let n' = subst (λ S. k < S.size) e n in sym (same l k m' n' o) ∙ c.begins l k m' n' o

    -- the least completion of M' is that of M, where no smaller entry has one
    pub least_of_entry : (L : Rep) → IsLeastCompletion q N M' (suc i) j L →
        ((K : Rep) → Completes q N M i j K → ¬ (matrix K 0 i j < matrix M' 0 i j)) → IsLeastCompletion q N M i j L
    least_of_entry L h none =
        let (c, v) = entry_set L h.completes in
        record {
          completes = c;
          least = λ K d. elim (cases_lt (matrix K 0 i j) (matrix M' 0 i j)) [
            | inl b ↦ absurd (none K d b)
            | inr g ↦ elim (cases_lt (matrix M' 0 i j) (matrix K 0 i j)) [
              | inr f ↦ h.least K (entry_kept K d (omega arith))
              | inl b ↦ not_above (rep_cmp L K)
                  (smaller_entry q N M L K i j i_below j_below (same_shape q N M L over c.represents)
                  (same_shape q N M K over d.represents) c.represents d.represents c.begins d.begins
                  (subst (λ x. x < matrix K 0 i j) (sym v) b))
            ]
          ];
        }
