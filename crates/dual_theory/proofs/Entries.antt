-- The next entry of the search: of two completions the one with the smaller entry is less, and some entries need only be 0 or 1.
use Rattle.std.proofs.Common.{◌≡◌, ◌≢◌, ◌⊎◌, ℕ, zero, suc, ◌+◌, ◌*◌, ◌<◌, ◌≤◌, refl, sym, ◌∙◌, ap, subst, arith, cond, inl, inr, List, [], ◌∷◌, length}
use Rattle.std.specs.Bool.{◌==◌}
use Rattle.std.specs.List.{slice_index, slice_index_or}
use Rattle.std.specs.Cmp.Lexicographic.{slice_cmp}
use Rattle.std.specs.Ordering.{nat_cmp, ordering_then}
use Rattle.std.specs.declared.cmp.Ordering.{Ordering}
use Rattle.std.specs.declared.cmp.Ordering.TheVariants.{Less, Equal, Greater}
use Rattle.std.proofs.lemmas.Bool.{lt-ltb}
use Rattle.std.proofs.Math.Seq.{ext_get_or}
use Rattle.std.specs.Cmp.{nat_cmp_total}
use Rattle.std.proofs.lemmas.Cmp.{tied_itself, nat_list_cmp_total}
use Rattle.matroid_theory.specs.Rep.{Rep, shape, count, size, matrix, IsStandard}
use Rattle.matroid_theory.specs.Minor.{Matroid}
use Rattle.matroid_theory.specs.Order.{rep_cmp}
use Rattle.dual_theory.specs.Represented.{Represents, AgreeBefore, Completes}
use Rattle.dual_theory.proofs.Rescaled.{lead_made_one, first_made_one}

-- ---- the order of lists

nat_cmp-below : (x y : ℕ) → x < y → nat_cmp x y ≡ Less
nat_cmp-below x y l = ap (λ b. cond b Less (cond (x == y) Equal Greater)) (lt-ltb x y l)

-- of two lists as long, the one with the less entry at the first place where they differ is less
less_at : {A : Type 0} (R : A → A → Ordering) (d : A) (xs ys : List A) (k : ℕ) → ((x : A) → R x x ≡ Equal) → length xs ≡ length ys →
    k < length xs → ((e : ℕ) → e < k → slice_index_or xs e d ≡ slice_index_or ys e d) →
    R (slice_index_or xs k d) (slice_index_or ys k d) ≡ Less → slice_cmp R xs ys ≡ Less
less_at R d [] ys k s e l h g = absurd (omega arith)
less_at R d (x ∷ xs) [] k s e l h g = absurd (omega arith)
less_at R d (x ∷ xs) (y ∷ ys) zero s e l h g = ap (λ (o : Ordering). ordering_then o (slice_cmp R xs ys)) g
less_at R d (x ∷ xs) (y ∷ ys) (suc k) s e l h g =
    ap (λ (o : Ordering). ordering_then o (slice_cmp R xs ys)) (ap (R x) (sym (h 0 (omega arith))) ∙ s x)
    ∙ less_at R d xs ys k s (omega arith) (omega arith) (λ f b. h (suc f) (omega arith)) g

-- ---- completions

module _ (q : ℕ) (N : Matroid) (M L K : Rep) (i j : ℕ) (i_below : i < M.rank) (j_below : j < size M) (e : shape L ≡ shape M)
    (d : shape K ≡ shape M) (l : Represents q N L) (k : Represents q N K)
    (a : AgreeBefore M L i j) (b : AgreeBefore M K i j) where
  one_L : count L ≡ 1
  one_L = ap (λ fs. length fs) l.one_factor

  one_K : count K ≡ 1
  one_K = ap (λ fs. length fs) k.one_factor

  -- the code at place i of column c of a representation of one factor
  at_place : (R : Rep) → count R ≡ 1 → (i c : ℕ) → matrix R 0 i c ≡ slice_index (slice_index_or R.columns c []) i
  at_place R one i c = ap (slice_index (slice_index_or R.columns c [])) (ap (λ n. i * n + 0) one ∙ omega arith)

  same_entry : (r c : ℕ) → r < M.rank → c < size M → (c < j) ⊎ ((c ≡ j) × (r < i)) →
      slice_index (slice_index_or L.columns c []) r ≡ slice_index (slice_index_or K.columns c []) r
  same_entry r c m n o = sym (at_place L one_L r c) ∙ sym (a r c m n o) ∙ b r c m n o ∙ at_place K one_K r c

  length_L : (c : ℕ) → c < size M → length (slice_index_or L.columns c []) ≡ M.rank
  length_L c m = (let s = l.shaped in s.lengths c (subst (λ S. c < S.size) (sym e) m)) ∙ ap (λ n. L.rank * n) one_L
      ∙ (let h : L.rank ≡ M.rank = ap (λ S. S.rank) e in omega arith)

  length_K : (c : ℕ) → c < size M → length (slice_index_or K.columns c []) ≡ M.rank
  length_K c m = (let s = k.shaped in s.lengths c (subst (λ S. c < S.size) (sym d) m)) ∙ ap (λ n. K.rank * n) one_K
      ∙ (let h : K.rank ≡ M.rank = ap (λ S. S.rank) d in omega arith)

  pub smaller_entry : matrix L 0 i j < matrix K 0 i j → rep_cmp L K ≡ Less
  smaller_entry less =
      less_at (slice_cmp nat_cmp) [] L.columns K.columns j (tied_itself nat_list_cmp_total) (ap (λ S. S.size) (e ∙ sym d))
      (subst (λ S. j < S.size) (sym e) j_below)
      (λ c m. ext_get_or 0 (slice_index_or L.columns c []) (slice_index_or K.columns c []) (length_L c (inside c m) ∙ sym (length_K c (inside c m)))
      (λ r o. same_entry r c (subst (λ n. r < n) (length_L c (inside c m)) o) (inside c m) (inl m)))
      (less_at nat_cmp 0 (slice_index_or L.columns j []) (slice_index_or K.columns j []) i (tied_itself nat_cmp_total)
      (length_L j j_below ∙ sym (length_K j j_below)) (subst (λ n. i < n) (sym (length_L j j_below)) i_below)
      (λ r o. same_entry r j (omega arith) j_below (inr (refl, o)))
      (nat_cmp-below _ _ (subst (λ x. x < slice_index (slice_index_or K.columns j []) i) (at_place L one_L i j)
      (subst (λ x. matrix L 0 i j < x) (at_place K one_K i j) less))))
    where
      inside : (c : ℕ) → c < j → c < size M
      inside c m = omega arith

-- where the entries above in its column are 0, or those before it in its row after the unit columns, a completion with
-- an entry that isn't 0 gives one with the entry 1
pub made_one : (q : ℕ) (N : Matroid) (M L : Rep) (i j : ℕ) → shape L ≡ shape M → i < M.rank → M.rank ≤ j → j < size M →
    Completes q N M i j L → matrix L 0 i j ≢ 0
    → ((l : ℕ) → l < i → matrix M 0 l j ≡ 0) ⊎ ((k : ℕ) → M.rank ≤ k → k < j → matrix M 0 i k ≡ 0) → (K : Rep) × Completes q N M i j K × (matrix K 0 i j ≡ 1)
made_one q N M L i j e i_below past below c nonzero z =
    let (K, s, p, a, one) = made in (
      K,
      record {
        represents = p;
        standard = s;
        begins = λ l k r t w. c.begins l k r t w
            ∙ a l k (subst (λ S. l < S.rank) (sym e) r) (subst (λ S. k < S.size) (sym e) t) w;
      },
      one,
    )
  where
    m : i < L.rank
    m = subst (λ S. i < S.rank) (sym e) i_below

    n : L.rank ≤ j
    n = subst (λ S. S.rank ≤ j) (sym e) past

    o : j < size L
    o = subst (λ S. j < S.size) (sym e) below

    made : (K : Rep) × IsStandard K × Represents q N K × AgreeBefore L K i j × (matrix K 0 i j ≡ 1)
    made = elim z [
      | inl h ↦ lead_made_one q N L c.represents c.standard i j m n o nonzero (λ l b. sym (c.begins l j (omega arith) below (inr (refl, b))) ∙ h l b)
      | inr h ↦ first_made_one q N L c.represents c.standard i j m n o nonzero
          (λ k g b. sym (c.begins i k i_below (omega arith) (inl b)) ∙ h k (subst (λ S. S.rank ≤ k) e g) b)
    ]
