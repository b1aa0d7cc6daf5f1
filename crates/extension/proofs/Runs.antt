-- The columns that the steps have given so far, and those of a whole run.
use Rattle.std.proofs.Common.{map, append_assoc, append-nil, ◌≡◌, ◌≢◌, ◌⊎◌, ℕ, ◌+◌, ◌*◌, ◌<◌, refl, sym, ◌∙◌, ap, subst, arith, List, [], ◌∷◌, ◌++◌, length, get_or, inl, inr}
use Rattle.std.specs.List.{Contains}
use Rattle.std.specs.Iterator.{Yields, Drains}
use Rattle.std.specs.Cmp.{IsTotalOrder}
use Rattle.std.specs.Cmp.Lexicographic.{slice_cmp}
use Rattle.std.specs.Ordering.{nat_cmp, ordering_reverse}
use Rattle.std.specs.declared.cmp.Ordering.TheVariants.{Less, Equal, Greater}
use Rattle.std.proofs.lemmas.Cmp.{nat_list_cmp_total, tied_itself}
use Rattle.std.proofs.lemmas.List.Elements.{Contains-append_left, Contains-push, Contains-push_cases, Contains-get_or}
use Rattle.std.proofs.lemmas.List.Quantifiers.{all_pairs_push}
use Rattle.std.proofs.lemmas.Nat.{mul-add-lt}
use Rattle.std.proofs.lemmas.Map.Lookups.{exact_bytes}
use Rattle.arrayvec.specs.ArrayVec.{ArrayVec}
use Rattle.matroid_theory.specs.Rep.{Rep, count}
use Rattle.extension.specs.Admissible.{IsAdmissible, IsNextColumn, IsLastColumn, GivesNext, AreColumnsUpTo, AreAdmissible, ColumnsAfter}

laws : IsTotalOrder (slice_cmp nat_cmp)
laws = nat_list_cmp_total

-- of two lists one is below the other, or they are the same
below_or_not : (v w : List ℕ) → (slice_cmp nat_cmp v w ≡ Less) ⊎ (slice_cmp nat_cmp w v ≢ Greater)
below_or_not v w = elim (slice_cmp nat_cmp v w) as (λ o. slice_cmp nat_cmp v w ≡ o → (o ≡ Less) ⊎ (slice_cmp nat_cmp w v ≢ Greater)) [
  | Less ↦ (λ _. inl refl)
  | Equal ↦ (λ e. inr (λ g. let s : v ≡ w = exact_bytes v w e in
      let t : slice_cmp nat_cmp v v ≡ Greater = subst (λ (x : List ℕ). slice_cmp nat_cmp x v ≡ Greater) (sym s) g in
      let k : slice_cmp nat_cmp v v ≡ Equal = tied_itself laws v in cc))
  | Greater ↦ (λ e. inr (λ g. let k : slice_cmp nat_cmp w v ≡ ordering_reverse (slice_cmp nat_cmp v w) = laws.antisymm w v in
      let m : Greater ≡ Less = sym g ∙ k ∙ ap ordering_reverse e in cc))
] refl

less_not_greater : (v w : List ℕ) → slice_cmp nat_cmp v w ≡ Less → slice_cmp nat_cmp v w ≢ Greater
less_not_greater v w l g = cc

-- what isn't above a list that is below another is below it too
below_of : (w u v : List ℕ) → slice_cmp nat_cmp w u ≢ Greater → slice_cmp nat_cmp u v ≡ Less → slice_cmp nat_cmp w v ≡ Less
below_of w u v n l = elim (slice_cmp nat_cmp w u) as (λ o. slice_cmp nat_cmp w u ≡ o → slice_cmp nat_cmp w v ≡ Less) [
  | Less ↦ (λ e. laws.trans w u v e l)
  | Equal ↦ (λ e. subst (λ (x : List ℕ). slice_cmp nat_cmp x v ≡ Less) (sym (exact_bytes w u e)) l)
  | Greater ↦ (λ e. absurd (n e))
] refl

-- two lists of which neither is above the other are the same
turned : (v w : List ℕ) → slice_cmp nat_cmp v w ≢ Greater → slice_cmp nat_cmp w v ≢ Greater → v ≡ w
turned v w a b = elim (slice_cmp nat_cmp v w) as (λ o. slice_cmp nat_cmp v w ≡ o → v ≡ w) [
  | Less ↦ (λ e. absurd (b (laws.antisymm w v ∙ ap ordering_reverse e)))
  | Equal ↦ exact_bytes v w
  | Greater ↦ (λ e. absurd (a e))
] refl

-- a list of a code or more is above the empty one
nothing : (w : List ℕ) → 0 < length w → ¬ (slice_cmp nat_cmp w [] ≢ Greater)
nothing [] l n = absurd (omega arith)
nothing (x ∷ xs) l n = n refl

-- before the first step
pub columns_start : (M : Rep) → 0 < count M → AreColumnsUpTo M [] []
columns_start M pos = record {
  rising = λ i j d l m. absurd (omega arith);
  exact = λ w. (
    (λ h. absurd (let l = h.1 in omega arith)),
    (λ (a, g). absurd (nothing w (some w a) g)),
  );
}
  where
    some : (w : List ℕ) → IsAdmissible M w → 0 < length w
    some w a = let n = a.normalised in let c = n.is_column in
        let b : n.lead * count M + 0 < count M * M.rank = mul-add-lt n.lead (count M) 0 M.rank n.lead_below pos in
        let e : length w ≡ M.rank * count M = c.rows in omega arith

-- a step adds its column at the end
pub columns_step : (M : Rep) (last v : List ℕ) (vs : List (List ℕ)) → AreColumnsUpTo M last vs →
    IsNextColumn (record { parent = M; last = last }) v → AreColumnsUpTo M v (vs ++ v ∷ [])
columns_step M last v vs h n = record {
  rising = all_pairs_push (λ v w. slice_cmp nat_cmp v w ≡ Less) vs v h.rising
      (λ k d l. below_of (get_or vs k d) last v (((h.exact (get_or vs k d)).0 (Contains-get_or vs k d l)).1) n.after);
  exact = λ w. (
    (λ c. elim (Contains-push_cases vs v w c) [
      | inl b ↦ (let p = (h.exact w).0 b in (p.0, less_not_greater w v (below_of w last v p.1 n.after)))
      | inr e ↦ subst (λ (w : List ℕ). IsAdmissible M w × (slice_cmp nat_cmp w v ≢ Greater)) e
          (n.admissible, (λ g. let k : slice_cmp nat_cmp v v ≡ Equal = tied_itself laws v in cc))
    ]),
    (λ (a, g). elim (below_or_not last w) [
      | inl l ↦ (let e : v ≡ w = turned v w (n.first w a l) g in subst (λ (w : List ℕ). Contains (vs ++ v ∷ []) w) e (Contains-push vs v))
      | inr b ↦ Contains-append_left vs (v ∷ []) w ((h.exact w).1 (a, b))
    ]),
  );
}

-- where no column is left, these are all
pub columns_end : (M : Rep) (last : List ℕ) (vs : List (List ℕ)) → AreColumnsUpTo M last vs →
    IsLastColumn (record { parent = M; last = last }) → AreAdmissible M vs
columns_end M last vs h e = record {
  rising = h.rising;
  exact = λ w. (
    (λ c. ((h.exact w).0 c).0),
    (λ a. (h.exact w).1 (a, elim (below_or_not last w) [ inl l ↦ absurd (e w a l) | inr b ↦ b ])),
  );
}

-- ---- runs

-- the calls give their columns at the end of those before
yields_columns : (given : List (ArrayVec ℕ)) (s t : ColumnsAfter) (vs : List (List ℕ)) → Yields GivesNext s given t →
    AreColumnsUpTo s.parent s.last vs → AreColumnsUpTo t.parent t.last (vs ++ map (λ v. v.items) given)
yields_columns [] s t vs e h = subst (λ (t : ColumnsAfter). AreColumnsUpTo t.parent t.last (vs ++ [])) e
    (subst (λ (vs : List (List ℕ)). AreColumnsUpTo s.parent s.last vs) (sym (append-nil vs)) h)
yields_columns (v ∷ given) s t vs (j, (n, e), rest) h =
    subst (λ (xs : List (List ℕ)). AreColumnsUpTo t.parent t.last xs) (append_assoc vs (v.items ∷ []) (map (λ v. v.items) given))
    (yields_columns given j t (vs ++ v.items ∷ []) rest
    (subst (λ (j : ColumnsAfter). AreColumnsUpTo j.parent j.last (vs ++ v.items ∷ [])) (sym e) (columns_step s.parent s.last v.items vs h n)))

yields_parent : (given : List (ArrayVec ℕ)) (s t : ColumnsAfter) → Yields GivesNext s given t → t.parent ≡ s.parent
yields_parent [] s t e = ap (λ (t : ColumnsAfter). t.parent) (sym e)
yields_parent (v ∷ given) s t (j, (n, e), rest) = yields_parent given j t rest ∙ ap (λ (t : ColumnsAfter). t.parent) e

pub whole_run : (M : Rep) (given : List (ArrayVec ℕ)) → 0 < count M → Drains GivesNext (record { parent = M; last = [] }) given →
    AreAdmissible M (map (λ v. v.items) given)
whole_run M given pos (u, (t, y, (e, _))) =
    subst (λ (M : Rep). AreAdmissible M (map (λ v. v.items) given)) (yields_parent given (record { parent = M; last = [] }) t y)
    (columns_end t.parent t.last (map (λ v. v.items) given) (yields_columns given (record { parent = M; last = [] }) t [] y (columns_start M pos)) e)
