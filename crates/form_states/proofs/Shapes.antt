-- What the program's codes say of the representation's.
use Rattle.std.proofs.Common.{◌≡◌, inl, inr, ℕ, zero, ◌*◌, ◌/◌, ◌%◌, ◌<◌, ◌≤◌, Bool, true, false, List, [], length, slice_index, slice_index_or, sym, ◌∙◌, ap, subst, arith, cond, suc}
use Rattle.std.specs.Bool.{◌==◌, nat_lt}
use Rattle.std.proofs.lemmas.Bool.{cases_lt, lt-ltb, le-ltb}
use Rattle.std.proofs.Math.Nat.{mod-lt}
use Rattle.matroid_theory.specs.Field.{plus, times}
use Rattle.matroid_theory.specs.Rep.{Rep, count, size, order, IsShaped, KeepsLimits}
use Rattle.matroid_theory.specs.Matroid.{Agrees, IsRepresentation}
use Rattle.matroid_laws.proofs.First.{row_below}
use Rattle.matrix_lemmas.proofs.FieldLaws.{field_laws}
use Rattle.form_trails.specs.Trail.{Trail, IsOrdered}
use Rattle.form_trails.specs.Pivot.{cleared}
use Rattle.form_trails.specs.Numbers.{weighed}
use Rattle.form_trails.specs.Least.{scaled, MakesOnes}
use Rattle.form_search.specs.Search.{Entries, IsThere, IsEntry, IsPlacing}
use Rattle.form_trails.proofs.Numbers.{weighed_same}
use Rattle.form_trails.proofs.Supports.{same_support}
use Rattle.form_trails.proofs.Ties.{IsSupported}
use Rattle.form_states.proofs.GroupSteps.{scaled_same}
use Rattle.form_states.specs.Codes.{code, AreColumnCodes, cleared_code}
use Rattle.form_states.specs.Groups.{AreGroupFactors}
use Rattle.form_states.specs.States.{IsShapeOf, AreGroups, layer_of, IsLeastNumber, IsScaledNumber}

-- what keeps the limits and whose factors agree represents a matroid
pub whole : (M : Rep) → KeepsLimits M → Agrees M → IsRepresentation M
whole M k a = record { some = (let f = k.fields in f.some); shaped = k.shaped; agrees = a }

pub by_three : (P : ℕ → Type 0) → P 0 → P 1 → P 2 → (f : ℕ) → f < 3 → P f
by_three P a b c zero l = a
by_three P a b c (suc zero) l = b
by_three P a b c (suc (suc zero)) l = c
by_three P a b c (suc (suc (suc f))) l = absurd (omega arith)

module _ (M : Rep) (fields : List ℕ) (factors rank total : ℕ) (h : IsShapeOf M fields factors rank total) where
  pub is_rep : KeepsLimits M
  is_rep = h.is_rep

  pub shaped : IsShaped M
  shaped = let r = h.is_rep in r.shaped

  pub is_whole : IsRepresentation M
  is_whole = whole M h.is_rep h.agrees

  pub some : 0 < count M
  some = let r = h.is_rep in let f = r.fields in f.some

  pub few : count M ≤ 3
  few = let r = h.is_rep in let f = r.fields in f.few

  pub low : M.rank ≤ 6
  low = let r = h.is_rep in r.rank_most

  -- a code of the program is below the order
  pub code_below : (column : List (List ℕ)) → AreColumnCodes fields column → (f i : ℕ) → f < count M → i < M.rank → code column f i < order M f
  code_below column c f i l b = subst (λ q. code column f i < q) (h.fields_are f l)
      (c i (let r : M.rank ≤ 6 = low in omega arith) f (let r : count M ≤ 3 = few in omega arith))

  -- a pivot of the program is one of the search
  pub cleared_same : (p : ℕ) (minus c : ℕ → ℕ → ℕ) (f i : ℕ) → f < count M → cleared_code fields p minus c f i ≡ cleared M p minus c f i
  cleared_same p minus c f i l = ap (λ q. cond (i == p) (c f p) (plus q (c f i) (times q (c f p) (minus f i)))) (h.fields_are f l)

  -- an entry's codes are 0 in all factors or in none
  pub entry_supported : (k s : ℕ) (d : Trail) (x : ℕ) (c : ℕ → ℕ → ℕ) → IsOrdered M d → IsEntry M k s d x c → IsSupported M c
  entry_supported k s d x c o w f g i l m b = same_support M shaped h.agrees d o x w.below c w.coordinates f g i l m b

  -- ---- factors of groups

  module _ (groups : List ℕ) (group_below : AreGroups groups) (c own : ℕ → ℕ → ℕ) (own_code : (f g : ℕ) → f < 3 → g < 6 → own f g < slice_index fields f)
      (own_factors : AreGroupFactors fields factors (slice_index groups) rank c own) (supported : IsSupported M c) where
    -- 1 for what isn't a group
    abbrev pub all_own : ℕ → ℕ → ℕ
    all_own f g = cond (nat_lt g 6) (own f g) 1

    pub own_at : (f g : ℕ) → g < 6 → all_own f g ≡ own f g
    own_at f g l = ap (λ b. cond b (own f g) 1) (lt-ltb g 6 l)

    own_past : (f g : ℕ) → 6 ≤ g → all_own f g ≡ 1
    own_past f g l = ap (λ b. cond b (own f g) 1) (le-ltb g 6 l)

    pub makes_ones : MakesOnes M (slice_index groups) c all_own
    makes_ones = record {
      codes = λ f g l. elim (cases_lt g 6) [
        | inl b ↦ subst (λ v. v < order M f) (sym (own_at f g b)) (subst (λ q. own f g < q) (h.fields_are f l)
            (own_code f g (let r : count M ≤ 3 = few in omega arith) b))
        | inr b ↦ subst (λ v. v < order M f) (sym (own_past f g b)) (let F = field_laws (order M f) (let s = shaped in s.orders f l) in F.two)
      ];
      nonzero = λ f g l e. elim (cases_lt g 6) [
        | inl b ↦ own_factors.nonzero f g (let r : count M ≤ 3 = few in omega arith) b (sym (own_at f g b) ∙ e)
        | inr b ↦ (let z : zero ≡ 1 = sym e ∙ own_past f g b in omega arith)
      ];
      leads = λ f i l b z n. (let r : M.rank ≤ 6 = low in let q : count M ≤ 3 = few in
          ap (λ v. times (order M f) v (c f i)) (own_at f (slice_index groups i) (group_below i (omega arith)))
          ∙ ap (λ o. times o (own f (slice_index groups i)) (c f i)) (sym (h.fields_are f l))
          ∙ own_factors.leads i (subst (λ n. i < n) (sym h.rank_is) b) (λ j m e. supported f 0 j l some (omega arith) (z j m e))
          (λ e. n (supported 0 f i some l b e)) f (subst (λ n. f < n) (sym h.factors_are) l) n);
    }

    -- the scaled code
    pub scaled_code : (f i : ℕ) → f < count M → i < M.rank → scaled M (slice_index groups) all_own c f i ≡ times (slice_index fields f)
        (own f (slice_index groups i)) (c f i)
    scaled_code f i l b = (λ t. times (sym (h.fields_are f l) t) (own_at f (slice_index groups i) (group_below i (let r : M.rank ≤ 6 = low in omega arith))
        t) (c f i))

  pub least_number_is : (groups : List ℕ) → AreGroups groups → (c : ℕ → ℕ → ℕ) (n : ℕ) → IsSupported M c → IsScaledNumber fields (slice_index groups) factors
      rank c n → IsLeastNumber M (slice_index groups) c n
  least_number_is groups g c n s w = record {
    own = all_own groups g c w.own w.own_code w.own_factors s;
    ones = makes_ones groups g c w.own w.own_code w.own_factors s;
    number_is = w.number_is
        ∙ (λ t. weighed (λ e. times (slice_index fields (e % h.factors_are t)) (w.own (e % h.factors_are t) (slice_index groups (e / h.factors_are t)))
        (c (e % h.factors_are t) (e / h.factors_are t))) (h.rank_is t * h.factors_are t))
        ∙ weighed_same (λ e. times (slice_index fields (e % count M)) (w.own (e % count M) (slice_index groups (e / count M))) (c (e % count M) (e / count M)))
        (λ e. scaled M (slice_index groups) (all_own groups g c w.own w.own_code w.own_factors s) c (e % count M) (e / count M)) (M.rank * count M)
        (λ e l. sym (scaled_code groups g c w.own w.own_code w.own_factors s (e % count M) (e / count M) (mod-lt e some)
        (row_below e (count M) M.rank some l)));
  }

  -- the order of a factor by the program's field
  pub field_at : (f : ℕ) → f < count M → (x y : ℕ) → times (slice_index fields f) x y ≡ times (order M f) x y
  field_at f l x y = ap (λ q. times q x y) (h.fields_are f l)

  one : 1 ≤ factors
  one = let l = h.limits in l.one

  -- those of all open elements
  pub least_numbers_are : (k : ℕ) (groups : List ℕ) (settled : List ℕ) (layer : List (List (List ℕ))) (scalars : List (List ℕ)) (open_marks : List Bool)
      (rest : Entries) (d : Trail) (numbers : List ℕ) → AreGroups groups
      → IsPlacing M k (slice_index groups) settled (layer_of M layer scalars open_marks) rest d
      → ((e : ℕ) → e < total → slice_index_or open_marks e false ≡ true → IsScaledNumber fields (slice_index groups) factors rank
      (λ f i. times (slice_index fields f) (code scalars f i) (code (slice_index_or layer e []) f i)) (slice_index numbers e))
      → (e : ℕ) → IsThere (layer_of M layer scalars open_marks) e → IsLeastNumber M (slice_index groups)
      (λ f i. times (order M f) (code scalars f i) (code (slice_index_or layer e []) f i)) (slice_index numbers e)
  least_numbers_are k groups settled layer scalars open_marks rest d numbers g p w e t =
      let o = let q = p.trail in q.ordered in
      least_number_is groups g (λ f i. times (order M f) (code scalars f i) (code (slice_index_or layer e []) f i)) (slice_index numbers e)
      (entry_supported k (length settled) d e (λ f i. times (order M f) (code scalars f i) (code (slice_index_or layer e []) f i)) o
      (let a = p.inside in a.each e t))
      (scaled_same fields factors rank (slice_index groups) (λ f i. times (slice_index fields f) (code scalars f i) (code (slice_index_or layer e []) f i))
      (λ f i. times (order M f) (code scalars f i) (code (slice_index_or layer e []) f i)) (slice_index numbers e) one
      (λ f i l b. field_at f (subst (λ n. f < n) h.factors_are l) (code scalars f i) (code (slice_index_or layer e []) f i))
      (w e (let b : e < size M = t.below in let z : total ≡ size M = h.total_is in omega arith) t.passes))
