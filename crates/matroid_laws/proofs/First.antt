-- The level of the size that equals the rank: the one representation whose columns are the unit columns.
use Rattle.std.proofs.Common.{◌≡◌, ℕ, zero, suc, ◌+◌, ◌*◌, ◌/◌, ◌%◌, ◌<◌, ◌≤◌, refl, sym, ◌∙◌, ap, subst, arith, List, [], ◌∷◌, length, Bool, true, false, inl, inr, slice_index, lit<}
use Rattle.std.specs.Bool.{◌==◌, nat_lt}
use Rattle.std.specs.Prelude.{◌||◌}
use Rattle.std.specs.List.{slice_index_or, Contains, All}
use mathlib.Core.Bool.{true≢false}
use Rattle.std.proofs.lemmas.Bool.{cases_lt, lt-ltb}
use Rattle.std.proofs.lemmas.Nat.{rows}
use Rattle.std.proofs.Math.Nat.{mod-lt, mul-le-mul, le_refl}
use Rattle.std.proofs.Math.Seq.{ext_get_or}
use Rattle.std.specs.declared.cmp.Ordering.{Ordering}
use Rattle.std.specs.declared.cmp.Ordering.TheVariants.{Less, Equal, Greater}
use Rattle.std.specs.Ordering.{ordering_reverse}
use Rattle.matroid_theory.specs.declared.Mode.{Mode}
use Rattle.matroid_theory.specs.Matrix.{Matrix, size_below, IsIndependent}
use Rattle.matroid_theory.specs.Rep.{Rep, shape, count, size, order, matrix, IsShaped, IsStandard}
use Rattle.matroid_theory.specs.Matroid.{Agrees, IsSimple, IsIndependentIn}
use Rattle.matroid_theory.specs.Minor.{IsMinor}
use Rattle.matroid_theory.specs.Order.{rep_cmp, IsForm}
use Rattle.matroid_theory.specs.Level.{Family, IsLevelForm, IsLevel}
use Rattle.matrix_lemmas.proofs.FieldLaws.{field_laws}
use Rattle.matrix_lemmas.proofs.Masks.{IsIndependent-same}
use Rattle.matrix_lemmas.proofs.Units.{units_independent}
use Rattle.matroid_laws.proofs.Levels.{columns_total}

-- where there is a place in a column there is a factor
pub columns_positive : (k r c : ℕ) → k < r * c → 0 < c
columns_positive k r c l =
    elim (cases_lt 0 c) [ inl b ↦ b | inr g ↦ (let e : c ≡ 0 = omega arith in let z : r * c ≡ r * 0 = ap (λ c. r * c) e in absurd (omega arith)) ]

pub row_below : (k c r : ℕ) → 0 < c → k < r * c → k / c < r
row_below k c r p l = grind (arith, rows)

pub whole : (k c : ℕ) → 0 < c → k / c * c + k % c ≡ k
whole k c p = omega arith

-- columns of r * c codes are equal where their codes are
pub same_column : (r c : ℕ) (v w : List ℕ) → length v ≡ r * c → length w ≡ r * c → 0 < c →
    ((f i : ℕ) → f < c → i < r → slice_index v (i * c + f) ≡ slice_index w (i * c + f)) → v ≡ w
same_column r c v w a b p h = ext_get_or 0 v w (a ∙ sym b) code
  where
    code : (k : ℕ) → k < length v → slice_index v k ≡ slice_index w k
    code k l =
        let l' : k < r * c = subst (λ (n : ℕ). k < n) a l in
        let e : k / c * c + k % c ≡ k = whole k c p in
        sym (ap (slice_index v) e) ∙ h (k % c) (k / c) (mod-lt k p) (row_below k c r p l') ∙ ap (slice_index w) e

-- of two numbers of more digits, the one with the less first digit is the less
pub digit_less : (x y n v w : ℕ) → x < y → v < n → x * n + v < y * n + w
digit_less x y n v w l m = let h : suc x * n ≤ y * n = mul-le-mul (let k : suc x ≤ y = omega arith in k) (le_refl n) in omega arith

-- representations of one shape with the same codes are equal
pub same_codes : (M N : Rep) → IsShaped M → IsShaped N → shape N ≡ shape M →
    ((f i j : ℕ) → f < count M → i < M.rank → j < size M → matrix N f i j ≡ matrix M f i j) → N ≡ M
same_codes M N s t e h = λ k. record { factors = ap (λ s. s.factors) e k; rank = ap (λ s. s.rank) e k; columns = columns k }
  where
    sizes : size N ≡ size M
    sizes = ap (λ s. s.size) e

    columns : N.columns ≡ M.columns
    columns = ext_get_or [] N.columns M.columns sizes column
      where
        column : (j : ℕ) → j < size N → slice_index_or N.columns j [] ≡ slice_index_or M.columns j []
        column j l = ext_get_or 0 (slice_index_or N.columns j []) (slice_index_or M.columns j [])
            (t.lengths j l ∙ ap (λ s. s.rank * length s.factors) e ∙ sym (s.lengths j l')) code
          where
            l' : j < size M
            l' = subst (λ n. j < n) sizes l

            code : (k : ℕ) → k < length (slice_index_or N.columns j []) →
                slice_index (slice_index_or N.columns j []) k ≡ slice_index (slice_index_or M.columns j []) k
            code k m =
                let n : length (slice_index_or N.columns j []) ≡ M.rank * count M = t.lengths j l ∙ ap (λ s. s.rank * length s.factors) e in
                let m' : k < M.rank * count M = subst (λ n. k < n) n m in
                let c : 0 < count M = columns_positive k M.rank (count M) m' in
                let i : k / count M < M.rank = row_below k (count M) M.rank c m' in
                let f : k % count M < count M = mod-lt k c in
                let pM : k / count M * count M + k % count M ≡ k = whole k (count M) c in
                let pN : k / count M * count N + k % count M ≡ k = ap (λ s. k / count M * length s.factors + k % count M) e ∙ pM in
                sym (ap (slice_index (slice_index_or N.columns j [])) pN) ∙ h (k % count M) (k / count M) j f i l'
                ∙ ap (slice_index (slice_index_or M.columns j [])) pM

pub size_every : (n : ℕ) → size_below n (λ _. true) ≡ n
size_every zero = refl
size_every (suc n) = let h : size_below n (λ _. true) ≡ n = size_every n in omega arith

-- a part of an independent set is independent
pub IsIndependent-part : (q r n : ℕ) (A : Matrix) (S T : ℕ → Bool) → ((j : ℕ) → j < n → T j ≡ false → S j ≡ false) →
    IsIndependent q r n A T → IsIndependent q r n A S
IsIndependent-part q r n A S T h d = record { only_zero = λ a c z. d.only_zero a (record { codes = c.codes; outside = λ j l o. c.outside j l (h j l o) }) z }

reversed : (r : Ordering) → r ≡ ordering_reverse r → r ≡ Greater → ⊥
reversed Less e h = cc
reversed Equal e h = cc
reversed Greater e h = cc

-- a representation of the unit columns alone
module _ (U : Rep) (shaped : IsShaped U) (standard : IsStandard U) (square : size U ≡ U.rank) where
  -- it is the only standard one of its shape
  pub unit_only : (N : Rep) → IsShaped N → IsStandard N → shape N ≡ shape U → N ≡ U
  unit_only N t s e =
      same_codes U N shaped t e (λ f i j l m n.
      let n' : j < U.rank = omega arith in
      s.units f i j (subst (λ s. f < length s.factors) (sym e) l) (subst (λ s. i < s.rank) (sym e) m) (subst (λ s. j < s.rank) (sym e) n')
      ∙ sym (standard.units f i j l m n'))

  -- all columns are independent in each factor
  all_independent : (f : ℕ) → f < count U → IsIndependentIn U f (λ _. true)
  all_independent f l =
      IsIndependent-same (order U f) U.rank (size U) (matrix U f) (λ j. nat_lt j U.rank) (λ _. true) (λ j m. lt-ltb j U.rank (below j m))
      (units_independent (order U f) (field_laws (order U f) (shaped.orders f l)) U.rank (size U) (matrix U f) standard.room
      (λ i j m n. standard.units f i j l m n))
    where
      below : (j : ℕ) → j < size U → j < U.rank
      below j m = omega arith

  -- and so are those of any set
  some_independent : (f : ℕ) → f < count U → (S : ℕ → Bool) → IsIndependentIn U f S
  some_independent f l S =
      IsIndependent-part (order U f) U.rank (size U) (matrix U f) S (λ _. true) (λ j o x. absurd (true≢false x)) (all_independent f l)

  pub unit_agrees : Agrees U
  unit_agrees = record {
    some = λ f l. ((λ _. true), record { full = size_every (size U) ∙ square; independent = all_independent f l });
    same = λ f g l m S b. record { full = b.full; independent = some_independent g m S };
  }

  pub unit_simple : IsSimple U
  unit_simple f i j l m n = some_independent f l (λ k. (k == i) || (k == j))

  pub unit_form : 0 < count U → (mode : Mode) → IsForm mode U
  unit_form some mode = record {
    representation = record { some = some; shaped = shaped; agrees = unit_agrees };
    standard = standard;
    least = λ N s e g.
        let p : N ≡ U = unit_only N e.takes.shaped s e.takes.same_shape in
        let t = columns_total in
        reversed (rep_cmp U U) (t.antisymm U.columns U.columns) (ap (rep_cmp U) (sym p) ∙ g);
  }

  -- where it has no forbidden minor, it is the level
  pub first_level : 0 < count U → (q : Family) → U.factors ≡ q.factors → U.rank ≡ q.rank → All (λ N. ¬ (IsMinor N U)) q.forbidden → IsLevel q q.rank (U ∷ [])
  first_level some q factors rank avoids = record {
    rising = λ i j d l m. absurd (omega arith);
    exact = λ M. (there M, back M);
  }
    where
      member : IsLevelForm q q.rank U
      member = record {
        form = unit_form some q.mode;
        member = record {
          same_factors = factors;
          ranks = rank;
          sizes = square ∙ rank;
          representation = record { some = some; shaped = shaped; agrees = unit_agrees };
          simple = unit_simple;
          avoids = avoids;
        };
      }

      there : (M : Rep) → Contains (U ∷ []) M → IsLevelForm q q.rank M
      there M (zero, l, e) = subst (IsLevelForm q q.rank) e member
      there M (suc k, l, e) = absurd (omega arith)

      back : (M : Rep) → IsLevelForm q q.rank M → Contains (U ∷ []) M
      back M h =
          let m = h.member in
          let f = h.form in
          let w = m.representation in
          let as_large : size M ≡ size U = m.sizes ∙ sym rank ∙ sym square in (
            0,
            lit< tt,
            sym (unit_only M w.shaped f.standard
                (λ i. record { factors = (m.same_factors ∙ sym factors) i; rank = (m.ranks ∙ sym rank) i; size = as_large i })),
          )
