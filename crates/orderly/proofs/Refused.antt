-- A parent followed by a column is no form where an equivalent standard representation is lower.
use Rattle.std.proofs.Common.{◌≡◌, ◌≢◌, ℕ, suc, ◌+◌, ◌-◌, ◌*◌, ◌<◌, ◌≤◌, List, [], take, get_or, length, refl, sym, ◌∙◌, ap, subst, arith, slice_index}
use Rattle.std.specs.Cmp.Lexicographic.{slice_cmp}
use Rattle.std.specs.Ordering.{nat_cmp, ordering_reverse}
use Rattle.std.specs.declared.cmp.Ordering.TheVariants.{Less}
use Rattle.std.proofs.lemmas.Option.{get_or_from_slice_get}
use Rattle.std.proofs.lemmas.List.{length-take-le}
use Rattle.matroid_theory.specs.declared.Mode.{Mode}
use Rattle.matroid_theory.specs.Rep.{Rep, shape, count, size, matrix, IsShaped, IsStandard, IsProductColumn}
use Rattle.matroid_theory.specs.Exchange.{exchange}
use Rattle.matroid_theory.specs.Move.{Move, ArePermutation, IsMove, TakesTo, AreEquivalent}
use Rattle.matroid_theory.specs.Order.{rep_cmp, IsForm}
use Rattle.matroid_theory.specs.Level.{followed_by}
use Rattle.matrix_lemmas.proofs.Exchanges.{exchange_cases, exchange_below, exchange_permutation}
use Rattle.matroid_laws.proofs.Equivalence.{identity, identity_move, takes_identity}
use Rattle.matroid_laws.proofs.Followed.{matrix_before, matrix_last, size_followed, shaped_pushed, shaped_before, column_last, standard_followed, standard_before}
use Rattle.matroid_laws.proofs.Levels.{rep_cmp-reversed}
use Rattle.symmetry.specs.Symmetric.{MovesOf, HasLowerImage}
use Rattle.orderly.specs.Refused.{IsBelowLast}
use Rattle.orderly.proofs.Rising.{before_followed, followed_before, last_split}

-- a form is below no equivalent standard representation
not_form : (mode : Mode) (M N : Rep) → IsStandard N → AreEquivalent mode M N → rep_cmp N M ≡ Less → ¬ (IsForm mode M)
not_form mode M N st e less form = form.least N st e (rep_cmp-reversed N M ∙ ap ordering_reverse less)

-- ---- the last two columns exchanged

-- the codes of two columns that follow a representation
module _ (Q : Rep) (a b : List ℕ) (f i : ℕ) where
  code_early : (x : ℕ) → x < size Q → matrix (followed_by (followed_by Q a) b) f i x ≡ matrix Q f i x
  code_early x l =
      (let n : size (followed_by Q a) ≡ suc (size Q) = size_followed Q a in let l' : x < size (followed_by Q a) = omega arith in
      matrix_before (followed_by Q a) b f i x l')
      ∙ matrix_before Q a f i x l

  code_first : matrix (followed_by (followed_by Q a) b) f i (size Q) ≡ slice_index a (i * count Q + f)
  code_first =
      (let n : size (followed_by Q a) ≡ suc (size Q) = size_followed Q a in let l : size Q < size (followed_by Q a) = omega arith in
      matrix_before (followed_by Q a) b f i (size Q) l)
      ∙ matrix_last Q a f i

  code_second : matrix (followed_by (followed_by Q a) b) f i (suc (size Q)) ≡ slice_index b (i * count Q + f)
  code_second = ap (matrix (followed_by (followed_by Q a) b) f i) (sym (size_followed Q a)) ∙ matrix_last (followed_by Q a) b f i

module _ (mode : Mode) (Q : Rep) (u v : List ℕ) (shaped : IsShaped Q) (u_column : IsProductColumn Q.factors Q.rank u)
    (v_column : IsProductColumn Q.factors Q.rank v) where
  sizes : (a b : List ℕ) → size (followed_by (followed_by Q a) b) ≡ suc (suc (size Q))
  sizes a b = size_followed (followed_by Q a) b ∙ ap suc (size_followed Q a)

  exchanged_codes : (f i x : ℕ) → x < suc (suc (size Q)) →
      matrix (followed_by (followed_by Q v) u) f i x ≡ matrix (followed_by (followed_by Q u) v) f i (exchange (size Q) (suc (size Q)) x)
  exchanged_codes f i = exchange_cases (size Q) (suc (size Q))
      (λ x y. x < suc (suc (size Q)) → matrix (followed_by (followed_by Q v) u) f i x ≡ matrix (followed_by (followed_by Q u) v) f i y)
      (λ _. code_first Q v u f i ∙ sym (code_second Q u v f i))
      (λ _. code_second Q v u f i ∙ sym (code_first Q u v f i))
      (λ x n m l. (let b : x < size Q = omega arith in code_early Q v u f i x b ∙ sym (code_early Q u v f i x b)))

  -- all columns keep their places but the last two
  exchanging : Move
  exchanging = record identity { label = exchange (size Q) (suc (size Q)); place = exchange (size Q) (suc (size Q)) }

  shaped_both : (a b : List ℕ) → IsProductColumn Q.factors Q.rank a → IsProductColumn Q.factors Q.rank b → IsShaped (followed_by (followed_by Q a) b)
  shaped_both a b c d = shaped_pushed (followed_by Q a) b (shaped_pushed Q a shaped c) d

  exchanging_move : IsMove mode (shape (followed_by (followed_by Q u) v)) exchanging
  unfolding exchanging identity
  exchanging_move = record {
    powers = same.powers;
    allowed = same.allowed;
    codes = same.codes;
    back_codes = same.back_codes;
    inverse = same.inverse;
    scalars = same.scalars;
    nonzero = same.nonzero;
    labels = subst (λ (n : ℕ). ArePermutation n (exchange (size Q) (suc (size Q))) (exchange (size Q) (suc (size Q)))) (sym (sizes u v))
        (exchange_permutation (size Q) (suc (size Q)) (suc (suc (size Q))) (omega arith) (omega arith));
  }
    where
      same : IsMove mode (shape (followed_by (followed_by Q u) v)) identity
      same = let h = shaped_both u v u_column v_column in identity_move mode (shape (followed_by (followed_by Q u) v)) h.orders

  exchanging_takes : TakesTo (followed_by (followed_by Q u) v) exchanging (followed_by (followed_by Q v) u)
  unfolding exchanging identity
  exchanging_takes = record {
    same_shape = λ i. record { factors = Q.factors; rank = Q.rank; size = (sizes v u ∙ sym (sizes u v)) i };
    shaped = shaped_both v u v_column u_column;
    codes = λ f i j l m n.
        let n' : j < suc (suc (size Q)) = subst (λ (k : ℕ). j < k) (sizes u v) n in
        exchanged_codes f i j n'
        ∙ same.codes f i (exchange (size Q) (suc (size Q)) j) l m
        (subst (λ (k : ℕ). exchange (size Q) (suc (size Q)) j < k) (sym (sizes u v))
        (exchange_below (size Q) (suc (size Q)) (suc (suc (size Q))) (omega arith) (omega arith) j n'));
  }
    where
      same : TakesTo (followed_by (followed_by Q u) v) identity (followed_by (followed_by Q u) v)
      same = takes_identity (followed_by (followed_by Q u) v) (shaped_both u v u_column v_column)

  exchanged_equivalent : AreEquivalent mode (followed_by (followed_by Q u) v) (followed_by (followed_by Q v) u)
  exchanged_equivalent = record {
    shaped = shaped_both u v u_column v_column;
    move = exchanging;
    valid = exchanging_move;
    takes = exchanging_takes;
  }

  -- so a column below the last one makes no form
  exchanged_lower : IsStandard Q → slice_cmp nat_cmp v u ≡ Less → ¬ (IsForm mode (followed_by (followed_by Q u) v))
  exchanged_lower st less =
      not_form mode (followed_by (followed_by Q u) v) (followed_by (followed_by Q v) u)
      (standard_followed (followed_by Q v) u (standard_followed Q v st)) exchanged_equivalent
      (before_followed (followed_by Q v) (followed_by Q u) u v (size_followed Q v ∙ sym (size_followed Q u)) (followed_before Q v u less))

-- ---- what is seen at once

-- a column below the last one of a standard parent makes no form
pub below_last : (mode : Mode) (P : Rep) (v : List ℕ) → IsShaped P → IsStandard P → IsProductColumn P.factors P.rank v → IsBelowLast P v →
    ¬ (IsForm mode (followed_by P v))
below_last mode P v shaped st column below =
    let n : ℕ = size P - 1 in
    let later : P.rank < size P = below.later in
    let is : size P ≡ n + 1 = omega arith in
    let split = last_split P n is in
    let u : List ℕ = get_or P.columns n [] in
    let Q : Rep = record P { columns = take n P.columns } in
    let less : slice_cmp nat_cmp v u ≡ Less =
    subst (λ (u : List ℕ). slice_cmp nat_cmp v u ≡ Less) (sym (get_or_from_slice_get P.columns n below.last [] below.is_last)) below.below in
    let whole : IsShaped (followed_by Q u) = subst IsShaped split shaped in
    let room : Q.rank ≤ size Q = (let k : size Q ≡ n = length-take-le n P.columns (omega arith) in omega arith) in
    subst (λ (P : Rep). ¬ (IsForm mode (followed_by P v))) (sym split)
    (exchanged_lower mode Q u v (shaped_before Q u whole) (column_last Q u whole) column
    (standard_before Q u room (subst IsStandard split st)) less)

-- a column that an automorphism of a standard parent carries lower makes no form
pub carried_lower : (s : MovesOf) (mode : Mode) (P : Rep) (v : List ℕ) → s.parent ≡ P → s.mode ≡ mode → IsStandard P → HasLowerImage s v →
    ¬ (IsForm mode (followed_by P v))
carried_lower s mode P v same_parent same_mode st (u, lower) =
    subst (λ (P : Rep). ¬ (IsForm mode (followed_by P v))) same_parent
    (subst (λ (mode : Mode). ¬ (IsForm mode (followed_by s.parent v))) same_mode
    (not_form s.mode (followed_by s.parent v) (followed_by s.parent u)
    (standard_followed s.parent u (subst IsStandard (sym same_parent) st)) lower.image.equivalent
    (followed_before s.parent u v lower.below)))
