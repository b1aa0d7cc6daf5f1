-- Powers of the Frobenius automorphism one factor after another: a representation is taken to what its raised ones are taken to by moves of fewer powers.
use Rattle.std.proofs.Common.{◌≡◌, ◌≢◌, ℕ, ◌+◌, ◌<◌, ◌≤◌, refl, sym, ◌∙◌, ap, subst, arith, if◌then◌else◌, cond, true, false, length, slice_index, inl, inr, List}
use Rattle.std.specs.Bool.{◌==◌}
use Rattle.std.specs.declared.cmp.Ordering.TheVariants.{Greater}
use Rattle.std.proofs.lemmas.Bool.{cases_eq, cases_lt}
use Rattle.matroid_theory.specs.Field.{times, degree, raised, IsField, IsFactors}
use Rattle.matroid_theory.specs.Matrix.{Matrix, unit}
use Rattle.matroid_theory.specs.Rep.{Rep, Shape, shape, count, size, order, matrix, IsShaped, IsStandard, KeepsLimits}
use Rattle.matroid_theory.specs.Matroid.{Agrees, IsRepresentation}
use Rattle.matroid_theory.specs.declared.Mode.TheVariants.{Linear, Semilinear}
use Rattle.matroid_theory.specs.Move.{Move, IsMove, moved, AreEquivalent}
use Rattle.matroid_theory.specs.Order.{rep_cmp, IsForm}
use Rattle.matroid_theory.specs.Powers.{IsRaised, AreEquivalentFrom, IsLeastFrom}
use Rattle.matrix_lemmas.proofs.FieldLaws.{field_laws}
use Rattle.matrix_lemmas.proofs.Sums.{same_number, other_number, combination-same}
use Rattle.matrix_lemmas.proofs.Frobenius.{raised_zero, raised_one}
use Rattle.matroid_laws.proofs.Equivalence.{identity, identity_move, takes_identity, equivalent-symmetric, equivalent-transitive}
use Rattle.matroid_laws.proofs.Carried.{agrees_carried}
use Rattle.matroid_laws.proofs.Compared.{not_above_itself, not_above_trans}

-- a factor that isn't at the end is one of them
pub factor_below : (f n m : ℕ) → f ≤ m → n ≡ m → f ≢ n → f < m
factor_below f n m b e d = omega arith

-- a power below the degree of the order, as they are read
pub power_below : (M : Rep) (f t q n : ℕ) (factors : List ℕ) → n ≡ degree q → q ≡ slice_index factors f → factors ≡ M.factors → t < n → t < degree (order M f)
power_below M f t q n factors d e fs l = subst (λ (x : ℕ). t < x) (d ∙ ap degree (e ∙ ap (λ (fs : List ℕ). slice_index fs f) fs)) l

-- ---- moves with one power changed

-- the powers with that of factor f changed
abbrev pub with_power : ℕ → ℕ → (ℕ → ℕ) → ℕ → ℕ
with_power f t powers g = if g == f then t else powers g

pub power_here : (f t : ℕ) (powers : ℕ → ℕ) → with_power f t powers f ≡ t
power_here f t powers = ap (λ b. if b then t else powers f) (same_number f)

pub power_elsewhere : (f t : ℕ) (powers : ℕ → ℕ) (g : ℕ) → g ≢ f → with_power f t powers g ≡ powers g
power_elsewhere f t powers g n = ap (λ b. if b then t else powers g) (other_number g f n)

-- a linear move is one of the other mode
pub semilinear_move : (S : Shape) (m : Move) → IsMove Linear S m → IsMove Semilinear S m
semilinear_move S m v = record {
  powers = v.powers;
  allowed = λ f l. tt;
  codes = v.codes;
  back_codes = v.back_codes;
  inverse = v.inverse;
  scalars = v.scalars;
  nonzero = v.nonzero;
  labels = v.labels;
}

-- and one without powers is linear
linear_move : (S : Shape) (m : Move) → IsMove Semilinear S m → ((f : ℕ) → f < length S.factors → m.power f ≡ 0) → IsMove Linear S m
linear_move S m v z = record {
  powers = v.powers;
  allowed = z;
  codes = v.codes;
  back_codes = v.back_codes;
  inverse = v.inverse;
  scalars = v.scalars;
  nonzero = v.nonzero;
  labels = v.labels;
}

-- a move with another power below the degree is a move
pub power_move : (S : Shape) (m : Move) (f t : ℕ) → t < degree (slice_index S.factors f) → IsMove Semilinear S m
    → IsMove Semilinear S (record m { power = with_power f t m.power })
power_move S m f t b v = record {
  powers = λ g l. elim (cases_eq g f) [
    | inl e ↦ subst (λ (x : ℕ). with_power f t m.power x < degree (slice_index S.factors x)) (sym e)
        (subst (λ (x : ℕ). x < degree (slice_index S.factors f)) (sym (power_here f t m.power)) b)
    | inr n ↦ subst (λ (x : ℕ). x < degree (slice_index S.factors g)) (sym (power_elsewhere f t m.power g n)) (v.powers g l)
  ];
  allowed = λ g l. tt;
  codes = v.codes;
  back_codes = v.back_codes;
  inverse = v.inverse;
  scalars = v.scalars;
  nonzero = v.nonzero;
  labels = v.labels;
}

-- ---- a raised representation

module _ (M : Rep) (f t : ℕ) (R : Rep) (s : IsShaped M) (l : f < count M) (h : IsRaised M f t R) where
  pub raised_count : count R ≡ count M
  raised_count = ap (λ (S : Shape). length S.factors) h.same_shape

  -- what a move of power 0 in factor f makes of R is what the one of power t makes of M
  raised_first : (m : Move) (a b : ℕ → ℕ) → IsMove Semilinear (shape M) m → a f ≡ t → b f ≡ 0 → ((g : ℕ) → g ≢ f → a g ≡ b g)
      → (g i j : ℕ) → g < count M → i < M.rank → j < size M
      → moved (shape M) (matrix R) (record m { power = b }) g i j ≡ moved (shape M) (matrix M) (record m { power = a }) g i j
  raised_first m a b v at bt same g i j k n o =
      ap (times (order M g) (m.scalar g j)) (combination-same (order M g) (field_laws (order M g) (s.orders g k)) M.rank (m.rows g)
      (λ x. raised (order M g) (b g) (matrix R g x (m.label j))) (λ x. raised (order M g) (a g) (matrix M g x (m.label j))) i
      (λ x x'. entry x (m.label j) x' (v.labels.below j o)))
    where
      entry : (x j : ℕ) → x < M.rank → j < size M → raised (order M g) (b g) (matrix R g x j) ≡ raised (order M g) (a g) (matrix M g x j)
      entry x j x' j' =
          elim (cases_eq g f) [
            | inl e ↦
                ap (λ (y : ℕ). raised (order M g) y (matrix R g x j)) (ap b e ∙ bt)
                ∙ subst (λ (y : ℕ). matrix R y x j ≡ raised (order M y) t (matrix M y x j)) (sym e) (h.here x j x' j')
                ∙ ap (λ (y : ℕ). raised (order M g) y (matrix M g x j)) (sym (ap a e ∙ at))
            | inr d ↦
                ap (raised (order M g) (b g)) (h.elsewhere g x j k d x' j')
                ∙ ap (λ (y : ℕ). raised (order M g) y (matrix M g x j)) (sym (same g d))
          ]

  abbrev Codes : Rep → (ℕ → Matrix) → Move → Shape → Type 0
  Codes N A m S = (g i j : ℕ) → g < length S.factors → i < S.rank → j < S.size → matrix N g i j ≡ moved S A m g i j

  -- what R is taken to by a move without powers up to factor f, M is taken to by one that may have a power in factor f
  pub from_raised : (N : Rep) → t < degree (order M f) → AreEquivalentFrom (f + 1) R N → AreEquivalentFrom f M N
  from_raised N d e =
      let v : IsMove Semilinear (shape M) e.move = subst (λ (S : Shape). IsMove Semilinear S e.move) h.same_shape e.valid in
      let c : Codes N (matrix R) e.move (shape M) = subst (Codes N (matrix R) e.move) h.same_shape e.takes.codes in
      record {
        shaped = s;
        move = record e.move { power = with_power f t e.move.power };
        valid = power_move (shape M) e.move f t d v;
        zeros = λ g k b. power_elsewhere f t e.move.power g (λ o. absurd (omega arith)) ∙ e.zeros g (there g k) (omega arith);
        takes = record {
          same_shape = e.takes.same_shape ∙ h.same_shape;
          shaped = e.takes.shaped;
          codes = λ g i j k n o.
              c g i j k n o
              ∙ raised_first e.move (with_power f t e.move.power) e.move.power v (power_here f t e.move.power) (e.zeros f (there f l) (omega arith))
              (power_elsewhere f t e.move.power) g i j k n o;
        };
      }
    where
      there : (g : ℕ) → g < count M → g < count R
      there g k = subst (λ (n : ℕ). g < n) (sym raised_count) k

  -- and what M is taken to by a move of power t in factor f, R is taken to by one without a power there
  pub to_raised : (N : Rep) (e : AreEquivalentFrom f M N) → e.move.power f ≡ t → AreEquivalentFrom (f + 1) R N
  to_raised N e p =
      let F : IsField (order M f) = field_laws (order M f) (s.orders f l) in
      let v : IsMove Semilinear (shape M) (record e.move { power = with_power f 0 e.move.power }) = power_move (shape M) e.move f 0 F.degree_positive e.valid in
      let c : Codes N (matrix R) (record e.move { power = with_power f 0 e.move.power }) (shape M) =
      λ g i j k n o. e.takes.codes g i j k n o
      ∙ sym (raised_first e.move e.move.power (with_power f 0 e.move.power) e.valid p (power_here f 0 e.move.power)
      (λ g d. sym (power_elsewhere f 0 e.move.power g d)) g i j k n o) in
      record {
        shaped = h.shaped;
        move = record e.move { power = with_power f 0 e.move.power };
        valid = subst (λ (S : Shape). IsMove Semilinear S (record e.move { power = with_power f 0 e.move.power })) (sym h.same_shape) v;
        zeros = λ g k b. elim (cases_eq g f) [
          | inl o ↦ ap (with_power f 0 e.move.power) o ∙ power_here f 0 e.move.power
          | inr d ↦ power_elsewhere f 0 e.move.power g d ∙ e.zeros g (subst (λ (n : ℕ). g < n) raised_count k) (omega arith)
        ];
        takes = record {
          same_shape = e.takes.same_shape ∙ sym h.same_shape;
          shaped = e.takes.shaped;
          codes = subst (Codes N (matrix R) (record e.move { power = with_power f 0 e.move.power })) (sym h.same_shape) c;
        };
      }

-- ---- equivalence without the powers of the first factors

pub from-reflexive : (f : ℕ) (M : Rep) → IsShaped M → AreEquivalentFrom f M M
unfolding identity
from-reflexive f M s = record {
  shaped = s;
  move = identity;
  valid = identity_move Semilinear (shape M) s.orders;
  zeros = λ g l b. refl;
  takes = takes_identity M s;
}

-- from the number of factors on it is that by linear moves
pub from-linear : (f : ℕ) (M N : Rep) → AreEquivalent Linear M N → AreEquivalentFrom f M N
from-linear f M N e = record {
  shaped = e.shaped;
  move = e.move;
  valid = semilinear_move (shape M) e.move e.valid;
  zeros = λ g l b. e.valid.allowed g l;
  takes = e.takes;
}

pub linear-from : (f : ℕ) (M N : Rep) → count M ≤ f → AreEquivalentFrom f M N → AreEquivalent Linear M N
linear-from f M N b e = record {
  shaped = e.shaped;
  move = e.move;
  valid = linear_move (shape M) e.move e.valid (λ g l. e.zeros g l (omega arith));
  takes = e.takes;
}

-- from 0 on it is that by all moves
pub from-semilinear : (M N : Rep) → AreEquivalent Semilinear M N → AreEquivalentFrom 0 M N
from-semilinear M N e = record {
  shaped = e.shaped;
  move = e.move;
  valid = e.valid;
  zeros = λ g l b. absurd (omega arith);
  takes = e.takes;
}

pub semilinear-from : (f : ℕ) (M N : Rep) → AreEquivalentFrom f M N → AreEquivalent Semilinear M N
semilinear-from f M N e = record {
  shaped = e.shaped;
  move = e.move;
  valid = e.valid;
  takes = e.takes;
}

-- ---- what a raised representation keeps

-- raised no times
pub raised_none : (M : Rep) (f : ℕ) → IsShaped M → IsRaised M f 0 M
raised_none M f s = record {
  same_shape = refl;
  shaped = s;
  here = λ i j l m. refl;
  elsewhere = λ g i j l d m n. refl;
}

module _ (M : Rep) (f t : ℕ) (R : Rep) (s : IsShaped M) (l : f < count M) (h : IsRaised M f t R) where
  pub raised_equivalent : t < degree (order M f) → AreEquivalent Semilinear M R
  raised_equivalent d = semilinear-from f M R (from_raised M f t R s l h R d (from-reflexive (f + 1) R h.shaped))

  pub raised_agrees : t < degree (order M f) → Agrees M → Agrees R
  raised_agrees d a = let c = agrees_carried Semilinear M R (raised_equivalent d) in c.0 a

  pub raised_representation : t < degree (order M f) → IsRepresentation M → IsRepresentation R
  raised_representation d r = record {
    some = subst (λ (S : Shape). 0 < length S.factors) (sym h.same_shape) r.some;
    shaped = h.shaped;
    agrees = raised_agrees d r.agrees;
  }

  raised_unit : (q i j : ℕ) → IsField q → raised q t (unit i j) ≡ unit i j
  raised_unit q i j F = elim (i == j) as (λ b. raised q t (cond b 1 0) ≡ cond b 1 0) [ true ↦ raised_one q F t | false ↦ raised_zero q F t ]

  pub raised_standard : IsStandard M → IsStandard R
  raised_standard u = record {
    room = subst (λ (S : Shape). S.rank ≤ S.size) (sym h.same_shape) u.room;
    units = subst Units (sym h.same_shape) entries;
  }
    where
      Units : Shape → Type 0
      Units S = (g i j : ℕ) → g < length S.factors → i < S.rank → j < S.rank → matrix R g i j ≡ unit i j

      entries : Units (shape M)
      entries g i j k m n =
          let r : M.rank ≤ size M = u.room in
          elim (cases_eq g f) [
            | inl e ↦ subst (λ (x : ℕ). matrix R x i j ≡ unit i j) (sym e)
                (h.here i j m (omega arith) ∙ ap (raised (order M f) t) (u.units f i j l m n)
                ∙ raised_unit (order M f) i j (field_laws (order M f) (s.orders f l)))
            | inr d ↦ h.elsewhere g i j k d m (omega arith) ∙ u.units g i j k m n
          ]

  pub raised_limits : KeepsLimits M → KeepsLimits R
  raised_limits k = record {
    fields = subst (λ (S : Shape). IsFactors S.factors) (sym h.same_shape) k.fields;
    rank_positive = subst (λ (S : Shape). 0 < S.rank) (sym h.same_shape) k.rank_positive;
    rank_most = subst (λ (S : Shape). S.rank ≤ 6) (sym h.same_shape) k.rank_most;
    size_most = subst (λ (S : Shape). S.size ≤ 16) (sym h.same_shape) k.size_most;
    shaped = h.shaped;
  }

-- ---- the least, over the powers of one factor after another

-- N is the least of the standard representations that M is taken to by moves whose power in factor f is below t, and 0 in the factors before
pub record IsLeastBelow (f t : ℕ) (M N : Rep) : Type 0 where
  pub standard : IsStandard N
  pub equivalent : AreEquivalentFrom f M N
  pub least : (L : Rep) → IsStandard L → (e : AreEquivalentFrom f M L) → e.move.power f < t → rep_cmp N L ≢ Greater

-- the linear form is the least from the number of factors on
pub least_linear : (f : ℕ) (M N : Rep) → count M ≤ f → IsForm Linear N → AreEquivalent Linear M N → IsLeastFrom f M N
least_linear f M N b n e = record {
  standard = n.standard;
  equivalent = from-linear f M N e;
  least = λ L s d. n.least L s (equivalent-transitive Linear N M L (equivalent-symmetric Linear M N e) (linear-from f M L b d));
}

-- the least from 0 on is the form of the other mode
pub least_semilinear : (M N : Rep) → IsRepresentation M → IsLeastFrom 0 M N → IsForm Semilinear N × AreEquivalent Semilinear M N
least_semilinear M N r h =
    let e : AreEquivalent Semilinear M N = semilinear-from 0 M N h.equivalent in
    let c = agrees_carried Semilinear M N e in (
      record {
        representation = record {
          some = subst (λ (S : Shape). 0 < length S.factors) (sym e.takes.same_shape) r.some;
          shaped = e.takes.shaped;
          agrees = c.0 r.agrees;
        };
        standard = h.standard;
        least = λ L s d. h.least L s (from-semilinear M L (equivalent-transitive Semilinear M N L e d));
      },
      e,
    )

-- the powers below 1: only 0
pub least_first : (f : ℕ) (M N : Rep) → IsShaped M → f < count M → IsLeastFrom (f + 1) M N → IsLeastBelow f 1 M N
least_first f M N s l h =
    let F : IsField (order M f) = field_laws (order M f) (s.orders f l) in
    record {
      standard = h.standard;
      equivalent = from_raised M f 0 M s l (raised_none M f s) N F.degree_positive h.equivalent;
      least = λ L u e b. h.least L u (to_raised M f 0 M s l (raised_none M f s) L e (omega arith));
    }

-- one more power
module _ (f t : ℕ) (M R best other : Rep) (s : IsShaped M) (l : f < count M) (d : t < degree (order M f))
    (h : IsRaised M f t R) (b : IsLeastBelow f t M best) (o : IsLeastFrom (f + 1) R other) where
  least_of : (N : Rep) → IsStandard N → AreEquivalentFrom f M N → rep_cmp N best ≢ Greater → rep_cmp N other ≢ Greater → IsLeastBelow f (t + 1) M N
  least_of N n e x y = record {
    standard = n;
    equivalent = e;
    least = λ L u g k. elim (cases_lt (g.move.power f) t) [
      | inl lt ↦ not_above_trans N best L x (b.least L u g lt)
      | inr ge ↦ not_above_trans N other L y (o.least L u (to_raised M f t R s l h L g (omega arith)))
    ];
  }

  pub least_kept : rep_cmp best other ≢ Greater → IsLeastBelow f (t + 1) M best
  least_kept c = least_of best b.standard b.equivalent (not_above_itself best) c

  pub least_replaced : rep_cmp other best ≢ Greater → IsLeastBelow f (t + 1) M other
  least_replaced c = least_of other o.standard (from_raised M f t R s l h other d o.equivalent) c (not_above_itself other)

  -- both are of one shape
  pub one_shape : shape other ≡ shape best
  one_shape = o.equivalent.takes.same_shape ∙ h.same_shape ∙ sym b.equivalent.takes.same_shape

-- all powers
pub least_all : (f t : ℕ) (M N : Rep) → f < count M → degree (order M f) ≤ t → IsLeastBelow f t M N → IsLeastFrom f M N
least_all f t M N l d h = record {
  standard = h.standard;
  equivalent = h.equivalent;
  least = λ L u e. h.least L u e (let b : e.move.power f < degree (order M f) = e.valid.powers f l in omega arith);
}
