-- The first level of a request: the unit columns alone, where they avoid what is forbidden.
use Rattle.std.proofs.Common.{◌≡◌, ◌<◌, ◌∙◌, ℕ, zero, suc, List, [], ◌∷◌, map, sym, ap, subst, arith}
use Rattle.std.specs.List.{Contains}
use Rattle.matroid_theory.specs.Rep.{Rep, shape, count, size, KeepsLimits, IsStandard}
use Rattle.matroid_theory.specs.Matroid.{Agrees}
use Rattle.matroid_theory.specs.Minor.{Matroid}
use Rattle.matroid_theory.specs.Level.{Family, IsLevel, IsLevelForm}
use Rattle.matroid_laws.proofs.First.{first_level, unit_agrees}
use Rattle.formats.specs.Minors.{given_as}
use Rattle.formats.specs.Request.{Request}
use Rattle.formats.specs.Levels.{AreGivenBy, Grows}
use Rattle.level_driver.specs.Forbidden.{Avoids}
use Rattle.formats.proofs.OneListing.{given_same}

-- the matroids that are given so are those that are forbidden to what the request grows
pub forbidden_are : (q : Request) (Ns : List Matroid) (family : Family) → AreGivenBy (map given_as q.forbid) Ns → Grows q family → Ns ≡ family.forbidden
forbidden_are q Ns family given grows = given_same (map given_as q.forbid) Ns family.forbidden given grows.forbids

module _ (q : Request) (U : Rep) (is_rep : KeepsLimits U) (standard : IsStandard U)
    (shape_is : shape U ≡ record { factors = q.factors; rank = q.rank; size = q.rank }) where
  square : size U ≡ U.rank
  square = ap (λ s. s.size) shape_is ∙ sym (ap (λ s. s.rank) shape_is)

  some : 0 < count U
  some = let fields = is_rep.fields in fields.some

  pub agrees_unit : Agrees U
  agrees_unit = unit_agrees U is_rep.shaped standard square

  module _ (Ns : List Matroid) (given : AreGivenBy (map given_as q.forbid) Ns) (family : Family) (grows : Grows q family) where
    -- the unit columns alone are the level of the size that equals the rank
    pub unit_is_level : Avoids Ns U → IsLevel family q.rank (U ∷ [])
    unit_is_level avoids =
        subst (λ (n : ℕ). IsLevel family n (U ∷ [])) grows.rank_is
        (first_level U is_rep.shaped standard square some family (ap (λ s. s.factors) shape_is ∙ sym grows.factors_are)
        (ap (λ s. s.rank) shape_is ∙ sym grows.rank_is)
        (subst (λ (Ns : List Matroid). Avoids Ns U) (forbidden_are q Ns family given grows) avoids))

    -- where nothing is forbidden they are
    unforbidden : Family
    unforbidden = record family { forbidden = [] }

    in_unforbidden : (M : Rep) → IsLevelForm family q.rank M → IsLevelForm unforbidden q.rank M
    unfolding unforbidden
    in_unforbidden M h = record {
      form = h.form;
      member = (let m = h.member in record {
        same_factors = m.same_factors;
        ranks = m.ranks;
        sizes = m.sizes;
        representation = m.representation;
        simple = m.simple;
        avoids = λ k d l. absurd (omega arith);
      });
    }

    only_unit : (M : Rep) → IsLevelForm family q.rank M → M ≡ U
    unfolding unforbidden
    only_unit M h =
        let level = first_level U is_rep.shaped standard square some unforbidden
        (ap (λ s. s.factors) shape_is ∙ sym grows.factors_are) (ap (λ s. s.rank) shape_is ∙ sym grows.rank_is)
        (λ k d l. absurd (omega arith)) in
        one M ((level.exact M).1 (subst (λ (n : ℕ). IsLevelForm unforbidden n M) (sym grows.rank_is) (in_unforbidden M h)))
      where
        one : (M : Rep) → Contains (U ∷ []) M → M ≡ U
        one M (zero, l, e) = sym e
        one M (suc k, l, e) = absurd (omega arith)

    -- where they have a forbidden minor, the level is empty
    pub no_unit_is_level : ¬ (Avoids Ns U) → IsLevel family q.rank []
    no_unit_is_level has = record {
      rising = λ i j d l m. absurd (omega arith);
      exact = λ M. (
        λ c. let l = c.1 in absurd (omega arith),
        λ h. let m = h.member in
            absurd (has (subst (λ (Ns : List Matroid). Avoids Ns U) (sym (forbidden_are q Ns family given grows))
            (subst (Avoids family.forbidden) (only_unit M h) m.avoids))),
      );
    }
