-- A form of a level of size above the rank is a form of the level before and a normalised column after it, so a try.
use Rattle.std.proofs.Common.{◌≡◌, ℕ, suc, ◌<◌, ◌≤◌, subst, arith, List}
use Rattle.std.specs.Bool.{nat_lt}
use Rattle.matroid_theory.specs.Rep.{Rep, size}
use Rattle.matroid_theory.specs.Order.{IsForm}
use Rattle.matroid_theory.specs.Level.{Family, IsLevelForm, IsNormalised, IsTry, followed_by}
use Rattle.matroid_laws.proofs.Followed.{size_followed}
use Rattle.matroid_laws.proofs.Prefix.{prefix_form}
use Rattle.matroid_laws.proofs.Rest.{units_basis, rest_member}
use Rattle.matroid_laws.proofs.Normalised.{last_normalised}

pub last_try : (q : Family) (n : ℕ) (P : Rep) (v : List ℕ) → q.rank < n → IsLevelForm q n (followed_by P v) → IsTry q n (P, v)
last_try q n P v room h = record {
  parent = record {
    form = form;
    member = (let w = form.representation in
        rest_member q n P v (λ j. nat_lt j P.rank) (units_basis P w.shaped form.standard 0 w.some) h.member);
  };
  column = (let m = h.member in
      subst (λ fs. IsNormalised fs q.rank v) m.same_factors
      (subst (λ r. IsNormalised P.factors r v) m.ranks (last_normalised q.mode P v h.form m.simple)));
  member = h.member;
}
  where
    enough : P.rank ≤ size P
    enough =
        let m = h.member in
        let k : size (followed_by P v) ≡ suc (size P) = size_followed P v in
        let e : size (followed_by P v) ≡ n = m.sizes in
        let r : P.rank ≡ q.rank = m.ranks in
        omega arith

    form : IsForm q.mode P
    form = prefix_form q.mode P v enough h.form
