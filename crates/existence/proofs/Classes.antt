-- Each class of representations has a form; members are carried by equivalence; and what follows for tries.
use Rattle.std.proofs.Common.{◌≡◌, ◌≢◌, ℕ, zero, suc, ◌<◌, refl, sym, ◌∙◌, ap, subst, arith, List, [], ◌∷◌, ◌++◌, length}
use Rattle.std.specs.List.{Contains, slice_index_or}
use Rattle.std.specs.declared.cmp.Ordering.TheVariants.{Less, Greater}
use Rattle.matroid_theory.specs.declared.Mode.{Mode}
use Rattle.matroid_theory.specs.Rep.{Rep, shape, size, IsStandard}
use Rattle.matroid_theory.specs.Matroid.{IsRepresentation}
use Rattle.matroid_theory.specs.Move.{AreEquivalent}
use Rattle.matroid_theory.specs.Order.{rep_cmp, IsForm}
use Rattle.matroid_theory.specs.Level.{Family, IsMember, IsLevelForm, IsLevel, IsRisingList, IsTry, IsTryFor, followed_by}
use Rattle.matroid_laws.proofs.Equivalence.{equivalent-reflexive, equivalent-transitive}
use Rattle.matroid_laws.proofs.Carried.{agrees_carried, simple_carried}
use Rattle.matroid_laws.proofs.Built.{standard_exists}
use Rattle.matroid_laws.proofs.Forms.{one_form}
use Rattle.matroid_laws.proofs.Parents.{last_try}
use Rattle.matroid_laws.proofs.Compared.{not_above_itself}
use Rattle.existence.specs.Exists.{HasOneOfEachClass}
use Rattle.existence.proofs.Deciding.{both}
use Rattle.existence.proofs.RisingLists.{rising_list}
use Rattle.existence.proofs.Shaped.{standard_decided}
use Rattle.existence.proofs.Moves.{equivalent_decided}
use Rattle.existence.proofs.SameMatroid.{same_matroid-equivalent, same_minors}

-- ---- the form of a class

-- the first of a rising list that isn't empty is not above any of it
pub first_least : (P : Rep → Type 0) (forms : List Rep) → IsRisingList P forms → ((N : Rep) × P N) → (N : Rep) × P N × ((L : Rep) → P L → rep_cmp N L ≢ Greater)
first_least P [] r w = (let e = r.exact w.0 in let c = e.1 w.1 in absurd (let l = c.1 in omega arith))
first_least P (N ∷ Ns) r w = (
  N,
  (let e = r.exact N in e.0 (0, omega arith, refl)),
  λ L p. (let e = r.exact L in at L (e.1 p)),
)
  where
    at : (L : Rep) → Contains (N ∷ Ns) L → rep_cmp N L ≢ Greater
    at L (zero, l, e) g = not_above_itself N (ap (rep_cmp N) e ∙ g)
    at L (suc k, l, e) g = (let h : rep_cmp N L ≡ Less = ap (rep_cmp N) (sym e) ∙ r.rising 0 (suc k) L (omega arith) l in cc)

-- the first of the standard representations equivalent to M, in rising order
pub form_exists : (mode : Mode) (M : Rep) → IsRepresentation M → (N : Rep) × IsForm mode N × AreEquivalent mode M N
form_exists mode M r =
    let all = rising_list (shape M) (λ N. IsStandard N × AreEquivalent mode M N) (λ N w. (w.1.takes.shaped, w.1.takes.same_shape))
    (λ N. both (standard_decided N) (λ _. equivalent_decided mode M N)) in
    let least = first_least (λ N. IsStandard N × AreEquivalent mode M N) all.0 all.1 (let w = standard_exists mode M r.shaped r.some r.agrees in
    (w.0, (w.1, w.2))) in
    let e = least.1.1 in (
      least.0,
      record {
        representation = record {
          some = subst (λ S. 0 < length S.factors) (sym e.takes.same_shape) r.some;
          shaped = e.takes.shaped;
          agrees = (let c = agrees_carried mode M least.0 e in c.0 r.agrees);
        };
        standard = least.1.0;
        least = λ L s d. least.2 L (s, equivalent-transitive mode M least.0 L e d);
      },
      e,
    )

-- ---- members

-- what is equivalent to a member is one
pub member_carried : (q : Family) (mode : Mode) (n : ℕ) (M N : Rep) → AreEquivalent mode M N → IsMember q n M → IsMember q n N
member_carried q mode n M N e m =
    let r = m.representation in
    let some = r.some in
    record {
      same_factors = ap (λ S. S.factors) e.takes.same_shape ∙ m.same_factors;
      ranks = ap (λ S. S.rank) e.takes.same_shape ∙ m.ranks;
      sizes = ap (λ S. S.size) e.takes.same_shape ∙ m.sizes;
      representation = record {
        some = subst (λ S. 0 < length S.factors) (sym e.takes.same_shape) some;
        shaped = e.takes.shaped;
        agrees = (let c = agrees_carried mode M N e in c.0 r.agrees);
      };
      simple = (let c = simple_carried mode M N e in c.0 m.simple);
      avoids = λ k d l w. m.avoids k d l ((let c = same_minors M N (same_matroid-equivalent mode M N some e) (slice_index_or q.forbidden k d) in c.1 w));
    }

-- a level has one of each class
pub one_of_each_class : (q : Family) (n : ℕ) (forms : List Rep) → IsLevel q n forms → HasOneOfEachClass q n forms
one_of_each_class q n forms level = record {
  members = λ M c. (let f = form_of M c in f.member);
  each = λ M m.
      let w = form_exists q.mode M m.representation in
      let e = level.exact w.0 in
      (w.0, e.1 (record { form = w.1; member = member_carried q q.mode n M w.0 w.2 m }), w.2);
  one = λ M N c d e. (let f = form_of M c in let g = form_of N d in one_form q.mode M N f.form g.form e);
}
  where
    form_of : (M : Rep) → Contains forms M → IsLevelForm q n M
    form_of M c = let e = level.exact M in e.0 c

-- ---- tries

-- a try has a form
pub try_has_form : (q : Family) (n : ℕ) (try : Rep × List ℕ) → IsTry q n try → (N : Rep) × IsTryFor q n N try
try_has_form q n try t =
    let w = form_exists q.mode (followed_by try.0 try.1) (let m = t.member in m.representation) in
    (w.0, record { is_try = t; form = w.1; equivalent = w.2 })

-- and it is a form of the level
pub form_of_try : (q : Family) (n : ℕ) (N : Rep) (try : Rep × List ℕ) → IsTryFor q n N try → IsLevelForm q n N
form_of_try q n N try w = record { form = w.form; member = member_carried q q.mode n (followed_by try.0 try.1) N w.equivalent (let t = w.is_try in t.member) }

-- a list that isn't empty is a front and its last element
last_of : {X : Type 0} (x : X) (xs : List X) → (front : List X) × (last : X) × (x ∷ xs ≡ front ++ last ∷ [])
last_of x [] = ([], x, refl)
last_of {X = X} x (y ∷ ys) = let w = last_of y ys in (x ∷ w.0, w.1, ap (λ (zs : List X). x ∷ zs) w.2)

-- a representation that has a column is another followed by one
split_last : (N : Rep) → 0 < size N → (P : Rep) × (v : List ℕ) × (N ≡ followed_by P v)
split_last N l = at N.columns l refl
  where
    at : (cs : List (List ℕ)) → 0 < length cs → N.columns ≡ cs → (P : Rep) × (v : List ℕ) × (N ≡ followed_by P v)
    at [] l e = absurd (omega arith)
    at (c ∷ cs) l e = (let w = last_of c cs in (record N { columns = w.0 }, w.1, λ i. record N { columns = (e ∙ w.2) i }))

-- a form of size above the rank is its front, which is a form, followed by its last column, and that is a try for it
pub form_has_try : (q : Family) (n : ℕ) (N : Rep) → q.rank < n → IsLevelForm q n N → (P : Rep) × (v : List ℕ) × (N ≡ followed_by P v) × IsTryFor q n N (P, v)
form_has_try q n N room h =
    let s : size N ≡ n = (let m = h.member in m.sizes) in
    let w = split_last N (omega arith) in (
      w.0,
      w.1,
      w.2,
      record {
        is_try = last_try q n w.0 w.1 room (subst (IsLevelForm q n) w.2 h);
        form = h.form;
        equivalent = subst (λ M. AreEquivalent q.mode M N) w.2 (equivalent-reflexive q.mode N (let r = h.form.representation in r.shaped));
      },
    )
