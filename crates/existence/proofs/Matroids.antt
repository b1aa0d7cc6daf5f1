-- What the filter for distinct matroids lists has one of each matroid.
use Rattle.std.proofs.Common.{◌≡◌, ℕ, refl, sym, ◌∙◌, ap, List}
use Rattle.std.specs.List.{Contains}
use Rattle.std.specs.Ordering.{ordering_reverse}
use Rattle.std.specs.declared.cmp.Ordering.{Ordering}
use Rattle.std.specs.declared.cmp.Ordering.TheVariants.{Less, Equal, Greater}
use Rattle.matroid_theory.specs.Rep.{Rep}
use Rattle.matroid_theory.specs.Order.{rep_cmp}
use Rattle.matroid_theory.specs.Minor.{HaveSameMatroid}
use Rattle.matroid_theory.specs.Level.{Family, IsMember, IsLevelForm, Passes, IsListed}
use Rattle.matroid_laws.proofs.Levels.{rep_cmp-reversed, rep_cmp-equal}
use Rattle.existence.specs.Exists.{distinct_alone, HasOneOfEachMatroid}
use Rattle.existence.proofs.Deciding.{both}
use Rattle.existence.proofs.RisingLists.{rising_list}
use Rattle.existence.proofs.Levels.{level_form_decided, shape_of, member_shape}
use Rattle.existence.proofs.Filters.{same_matroid_decided}
use Rattle.existence.proofs.SameMatroid.{same_matroid-symmetric, same_matroid-transitive, same_matroid-equivalent}
use Rattle.existence.proofs.Classes.{form_exists, member_carried, first_least}

module _ (q : Family) (n : ℕ) (forms : List Rep) (listed : IsListed q n distinct_alone forms) where
  listed_form : (M : Rep) → Contains forms M → IsLevelForm q n M × Passes q n distinct_alone M
  listed_form M c = let e = listed.exact M in e.0 c

  -- the least form of the level with the matroid of M is listed
  least_listed : (M : Rep) → IsMember q n M → (N : Rep) × Contains forms N × HaveSameMatroid N M
  least_listed M m =
      let r = m.representation in
      let all = rising_list (shape_of q n) (λ N. IsLevelForm q n N × HaveSameMatroid N M)
      (λ N w. (let k = w.0.form.representation in k.shaped, member_shape q n N w.0.member))
      (λ N. both (level_form_decided q n N) (λ f. same_matroid_decided N M f.form.representation r)) in
      let own = form_exists q.mode M r in
      let least = first_least (λ N. IsLevelForm q n N × HaveSameMatroid N M) all.0 all.1 (
        own.0,
        (
          record { form = own.1; member = member_carried q q.mode n M own.0 own.2 m },
          same_matroid-symmetric M own.0 (same_matroid-equivalent q.mode M own.0 r.some own.2),
        ),
      ) in
      let e = listed.exact least.0 in (
        least.0,
        e.1 (
          least.1.0,
          record {
            connected = λ t. cc;
            three = λ t. cc;
            cosimple = λ t. cc;
            has = tt;
            distinct = λ t K k below same.
                least.2 K (k, same_matroid-transitive K least.0 M same least.1.1) (rep_cmp-reversed K least.0 ∙ ap ordering_reverse below);
          },
        ),
        least.1.1,
      )

  -- of two that are listed with the same matroid the greater one would not be listed
  one_listed : (M N : Rep) → Contains forms M → Contains forms N → HaveSameMatroid M N → M ≡ N
  one_listed M N c d same = by (rep_cmp M N) refl
    where
      by : (o : Ordering) → rep_cmp M N ≡ o → M ≡ N
      by Less e = (let w = listed_form N d in absurd (w.1.distinct refl M (let v = listed_form M c in v.0) e same))
      by Equal e =
          (let v = listed_form M c in let w = listed_form N d in
          rep_cmp-equal M N (member_shape q n M v.0.member ∙ sym (member_shape q n N w.0.member)) e)
      by Greater e =
          (let w = listed_form M c in
          absurd (w.1.distinct refl N (let v = listed_form N d in v.0) (rep_cmp-reversed M N ∙ ap ordering_reverse e) (same_matroid-symmetric M N same)))

  pub one_of_each_matroid : HasOneOfEachMatroid q n forms
  one_of_each_matroid = record { members = λ M c. (let w = listed_form M c in w.0.member); each = least_listed; one = one_listed }
