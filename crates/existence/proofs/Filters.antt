-- Whether a form passes the filters; so there is a list of what is listed of a level.
use Rattle.std.proofs.Common.{◌≡◌, ℕ, ◌<◌, sym, ap, subst, Bool, List, inl, Option, None, Some}
use Rattle.std.specs.Prelude.{◌↔◌, IfSome}
use Rattle.std.specs.declared.cmp.Ordering.TheVariants.{Less}
use Rattle.matroid_theory.specs.Rep.{Rep, size}
use Rattle.matroid_theory.specs.Matroid.{IsBasis, IsRepresentation}
use Rattle.matroid_theory.specs.Move.{ArePermutation}
use Rattle.matroid_theory.specs.Order.{rep_cmp}
use Rattle.matroid_theory.specs.Minor.{Matroid, IsMinor, HaveSameMatroid}
use Rattle.matroid_theory.specs.Level.{Family, Filters, IsLevelForm, Passes, IsListed}
use Rattle.matrix_lemmas.proofs.Masks.{IsBasis-same}
use Rattle.existence.specs.Decided.{IsDecided}
use Rattle.existence.proofs.Deciding.{along, both, implied, negated, iff, equal, is_set, is_less, each_set, each_in}
use Rattle.existence.proofs.Covers.{some_covered, number_cover, function_cover, pair_cover}
use Rattle.existence.proofs.AllReps.{all_reps, in_all_of}
use Rattle.existence.proofs.RisingLists.{rising_list}
use Rattle.existence.proofs.Moves.{permutation_decided, permutation_near}
use Rattle.existence.proofs.Bases.{basis_decided, minor_decided}
use Rattle.existence.proofs.Connection.{connected_decided, three_connected_decided, cosimple_decided}
use Rattle.existence.proofs.Levels.{level_form_decided, shape_of, member_shape}

-- ---- one matroid

module _ (M N : Rep) (r : IsRepresentation M) (s : IsRepresentation N) where
  -- a permutation and its inverse that carry the bases
  abbrev Carry : (ℕ → ℕ) × (ℕ → ℕ) → Type 0
  Carry p = ArePermutation (size M) p.0 p.1 × ((S : ℕ → Bool) → IsBasis M 0 (λ j. S (p.0 j)) ↔ IsBasis N 0 S)

  some_carry : size N ≡ size M → IsDecided ((p : (ℕ → ℕ) × (ℕ → ℕ)) × Carry p)
  some_carry sizes =
      let labels = function_cover _ _ _ (number_cover (size M)) 0 (size M) in
      some_covered _ _ _ (pair_cover _ _ _ _ _ _ labels labels) Carry (λ p w. (w.0.below, w.0.inverse_below))
      (λ p o e w. (
        permutation_near (size M) p.0 p.1 o.0 o.1 e.0 e.1 w.0,
        λ S. (let old = w.1 S in
            ((λ b. old.0 (IsBasis-same M 0 _ _ (λ j l. ap S (sym (e.0 j l))) b)), (λ b. IsBasis-same M 0 _ _ (λ j l. ap S (e.0 j l)) (old.1 b)))),
      ))
      (λ p. both (permutation_decided (size M) p.0 p.1) (λ w. each_set (size M) (λ S. IsBasis M 0 (λ j. S (p.0 j)) ↔ IsBasis N 0 S)
      (λ S T h old. (
        (λ b. IsBasis-same N 0 S T (λ j l. h j (subst (λ (n : ℕ). j < n) sizes l)) (old.0 (IsBasis-same M 0 _ _ (λ j l. sym (h (p.0 j) (w.below j l))) b))),
        (λ b. IsBasis-same M 0 _ _ (λ j l. h (p.0 j) (w.below j l)) (old.1 (IsBasis-same N 0 T S (λ j l. sym (h j (subst (λ (n : ℕ). j < n) sizes l))) b))),
      ))
      (λ S. iff (basis_decided M r.shaped 0 r.some (λ j. S (p.0 j))) (basis_decided N s.shaped 0 s.some S))))

  pub same_matroid_decided : IsDecided (HaveSameMatroid M N)
  same_matroid_decided =
      along
      (both (equal N.rank M.rank) (λ _. both (equal (size N) (size M)) some_carry))
      (λ w. record { ranks = w.0; sizes = w.1.0; label = w.1.1.0.0; place = w.1.1.0.1; labels = w.1.1.1.0; bases = w.1.1.1.1 })
      (λ w. (w.ranks, (w.sizes, ((w.label, w.place), (w.labels, w.bases)))))

-- ---- the filters

has_decided : (M : Rep) → IsRepresentation M → (o : Option Matroid) → IsDecided (IfSome o (λ N. IsMinor N M))
has_decided M r None = inl tt
has_decided M r (Some N) = minor_decided N M r.shaped r.some

pub passes_decided : (q : Family) (n : ℕ) (filters : Filters) (M : Rep) → IsRepresentation M → IsDecided (Passes q n filters M)
passes_decided q n filters M r =
    along
    (both (implied (is_set filters.connected) (λ _. connected_decided M r))
    (λ _. both (implied (is_set filters.three) (λ _. three_connected_decided M r))
    (λ _. both (implied (is_set filters.cosimple) (λ _. cosimple_decided M r))
    (λ _. both (has_decided M r filters.has)
    (λ _. implied (is_set filters.distinct) (λ _. each_in (all_reps q.factors q.rank n) (λ N. IsLevelForm q n N → rep_cmp N M ≡ Less
    → ¬ (HaveSameMatroid N M))
    (λ N. implied (level_form_decided q n N) (λ f. implied (is_less (rep_cmp N M)) (λ _. negated (same_matroid_decided N M f.form.representation r))))))))))
    (λ w. record {
      connected = w.0;
      three = w.1.0;
      cosimple = w.1.1.0;
      has = w.1.1.1.0;
      distinct = λ t N f. w.1.1.1.1 t N (let k = f.form.representation in in_all_of N (shape_of q n) k.shaped (member_shape q n N f.member)) f;
    })
    (λ p. (p.connected, (p.three, (p.cosimple, (p.has, λ t N i. p.distinct t N)))))

-- the forms of the level that pass, in rising order
pub listed_exists : (q : Family) (n : ℕ) (filters : Filters) → (forms : List Rep) × IsListed q n filters forms
listed_exists q n filters =
    rising_list (shape_of q n) (λ M. IsLevelForm q n M × Passes q n filters M) (λ M w. (
      let r = w.0.form.representation in
          r.shaped,
      member_shape q n M w.0.member,
    ))
    (λ M. both (level_form_decided q n M) (λ f. passes_decided q n filters M f.form.representation))
