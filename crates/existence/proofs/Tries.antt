-- There is a number of tries of each size.
use Rattle.std.proofs.Common.{◌≡◌, ◌≢◌, ℕ, suc, ◌+◌, ◌-◌, ◌*◌, ◌<◌, refl, sym, ◌∙◌, ap, subst, arith, List, [], ◌∷◌, length, slice_index, inl, inr}
use Rattle.std.specs.List.{AllPairs}
use Rattle.std.proofs.lemmas.List.Kept.{AllPairs-cons}
use Rattle.matroid_theory.specs.Field.{IsOrder}
use Rattle.matroid_theory.specs.Rep.{Rep, size}
use Rattle.matroid_theory.specs.Level.{Family, IsNormalised, IsTry, IsCount, followed_by}
use Rattle.matroid_laws.proofs.Followed.{size_followed}
use Rattle.existence.specs.Decided.{IsDecided}
use Rattle.existence.proofs.Deciding.{IsIn, at_place, to_contains, from_contains, along, both, implied}
use Rattle.existence.proofs.Deciding.{equal, equal_lists, is_in, some_below, each_below, each_two, each_three}
use Rattle.existence.proofs.Covers.{pairs, in_pairs}
use Rattle.existence.proofs.AllReps.{all_reps, all_columns, in_columns, in_all_of}
use Rattle.existence.proofs.RisingLists.{keep}
use Rattle.existence.proofs.Shaped.{product_column_decided, same_rep_decided}
use Rattle.existence.proofs.Levels.{member_decided, level_form_decided, shape_of, member_shape}

normalised_decided : (factors : List ℕ) (rank : ℕ) (v : List ℕ) → IsDecided (IsNormalised factors rank v)
normalised_decided factors rank v =
    along
    (both (product_column_decided factors rank v)
    (λ _. both (some_below rank (λ lead. ((i f : ℕ) → i < lead → f < length factors → slice_index v (i * length factors + f) ≡ 0) × ((f : ℕ)
    → f < length factors → slice_index v (lead * length factors + f) ≡ 1))
    (λ lead _. both (each_two lead (length factors) (λ i f. slice_index v (i * length factors + f) ≡ 0) (λ i f _ _. equal _ _))
    (λ _. each_below (length factors) (λ f. slice_index v (lead * length factors + f) ≡ 1) (λ f _. equal _ _))))
    (λ _. each_three rank (length factors) (length factors) (λ i f g. slice_index v (i * length factors + f) ≡ 0 → slice_index v (i * length factors + g) ≡ 0)
    (λ i f g _ _ _. implied (equal _ _) (λ _. equal _ _)))))
    (λ w. record { is_column = w.0; lead = w.1.0.0; lead_below = w.1.0.1; zeros = w.1.0.2.0; ones = w.1.0.2.1; support = w.1.1 })
    (λ w. (w.is_column, ((w.lead, w.lead_below, (w.zeros, w.ones)), w.support)))

pub try_decided : (q : Family) (n : ℕ) (try : Rep × List ℕ) → IsDecided (IsTry q n try)
try_decided q n try =
    along
    (both (level_form_decided q (size try.0) try.0) (λ _. both (normalised_decided q.factors q.rank try.1)
    (λ _. member_decided q n (followed_by try.0 try.1))))
    (λ w. record { parent = w.0; column = w.1.0; member = w.1.1 }) (λ t. (t.parent, (t.column, t.member)))

-- a list without repeats, with the elements of another
record Once {X : Type 0} (xs ys : List X) : Type 0 where
  apart : AllPairs (λ x y. x ≢ y) ys
  from : (x : X) → IsIn x ys → IsIn x xs
  old : (x : X) → IsIn x xs → IsIn x ys

-- there is such a list where equality is decided
once : {X : Type 0} → ((x y : X) → IsDecided (x ≡ y)) → (xs : List X) → (ys : List X) × Once xs ys
once same [] = ([], record { apart = λ i j d l m. absurd (omega arith); from = λ x i. i; old = λ x i. i })
once {X = X} same (x ∷ xs) = (let r = once same xs in elim (is_in same x r.0) [
  | inl i ↦ (
    r.0,
    record {
      apart = r.1.apart;
      from = λ y j. inr (r.1.from y j);
      old = λ y j. elim j
          [ inl e ↦ subst (λ (z : X). IsIn z r.0) e i | inr k ↦ r.1.old y k ];
    },
  )
  | inr new ↦ (
    x ∷ r.0,
    record {
      apart = AllPairs-cons (λ x y. x ≢ y) x r.0 (λ k d l e. new (subst (λ (z : X). IsIn z r.0) (sym e) (at_place r.0 k d l))) r.1.apart;
      from = λ y j. elim j [ inl e ↦ inl e | inr k ↦ inr (r.1.from y k) ];
      old = λ y j. elim j [ inl e ↦ inl e | inr k ↦ inr (r.1.old y k) ];
    },
  )
])

-- so what is decided and stands in a list can be counted
count_listed : {X : Type 0} → ((x y : X) → IsDecided (x ≡ y)) → (P : X → Type 0) → ((x : X) → IsDecided (P x)) → (xs : List X) → ((x : X) → P x → IsIn x xs)
    → (n : ℕ) × IsCount P n
count_listed same P d xs here =
    let r = keep P d xs in
    let s = once same r.kept in (
      length s.0,
      record {
        list = s.0;
        apart = s.1.apart;
        exact = λ x. ((λ c. r.sound x (s.1.from x (from_contains x s.0 c))), (λ p. to_contains x s.0 (s.1.old x (r.complete x (here x p) p))));
        number = refl;
      },
    )

same_try_decided : (a b : Rep × List ℕ) → IsDecided (a ≡ b)
same_try_decided a b = along (both (same_rep_decided a.0 b.0) (λ _. equal_lists equal a.1 b.1)) (λ w i. (w.0 i, w.1 i))
    (λ e. (ap (λ (t : Rep × List ℕ). t.0) e, ap (λ (t : Rep × List ℕ). t.1) e))

-- each try of a size is a pair of two lists
try_listed : (q : Family) (n : ℕ) (try : Rep × List ℕ) → IsTry q n try → IsIn try (pairs (all_reps q.factors q.rank (n - 1)) (all_columns q.factors q.rank))
try_listed q n try t =
    let member = t.parent.member in
    let sizes : size (followed_by try.0 try.1) ≡ n = t.member.sizes in
    let more : size (followed_by try.0 try.1) ≡ suc (size try.0) = size_followed try.0 try.1 in
    let before : size try.0 ≡ n - 1 = omega arith in
    let r = member.representation in
    let orders = subst (λ (fs : List ℕ). (f : ℕ) → f < length fs → IsOrder (slice_index fs f)) member.same_factors r.shaped.orders in
    in_pairs (all_reps q.factors q.rank (n - 1)) (all_columns q.factors q.rank) try.0 try.1
    (in_all_of try.0 (shape_of q (n - 1)) r.shaped (member_shape q (size try.0) try.0 member ∙ ap (shape_of q) before))
    (in_columns q.factors q.rank try.1 orders t.column.is_column)

-- so the tries can be counted
pub tries_exist : (q : Family) (n : ℕ) → (tried : ℕ) × IsCount (IsTry q n) tried
tries_exist q n = count_listed same_try_decided (IsTry q n) (try_decided q n) (pairs (all_reps q.factors q.rank (n - 1)) (all_columns q.factors q.rank))
    (try_listed q n)
