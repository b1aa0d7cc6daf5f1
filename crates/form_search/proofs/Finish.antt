-- What was found is the form's list of numbers, where it is not above that of any form.
use Rattle.std.proofs.Common.{◌≡◌, ◌≢◌, ◌⊎◌, inl, inr, refl, ℕ, zero, suc, ◌+◌, ◌-◌, ◌*◌, ◌^◌, ◌<◌, ◌≤◌, List, [], ◌∷◌, length, slice_index, slice_index_or, sym, ◌∙◌, ap, subst, arith, lit<}
use Rattle.std.proofs.lemmas.Bool.{cases_lt}
use Rattle.std.proofs.lemmas.Cmp.{ranked, nat_list_cmp_total, tied_itself}
use Rattle.std.specs.Cmp.Lexicographic.{slice_cmp}
use Rattle.std.specs.Ordering.{nat_cmp, ordering_then, ordering_reverse, MatchOrdering}
use Rattle.std.specs.declared.cmp.Ordering.{Ordering}
use Rattle.std.specs.declared.cmp.Ordering.TheVariants.{Less, Equal, Greater}
use Rattle.std.proofs.Math.Nat.{mul-le-mul, le_refl}
use Rattle.matroid_theory.specs.Matroid.{IsRepresentation}
use Rattle.matroid_laws.proofs.Carried.{agrees_carried}
use Rattle.matroid_theory.specs.declared.Mode.TheVariants.{Linear}
use Rattle.matroid_theory.specs.Rep.{Rep, Shape, shape, count, size, matrix, IsShaped, IsStandard}
use Rattle.matroid_theory.specs.Move.{Move, AreEquivalent}
use Rattle.matroid_theory.specs.Order.{rep_cmp, IsForm}
use Rattle.matroid_laws.proofs.First.{same_codes, digit_less}
use Rattle.matroid_laws.proofs.Equivalence.{equivalent-transitive}
use Rattle.form_trails.specs.Trail.{ReachesForm}
use Rattle.form_trails.specs.Numbers.{value}
use Rattle.form_trails.specs.Least.{number}
use Rattle.form_search.specs.Search.{numbers_of, AreOfClass}
use Rattle.form_trails.proofs.Numbers.{value_below, value_ranked, value_same}
use Rattle.form_trails.proofs.Columns.{column, column_length, column_digits, column_number, same_column, number_same}
use Rattle.form_search.proofs.Found.{below_less, numbers_length, numbers_at, class_length}
use Rattle.form_search.proofs.FormsSuffice.{forms_suffice}

-- ---- lists of numbers below a bound, as one number

abbrev places : ℕ → List ℕ → ℕ
places b [] = 1
places b (x ∷ xs) = b * places b xs

abbrev whole : ℕ → List ℕ → ℕ
whole b [] = 0
whole b (x ∷ xs) = x * places b xs + whole b xs

abbrev AreBelow : ℕ → List ℕ → Type 0
AreBelow b xs = (p : ℕ) → p < length xs → slice_index xs p < b

rest_below : (b x : ℕ) (xs : List ℕ) → AreBelow b (x ∷ xs) → AreBelow b xs
rest_below b x xs h p l = h (suc p) (omega arith)

step_below : (b x n v : ℕ) → x < b → v < n → x * n + v < b * n
step_below b x n v l m = let h : suc x * n ≤ b * n = mul-le-mul (let k : suc x ≤ b = omega arith in k) (le_refl n) in omega arith

whole_below : (b : ℕ) (xs : List ℕ) → AreBelow b xs → whole b xs < places b xs
whole_below b [] h = lit< tt
whole_below b (x ∷ xs) h = step_below b x (places b xs) (whole b xs) (h 0 (omega arith)) (whole_below b xs (rest_below b x xs h))

same_places : (b : ℕ) (xs ys : List ℕ) → length xs ≡ length ys → places b xs ≡ places b ys
same_places b [] [] e = refl
same_places b [] (y ∷ ys) e = absurd (omega arith)
same_places b (x ∷ xs) [] e = absurd (omega arith)
same_places b (x ∷ xs) (y ∷ ys) e = ap (λ k. b * k) (same_places b xs ys (omega arith))

whole_greater : (b : ℕ) (xs ys : List ℕ) → AreBelow b ys → length xs ≡ length ys → slice_cmp nat_cmp xs ys ≡ Greater → whole b ys < whole b xs
whole_greater b [] [] h e g = cc
whole_greater b [] (y ∷ ys) h e g = absurd (omega arith)
whole_greater b (x ∷ xs) [] h e g = absurd (omega arith)
whole_greater b (x ∷ xs) (y ∷ ys) h e g = go (whole_greater b xs ys (rest_below b y ys h) (omega arith)) (nat_cmp x y) (ranked x y (nat_cmp x y) refl) g
  where
    n : places b xs ≡ places b ys
    n = same_places b xs ys (omega arith)

    go : (slice_cmp nat_cmp xs ys ≡ Greater → whole b ys < whole b xs) → (o : Ordering) → MatchOrdering o (x < y) (x ≡ y) (y < x) →
        ordering_then o (slice_cmp nat_cmp xs ys) ≡ Greater → whole b (y ∷ ys) < whole b (x ∷ xs)
    go ih Less a q = cc
    go ih Equal a q = let k : whole b ys < whole b xs = ih q in let t : x * places b xs ≡ y * places b ys = (λ i. a i * n i) in omega arith
    go ih Greater a q = subst (λ (k : ℕ). y * places b ys + whole b ys < x * k + whole b xs) (sym n)
        (digit_less y x (places b ys) (whole b ys) (whole b xs) a (whole_below b ys (rest_below b y ys h)))

-- ---- the first difference

then_greater : (o p : Ordering) → ordering_then o p ≡ Greater → (o ≡ Greater) ⊎ ((o ≡ Equal) × (p ≡ Greater))
then_greater Less p e = cc
then_greater Equal p e = inr (refl, e)
then_greater Greater p e = inl refl

greater_at : {X : Type 0} (R : X → X → Ordering) (z : X) (xs ys : List X) → length xs ≡ length ys →
    ((j : ℕ) → j < length xs → R (slice_index_or xs j z) (slice_index_or ys j z) ≡ Equal → slice_index_or xs j z ≡ slice_index_or ys j z)
    → slice_cmp R xs ys ≡ Greater → (p : ℕ) × (p < length xs) × ((j : ℕ) → j < p → slice_index_or xs j z ≡ slice_index_or ys j z)
    × (R (slice_index_or xs p z) (slice_index_or ys p z) ≡ Greater)
greater_at R z [] [] e same g = cc
greater_at R z [] (y ∷ ys) e same g = absurd (omega arith)
greater_at R z (x ∷ xs) [] e same g = absurd (omega arith)
greater_at R z (x ∷ xs) (y ∷ ys) e same g = elim (then_greater (R x y) (slice_cmp R xs ys) g) [
  | inl q ↦ (0, omega arith, (λ j l. absurd (omega arith)), q)
  | inr q ↦ (let (p, l, before, w) = greater_at R z xs ys (omega arith) (λ j l. same (suc j) (omega arith)) q.1 in
      (suc p, omega arith, next (same 0 (omega arith) q.0) before, w))
]
  where
    next : x ≡ y → {p : ℕ} → ((j : ℕ) → j < p → slice_index_or xs j z ≡ slice_index_or ys j z) → (j : ℕ) → j < suc p →
        slice_index_or (x ∷ xs) j z ≡ slice_index_or (y ∷ ys) j z
    next q {p} h zero l = q
    next q {p} h (suc j) l = h j (omega arith)

-- ---- standard representations of one shape

module _ (M N P : Rep) (n_shaped : IsShaped N) (p_shaped : IsShaped P) (n_standard : IsStandard N) (p_standard : IsStandard P)
    (n_same : shape N ≡ shape M) (p_same : shape P ≡ shape M) where
  in_count : (L : Rep) → shape L ≡ shape M → {f : ℕ} → f < count M → f < count L
  in_count L e {f} b = subst (λ (S : Shape). f < length S.factors) (sym e) b

  in_rank : (L : Rep) → shape L ≡ shape M → {i : ℕ} → i < M.rank → i < L.rank
  in_rank L e {i} b = subst (λ (S : Shape). i < S.rank) (sym e) b

  unit_columns : (j : ℕ) → j < M.rank → (f i : ℕ) → f < count M → i < M.rank → matrix N f i j ≡ matrix P f i j
  unit_columns j q f i l o = n_standard.units f i j (in_count N n_same l) (in_rank N n_same o) (in_rank N n_same q)
      ∙ sym (p_standard.units f i j (in_count P p_same l) (in_rank P p_same o) (in_rank P p_same q))

  equal_columns : (j : ℕ) → j < size M → slice_cmp nat_cmp (column N j) (column P j) ≡ Equal → column N j ≡ column P j
  equal_columns j l e =
      let as_long : length (column N j) ≡ length (column P j) = column_length M N n_shaped n_same j l ∙ sym (column_length M P p_shaped p_same j l) in
      let dn = column_digits M N n_shaped n_same j l in let dp = column_digits M P p_shaped p_same j l in
      value_same (column N j) (column P j) dn dp as_long
      (equal_by (slice_cmp nat_cmp (column N j) (column P j)) (value (column N j)) (value (column P j))
      (value_ranked (column N j) (column P j) dn dp as_long) e)
    where
      equal_by : (o : Ordering) (a b : ℕ) → MatchOrdering o (a < b) (a ≡ b) (b < a) → o ≡ Equal → a ≡ b
      equal_by Less a b h e = cc
      equal_by Equal a b h e = h
      equal_by Greater a b h e = cc

  greater_number : (j : ℕ) → j < size M → slice_cmp nat_cmp (column N j) (column P j) ≡ Greater →
      number M (λ f i. matrix P f i j) < number M (λ f i. matrix N f i j)
  greater_number j l e =
      let as_long : length (column N j) ≡ length (column P j) = column_length M N n_shaped n_same j l ∙ sym (column_length M P p_shaped p_same j l) in
      let dn = column_digits M N n_shaped n_same j l in let dp = column_digits M P p_shaped p_same j l in
      let n : value (column N j) ≡ number M (λ f i. matrix N f i j) = column_number M N n_shaped n_same j l in
      let p : value (column P j) ≡ number M (λ f i. matrix P f i j) = column_number M P p_shaped p_same j l in
      let g : value (column P j) < value (column N j) = greater_by (slice_cmp nat_cmp (column N j) (column P j))
      (value (column N j)) (value (column P j)) (value_ranked (column N j) (column P j) dn dp as_long) e in
      omega arith
    where
      greater_by : (o : Ordering) (a b : ℕ) → MatchOrdering o (a < b) (a ≡ b) (b < a) → o ≡ Greater → b < a
      greater_by Less a b h e = cc
      greater_by Equal a b h e = cc
      greater_by Greater a b h e = h

  -- the lists of numbers decide how they compare
  pub numbers_decide : slice_cmp nat_cmp (numbers_of M N) (numbers_of M P) ≢ Greater → rep_cmp N P ≢ Greater
  numbers_decide n g =
      let sn : size N ≡ size M = ap (λ (S : Shape). S.size) n_same in
      let sp : size P ≡ size M = ap (λ (S : Shape). S.size) p_same in
      let (p, l, before, w) = greater_at (slice_cmp nat_cmp) [] N.columns P.columns (sn ∙ sym sp) (λ j l. equal_columns j (subst (λ n. j < n) sn l)) g in
      let b : p < size M = subst (λ n. p < n) sn l in
      elim (cases_lt p M.rank) [
        | inl q ↦ (let c : column N p ≡ column P p = same_column M N P n_shaped p_shaped n_same p_same p b (unit_columns p q) in
            let z : Equal ≡ Greater = sym (tied_itself nat_list_cmp_total (column N p)) ∙ ap (slice_cmp nat_cmp (column N p)) c ∙ w in cc)
        | inr q ↦ (let e : M.rank + (p - M.rank) ≡ p = omega arith in
            let ln : length (numbers_of M N) ≡ size M - M.rank = numbers_length M N in
            let lp : length (numbers_of M P) ≡ size M - M.rank = numbers_length M P in
            let o = nat_list_cmp_total in
            n (o.antisymm (numbers_of M N) (numbers_of M P)
            ∙ ap ordering_reverse (below_less (numbers_of M P) (numbers_of M N) (p - M.rank) (omega arith) (omega arith)
            (λ j m. numbers_at M P j (omega arith) ∙ sym (number_before j (before (M.rank + j) (omega arith)) (omega arith))
            ∙ sym (numbers_at M N j (omega arith)))
            (subst (λ v. v < slice_index (numbers_of M N) (p - M.rank))
            (sym (numbers_at M P (p - M.rank) (omega arith) ∙ ap (λ t. number M (λ f i. matrix P f i t)) e))
            (subst (λ v. number M (λ f i. matrix P f i p) < v)
            (sym (numbers_at M N (p - M.rank) (omega arith) ∙ ap (λ t. number M (λ f i. matrix N f i t)) e)) (greater_number p b w))))))
      ]
    where
      number_before : (j : ℕ) → column N (M.rank + j) ≡ column P (M.rank + j) → M.rank + j < size M →
          number M (λ f i. matrix N f i (M.rank + j)) ≡ number M (λ f i. matrix P f i (M.rank + j))
      number_before j c b = sym (column_number M N n_shaped n_same (M.rank + j) b) ∙ ap value c ∙ column_number M P p_shaped p_same (M.rank + j) b

  -- and whether they are equal
  pub numbers_same : numbers_of M N ≡ numbers_of M P → P ≡ N
  numbers_same e = same_codes N P n_shaped p_shaped (p_same ∙ sym n_same) (λ f i j l m o.
      let f' : f < count M = subst (λ (S : Shape). f < length S.factors) n_same l in
      let i' : i < M.rank = subst (λ (S : Shape). i < S.rank) n_same m in let j' : j < size M = subst (λ (S : Shape). j < S.size) n_same o in
      elim (cases_lt j M.rank) [
        | inl q ↦ sym (unit_columns j q f i f' i')
        | inr q ↦ (let z : M.rank + (j - M.rank) ≡ j = omega arith in
            sym (number_same M N P n_shaped p_shaped n_same p_same j j'
            (ap (λ t. number M (λ f i. matrix N f i t)) (sym z) ∙ sym (numbers_at M N (j - M.rank) (omega arith))
            ∙ ap (λ (w : List ℕ). slice_index w (j - M.rank)) e ∙ numbers_at M P (j - M.rank) (omega arith)
            ∙ ap (λ t. number M (λ f i. matrix P f i t)) z) f i))
      ])

-- ---- what was found

-- what is equivalent to a representation is one
carried : (M N : Rep) → IsRepresentation M → AreEquivalent Linear M N → IsRepresentation N
carried M N r e = record {
  some = subst (λ s. 0 < length s.factors) (sym e.takes.same_shape) r.some;
  shaped = e.takes.shaped;
  agrees = (agrees_carried Linear M N e).0 r.agrees;
}

-- the numbers of a member are below a power of 16
class_below : (M : Rep) (xs : List ℕ) → AreOfClass M xs → AreBelow (16 ^ (M.rank * count M)) xs
class_below M xs c p l =
    let x = c.equivalent in
    let n : length xs ≡ size M - M.rank = class_length M xs c in
    subst (λ (w : List ℕ). slice_index w p < 16 ^ (M.rank * count M)) c.numbers_are
    (subst (λ v. v < 16 ^ (M.rank * count M)) (sym (numbers_at M c.member p (omega arith)))
    (subst (λ v. v < 16 ^ (M.rank * count M)) (column_number M c.member x.takes.shaped x.takes.same_shape (M.rank + p) (omega arith))
    (subst (λ k. value (column c.member (M.rank + p)) < 16 ^ k) (column_length M c.member x.takes.shaped x.takes.same_shape (M.rank + p) (omega arith))
    (value_below (column c.member (M.rank + p)) (column_digits M c.member x.takes.shaped x.takes.same_shape (M.rank + p) (omega arith))))))

module _ (M : Rep) (whole_rep : IsRepresentation M) (found : List ℕ) (class : AreOfClass M found)
    (covers : (m : Move) (N : Rep) → ReachesForm M m N → slice_cmp nat_cmp found (numbers_of M N) ≢ Greater) where
  bound : ℕ
  bound = 16 ^ (M.rank * count M)

  -- a member that isn't above any member is a form
  of_forms : (xs : List ℕ) → AreOfClass M xs → ((ys : List ℕ) → AreOfClass M ys → slice_cmp nat_cmp xs ys ≢ Greater) → slice_cmp nat_cmp found xs ≢ Greater
  of_forms xs c h = subst (λ (w : List ℕ). slice_cmp nat_cmp found w ≢ Greater) c.numbers_are
      (let x = c.equivalent in covers x.move c.member (record {
        valid = x.valid;
        takes = x.takes;
        form = record {
          representation = carried M c.member whole_rep x;
          standard = c.standard;
          least = λ P s e. numbers_decide M c.member P x.takes.shaped e.takes.shaped c.standard s x.takes.same_shape (e.takes.same_shape ∙ x.takes.same_shape)
              (subst (λ (w : List ℕ). slice_cmp nat_cmp w (numbers_of M P) ≢ Greater) (sym c.numbers_are)
              (h (numbers_of M P) (record { member = P; standard = s; equivalent = equivalent-transitive Linear M c.member P x e; numbers_are = refl })));
        };
      }))

  not_above_members : (xs : List ℕ) → AreOfClass M xs → slice_cmp nat_cmp found xs ≢ Greater
  not_above_members =
      forms_suffice (List ℕ) (slice_cmp nat_cmp) (whole (16 ^ (M.rank * count M))) (AreOfClass M) found
      (λ xs ys c e g. whole_greater (16 ^ (M.rank * count M)) xs ys (class_below M ys e) (class_length M xs c ∙ sym (class_length M ys e)) g)
      chain of_forms
    where
      chain : (xs ys : List ℕ) → slice_cmp nat_cmp found xs ≡ Greater → slice_cmp nat_cmp xs ys ≡ Greater → slice_cmp nat_cmp found ys ≡ Greater
      chain xs ys a b = let o = nat_list_cmp_total in
          o.antisymm found ys ∙ ap ordering_reverse
          (o.trans ys xs found (o.antisymm ys xs ∙ ap ordering_reverse b) (o.antisymm xs found ∙ ap ordering_reverse a))

  -- the standard representation of these numbers is the form of the class
  pub found_form : (N : Rep) → IsShaped N → IsStandard N → shape N ≡ shape M → numbers_of M N ≡ found → IsForm Linear N × AreEquivalent Linear M N
  found_form N s t e n = (
    record {
      representation = carried M N whole_rep equivalent;
      standard = t;
      least = λ P u x. numbers_decide M N P s x.takes.shaped t u e (x.takes.same_shape ∙ e)
          (subst (λ (w : List ℕ). slice_cmp nat_cmp w (numbers_of M P) ≢ Greater) (sym n)
          (not_above_members (numbers_of M P)
          (record { member = P; standard = u; equivalent = equivalent-transitive Linear M N P equivalent x; numbers_are = refl })));
    },
    equivalent,
  )
    where
      equivalent : AreEquivalent Linear M N
      equivalent = let x = class.equivalent in
          subst (AreEquivalent Linear M)
          (sym (numbers_same M class.member N x.takes.shaped s class.standard t x.takes.same_shape e (class.numbers_are ∙ sym n)))
          class.equivalent

-- there is a form among the members of a class
pub some_form : (M : Rep) → IsRepresentation M → (N : Rep) → IsStandard N → AreEquivalent Linear M N → ((m : Move) (L : Rep) → ReachesForm M m L → ⊥) → ⊥
some_form M whole_rep N standard equivalent none = least_refused (suc (rank_of (numbers_of M N))) (numbers_of M N) (omega arith)
    (record { member = N; standard = standard; equivalent = equivalent; numbers_are = refl })
  where
    rank_of : List ℕ → ℕ
    rank_of = whole (16 ^ (M.rank * count M))

    least_refused : (n : ℕ) (xs : List ℕ) → rank_of xs < n → AreOfClass M xs → ⊥
    least_refused zero xs l c = absurd (omega arith)
    least_refused (suc n) xs l c = let x = c.equivalent in
        none x.move c.member (record {
          valid = x.valid;
          takes = x.takes;
          form = record {
            representation = carried M c.member whole_rep x;
            standard = c.standard;
            least = λ P s e. numbers_decide M c.member P x.takes.shaped e.takes.shaped c.standard s x.takes.same_shape (e.takes.same_shape ∙ x.takes.same_shape)
                (λ g. (let d : AreOfClass M (numbers_of M P) =
                record { member = P; standard = s; equivalent = equivalent-transitive Linear M c.member P x e; numbers_are = refl } in
                let g' : slice_cmp nat_cmp xs (numbers_of M P) ≡ Greater = ap (λ (w : List ℕ). slice_cmp nat_cmp w (numbers_of M P)) (sym c.numbers_are) ∙ g in
                let f : rank_of (numbers_of M P) < rank_of xs = whole_greater (16 ^ (M.rank * count M)) xs (numbers_of M P)
                (class_below M (numbers_of M P) d) (class_length M xs c ∙ sym (class_length M (numbers_of M P) d)) g' in
                least_refused n (numbers_of M P) (omega arith) d));
          };
        })
