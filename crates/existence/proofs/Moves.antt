-- Whether a move takes a representation to another, and whether some move does: there are finitely many, up to what counts of them.
use Rattle.std.proofs.Common.{◌≡◌, ◌≢◌, ℕ, ◌<◌, sym, ◌∙◌, ap, subst, arith, List, length, map, inl, slice_index, lit<}
use Rattle.std.specs.List.{range_with_len}
use Rattle.matroid_theory.specs.declared.Mode.{Mode}
use Rattle.matroid_theory.specs.declared.Mode.TheVariants.{Linear, Semilinear}
use Rattle.matroid_theory.specs.Field.{IsOrder, IsField, times, degree, raised}
use Rattle.matroid_theory.specs.Matrix.{Matrix, matrix_product, unit, AreInverse}
use Rattle.matroid_theory.specs.Rep.{Rep, Shape, shape, count, size, matrix, IsShaped}
use Rattle.matroid_theory.specs.Move.{Move, ArePermutation, AllowsPower, IsMove, moved, TakesTo, AreEquivalent}
use Rattle.matrix_lemmas.proofs.FieldLaws.{by_order, field_laws}
use Rattle.matrix_lemmas.proofs.Sums.{sum_same}
use Rattle.existence.specs.Decided.{IsDecided}
use Rattle.existence.proofs.Deciding.{along, both, negated, less, equal, each_below, each_two, each_three}
use Rattle.existence.proofs.Covers.{IsCover, some_covered, number_cover, function_cover, functions, pair_cover, pairs, in_map}
use Rattle.existence.proofs.AllReps.{small}
use Rattle.existence.proofs.Shaped.{shaped_decided, same_shape_decided}

pub permutation_decided : (n : ℕ) (p u : ℕ → ℕ) → IsDecided (ArePermutation n p u)
permutation_decided n p u =
    along
    (both (each_below n (λ j. p j < n) (λ j _. less _ _))
    (λ _. both (each_below n (λ j. u j < n) (λ j _. less _ _))
    (λ _. both (each_below n (λ j. u (p j) ≡ j) (λ j _. equal _ _)) (λ _. each_below n (λ j. p (u j) ≡ j) (λ j _. equal _ _)))))
    (λ w. record { below = w.0; inverse_below = w.1.0; there = w.1.1.0; back = w.1.1.1 }) (λ w. (w.below, (w.inverse_below, (w.there, w.back))))

-- the same permutation below n
pub permutation_near : (n : ℕ) (p u p' u' : ℕ → ℕ) → ((j : ℕ) → j < n → p j ≡ p' j) → ((j : ℕ) → j < n → u j ≡ u' j) → ArePermutation n p u
    → ArePermutation n p' u'
permutation_near n p u p' u' a b w = record {
  below = λ j l. subst (λ (x : ℕ). x < n) (a j l) (w.below j l);
  inverse_below = λ j l. subst (λ (x : ℕ). x < n) (b j l) (w.inverse_below j l);
  there = λ j l. ap u' (sym (a j l)) ∙ sym (b (p j) (w.below j l)) ∙ w.there j l;
  back = λ j l. ap p' (sym (b j l)) ∙ sym (a (u j) (w.inverse_below j l)) ∙ w.back j l;
}

power_decided : (mode : Mode) (t : ℕ) → IsDecided (AllowsPower mode t)
power_decided Linear t = equal t 0
power_decided Semilinear t = inl tt

inverse_decided : (q r : ℕ) (G H : Matrix) → IsDecided (AreInverse q r G H)
inverse_decided q r G H =
    along
    (both (each_two r r (λ i j. matrix_product q r G H i j ≡ unit i j) (λ i j _ _. equal _ _))
    (λ _. each_two r r (λ i j. matrix_product q r H G i j ≡ unit i j) (λ i j _ _. equal _ _)))
    (λ w. record { right = w.0; left = w.1 }) (λ w. (w.right, w.left))

-- matrices that are the same in what counts are inverse together
inverse_near : (q : ℕ) → IsField q → (r : ℕ) (G H G' H' : Matrix) → ((i j : ℕ) → i < r → j < r → G i j ≡ G' i j)
    → ((i j : ℕ) → i < r → j < r → H i j ≡ H' i j) → AreInverse q r G H → AreInverse q r G' H'
inverse_near q F r G H G' H' a b w = record {
  right = λ i j l m. sym (near G H G' H' a b i j l m) ∙ w.right i j l m;
  left = λ i j l m. sym (near H G H' G' b a i j l m) ∙ w.left i j l m;
}
  where
    near : (G H G' H' : Matrix) → ((i j : ℕ) → i < r → j < r → G i j ≡ G' i j) → ((i j : ℕ) → i < r → j < r → H i j ≡ H' i j) → (i j : ℕ) → i < r → j < r
        → matrix_product q r G H i j ≡ matrix_product q r G' H' i j
    near G H G' H' a b i j l m = sum_same q F r (λ k. times q (G i k) (H k j)) (λ k. times q (G' i k) (H' k j)) (λ k n t. times q (a i k l n t) (b k j n m t))

pub move_decided : (mode : Mode) (S : Shape) (m : Move) → IsDecided (IsMove mode S m)
move_decided mode S m =
    along
    (both (each_below (length S.factors) (λ f. m.power f < degree (slice_index S.factors f)) (λ f _. less _ _))
    (λ _. both (each_below (length S.factors) (λ f. AllowsPower mode (m.power f)) (λ f _. power_decided mode (m.power f)))
    (λ _. both (each_three (length S.factors) S.rank S.rank (λ f i k. m.rows f i k < slice_index S.factors f) (λ f i k _ _ _. less _ _))
    (λ _. both (each_three (length S.factors) S.rank S.rank (λ f i k. m.back f i k < slice_index S.factors f) (λ f i k _ _ _. less _ _))
    (λ _. both (each_below (length S.factors) (λ f. AreInverse (slice_index S.factors f) S.rank (m.rows f) (m.back f)) (λ f _. inverse_decided _ _ _ _))
    (λ _. both (each_two (length S.factors) S.size (λ f j. m.scalar f j < slice_index S.factors f) (λ f j _ _. less _ _))
    (λ _. both (each_two (length S.factors) S.size (λ f j. m.scalar f j ≢ 0) (λ f j _ _. negated (equal _ _)))
    (λ _. permutation_decided S.size m.label m.place))))))))
    (λ w. record {
      powers = w.0;
      allowed = w.1.0;
      codes = w.1.1.0;
      back_codes = w.1.1.1.0;
      inverse = w.1.1.1.1.0;
      scalars = w.1.1.1.1.1.0;
      nonzero = w.1.1.1.1.1.1.0;
      labels = w.1.1.1.1.1.1.1;
    })
    (λ w. (w.powers, (w.allowed, (w.codes, (w.back_codes, (w.inverse, (w.scalars, (w.nonzero, w.labels))))))))

pub takes_decided : (M : Rep) (m : Move) (N : Rep) → IsDecided (TakesTo M m N)
takes_decided M m N =
    along
    (both (same_shape_decided (shape N) (shape M))
    (λ _. both (shaped_decided N) (λ _. each_three (count M) M.rank (size M) (λ f i j. matrix N f i j ≡ moved (shape M) (matrix M) m f i j)
    (λ f i j _ _ _. equal _ _))))
    (λ w. record { same_shape = w.0; shaped = w.1.0; codes = w.1.1 }) (λ w. (w.same_shape, (w.shaped, w.codes)))

-- two moves that are the same in what counts for a shape
record IsNear (S : Shape) (m k : Move) : Type 0 where
  power : (f : ℕ) → f < length S.factors → m.power f ≡ k.power f
  rows : (f : ℕ) → f < length S.factors → (i : ℕ) → i < S.rank → (j : ℕ) → j < S.rank → m.rows f i j ≡ k.rows f i j
  back : (f : ℕ) → f < length S.factors → (i : ℕ) → i < S.rank → (j : ℕ) → j < S.rank → m.back f i j ≡ k.back f i j
  scalar : (f : ℕ) → f < length S.factors → (j : ℕ) → j < S.size → m.scalar f j ≡ k.scalar f j
  label : (j : ℕ) → j < S.size → m.label j ≡ k.label j
  place : (j : ℕ) → j < S.size → m.place j ≡ k.place j

module _ (mode : Mode) (S : Shape) (orders : (f : ℕ) → f < length S.factors → IsOrder (slice_index S.factors f)) (m k : Move) (n : IsNear S m k) where
  move_near : IsMove mode S m → IsMove mode S k
  move_near w = record {
    powers = λ f l. subst (λ (t : ℕ). t < degree (slice_index S.factors f)) (n.power f l) (w.powers f l);
    allowed = λ f l. subst (AllowsPower mode) (n.power f l) (w.allowed f l);
    codes = λ f i j l a b. subst (λ (x : ℕ). x < slice_index S.factors f) (n.rows f l i a j b) (w.codes f i j l a b);
    back_codes = λ f i j l a b. subst (λ (x : ℕ). x < slice_index S.factors f) (n.back f l i a j b) (w.back_codes f i j l a b);
    inverse = λ f l. inverse_near (slice_index S.factors f) (field_laws (slice_index S.factors f) (orders f l)) S.rank (m.rows f) (m.back f) (k.rows f)
        (k.back f) (λ i j a b. n.rows f l i a j b) (λ i j a b. n.back f l i a j b) (w.inverse f l);
    scalars = λ f j l a. subst (λ (x : ℕ). x < slice_index S.factors f) (n.scalar f l j a) (w.scalars f j l a);
    nonzero = λ f j l a. subst (λ (x : ℕ). x ≢ 0) (n.scalar f l j a) (w.nonzero f j l a);
    labels = permutation_near S.size m.label m.place k.label k.place n.label n.place w.labels;
  }

  -- they give the same codes
  moved_near : (A : ℕ → Matrix) (f i j : ℕ) → f < length S.factors → i < S.rank → j < S.size → moved S A m f i j ≡ moved S A k f i j
  moved_near A f i j l a b =
      let q = slice_index S.factors f in
      λ t. times q (n.scalar f l j b t)
      (sum_same q (field_laws q (orders f l)) S.rank (λ c. times q (m.rows f i c) (raised q (m.power f) (A f c (m.label j))))
      (λ c. times q (k.rows f i c) (raised q (k.power f) (A f c (k.label j))))
      (λ c d s. times q (n.rows f l i a c d s) (raised q (n.power f l s) (A f c (n.label j b s)))) t)

-- and take M to the same representation
takes_near : (M N : Rep) (m k : Move) → IsShaped M → IsNear (shape M) m k → TakesTo M m N → TakesTo M k N
takes_near M N m k s n w = record {
  same_shape = w.same_shape;
  shaped = w.shaped;
  codes = λ f i j l a b. w.codes f i j l a b ∙ moved_near Linear (shape M) s.orders m k n (matrix M) f i j l a b;
}

-- ---- a list of moves that comes near each

-- the parts of a move, as pairs
abbrev Tables : Type 0
Tables = ((ℕ → ℕ) × (ℕ → ℕ → ℕ)) × (((ℕ → ℕ → ℕ → ℕ) × (ℕ → ℕ → ℕ → ℕ)) × ((ℕ → ℕ) × (ℕ → ℕ)))

move_of_tables : Tables → Move
move_of_tables t = record { power = t.0.0; scalar = t.0.1; rows = t.1.0.0; back = t.1.0.1; label = t.1.1.0; place = t.1.1.1 }

-- each degree is below 16
degree_small : (q : ℕ) → IsOrder q → degree q < 16
unfolding degree
degree_small = by_order (λ q. degree q < 16) (lit< tt) (lit< tt) (lit< tt) (lit< tt) (lit< tt) (lit< tt) (lit< tt) (lit< tt) (lit< tt)

module _ (S : Shape) (orders : (f : ℕ) → f < length S.factors → IsOrder (slice_index S.factors f)) where
  abbrev codes16 : List ℕ
  codes16 = range_with_len 0 16

  -- functions on the numbers below n with values below a bound
  abbrev number_functions : ℕ → ℕ → List (ℕ → ℕ)
  number_functions bound n = functions 0 (range_with_len 0 bound) n

  -- a matrix for each factor
  abbrev matrices : List (ℕ → ℕ → ℕ → ℕ)
  matrices = functions (λ _ _. 0) (functions (λ _. 0) (functions 0 codes16 S.rank) S.rank) (length S.factors)

  -- all parts of moves for the shape, with codes below 16
  all_tables : List Tables
  all_tables =
      pairs (pairs (number_functions 16 (length S.factors)) (functions (λ _. 0) (number_functions 16 S.size) (length S.factors)))
      (pairs (pairs matrices matrices) (pairs (number_functions S.size S.size) (number_functions S.size S.size)))

  -- the moves of these parts
  all_moves : List Move
  all_moves = map move_of_tables all_tables

  -- a code of a factor is below 16
  below16 : (f : ℕ) → f < length S.factors → (x : ℕ) → x < slice_index S.factors f → x < 16
  below16 f l x h = let b : slice_index S.factors f < 16 = small (slice_index S.factors f) (orders f l) in omega arith

  -- some move of the list is as good as each move of the mode
  moves_cover : (mode : Mode) → IsCover (IsMove mode S) (IsNear S) all_moves
  unfolding all_moves all_tables move_of_tables
  moves_cover mode = record {
    near = λ m w.
        let powers = function_cover _ _ codes16 (number_cover 16) 0 (length S.factors) in
        let row = function_cover _ _ codes16 (number_cover 16) 0 S.rank in
        let rows = function_cover _ _ _ row (λ _. 0) S.rank in
        let all_rows = function_cover _ _ _ rows (λ _ _. 0) (length S.factors) in
        let scalars = function_cover _ _ _ (function_cover _ _ codes16 (number_cover 16) 0 S.size) (λ _. 0) (length S.factors) in
        let labels = function_cover _ _ _ (number_cover S.size) 0 S.size in
        let all = pair_cover _ _ _ _ _ _ (pair_cover _ _ _ _ _ _ powers scalars) (pair_cover _ _ _ _ _ _ (pair_cover _ _ _ _ _ _ all_rows all_rows)
        (pair_cover _ _ _ _ _ _ labels labels)) in
        let t : Tables = ((m.power, m.scalar), ((m.rows, m.back), (m.label, m.place))) in
        let found = all.near t (
          (
            (λ f l. (let b : degree (slice_index S.factors f) < 16 = degree_small (slice_index S.factors f) (orders f l) in
                let p : m.power f < degree (slice_index S.factors f) = w.powers f l in omega arith)),
            (λ f l j a. below16 f l (m.scalar f j) (w.scalars f j l a)),
          ),
          (
            ((λ f l i a j b. below16 f l (m.rows f i j) (w.codes f i j l a b)), (λ f l i a j b. below16 f l (m.back f i j) (w.back_codes f i j l a b))),
            (w.labels.below, w.labels.inverse_below),
          ),
        ) in (
          move_of_tables found.0,
          in_map move_of_tables found.0 all_tables found.1,
          record {
            power = found.2.0.0;
            scalar = found.2.0.1;
            rows = found.2.1.0.0;
            back = found.2.1.0.1;
            label = found.2.1.1.0;
            place = found.2.1.1.1;
          },
        );
  }

-- so a search through the list decides equivalence
pub equivalent_decided : (mode : Mode) (M N : Rep) → IsDecided (AreEquivalent mode M N)
equivalent_decided mode M N =
    along
    (both (shaped_decided M) (λ s. some_covered (IsMove mode (shape M)) (IsNear (shape M)) (all_moves (shape M) s.orders)
    (moves_cover (shape M) s.orders mode)
    (λ m. IsMove mode (shape M) m × TakesTo M m N) (λ m w. w.0)
    (λ m k n w. (move_near mode (shape M) s.orders m k n w.0, takes_near M N m k s n w.1))
    (λ m. both (move_decided mode (shape M) m) (λ _. takes_decided M m N))))
    (λ w. record { shaped = w.0; move = w.1.0; valid = w.1.1.0; takes = w.1.1.1 }) (λ e. (e.shaped, (e.move, (e.valid, e.takes))))
