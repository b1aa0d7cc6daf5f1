-- Equivalence of representations: the identity, the composite and the inverse of moves are moves.
use Rattle.std.proofs.Common.{◌≡◌, ◌≢◌, ℕ, ◌+◌, ◌-◌, ◌%◌, ◌<◌, refl, sym, ◌∙◌, ap, subst, arith, cond, true, false, length, slice_index}
use Rattle.std.specs.Bool.{◌==◌}
use Rattle.std.proofs.Math.Nat.{mod-lt, zero-mod, mod_self, sub-zero}
use Rattle.matroid_theory.specs.Field.{times, inverse, degree, raised, IsField, IsOrder}
use Rattle.matroid_theory.specs.Matrix.{Matrix, combination, matrix_product, AreInverse, unit}
use Rattle.matroid_theory.specs.Rep.{Rep, Shape, shape, matrix, order, IsShaped}
use Rattle.matroid_theory.specs.declared.Mode.{Mode}
use Rattle.matroid_theory.specs.declared.Mode.TheVariants.{Linear, Semilinear}
use Rattle.matroid_theory.specs.Move.{Move, AllowsPower, IsMove, moved, TakesTo, AreEquivalent}
use Rattle.matrix_lemmas.proofs.FieldLaws.{field_laws}
use Rattle.matrix_lemmas.proofs.Sums.{combination-product, combination-same, combination-scaled, combination-unit, inverse-undoes, sum_below-code}
use Rattle.matrix_lemmas.proofs.Frobenius.{raised_below, raised_times, raised_combination, raised-mod, raised_add, raised_undone, undoing, raised_nonzero, times_undone, times_nonzero, inverse_nonzero, inverse_products, inverse_raised, turned}

-- ---- over one field

module _ (q : ℕ) (F : IsField q) (r : ℕ) where
  -- a move after a move, in one factor
  one_after : (t2 t1 s2 s1 : ℕ) (G2 G1 : Matrix) (a : ℕ → ℕ) (i : ℕ) → 0 < degree q → ((k : ℕ) → k < r → a k < q)
      → times q s2 (combination q r G2 (λ k. raised q t2 (times q s1 (combination q r G1 (λ l. raised q t1 (a l)) k))) i)
      ≡ times q (times q s2 (raised q t2 s1))
      (combination q r (matrix_product q r G2 (λ k l. raised q t2 (G1 k l))) (λ l. raised q ((t2 + t1) % degree q) (a l)) i)
  one_after t2 t1 s2 s1 G2 G1 a i d c =
      ap (times q s2)
      (combination-same q F r G2 (λ k. raised q t2 (times q s1 (combination q r G1 (λ l. raised q t1 (a l)) k)))
      (λ k. times q (raised q t2 s1) (combination q r (λ k l. raised q t2 (G1 k l)) (λ l. raised q ((t2 + t1) % degree q) (a l)) k)) i
      (λ k _. raised_times q F t2 s1 (combination q r G1 (λ l. raised q t1 (a l)) k)
      ∙ ap (times q (raised q t2 s1))
      (raised_combination q F t2 r G1 (λ l. raised q t1 (a l)) k
      ∙ combination-same q F r (λ k l. raised q t2 (G1 k l)) (λ l. raised q t2 (raised q t1 (a l))) (λ l. raised q ((t2 + t1) % degree q) (a l)) k
      (λ l m. sym (raised-mod q F (t2 + t1) (a l) d (c l m) ∙ raised_add q F t2 t1 (a l)))))
      ∙ combination-scaled q F r G2 (raised q t2 s1) (combination q r (λ k l. raised q t2 (G1 k l)) (λ l. raised q ((t2 + t1) % degree q) (a l))) i)
      ∙ sym (F.times_assoc s2 (raised q t2 s1)
      (combination q r G2 (combination q r (λ k l. raised q t2 (G1 k l)) (λ l. raised q ((t2 + t1) % degree q) (a l))) i))
      ∙ ap (times q (times q s2 (raised q t2 s1)))
      (sym (combination-product q F r r G2 (λ k l. raised q t2 (G1 k l)) (λ l. raised q ((t2 + t1) % degree q) (a l)) i))

  -- a move undone, in one factor: s' H' (raised s G a) = a
  one_undone : (t s : ℕ) (G H : Matrix) (a : ℕ → ℕ) (i : ℕ) → t < degree q → s < q → s ≢ 0 → AreInverse q r H G → ((k : ℕ) → k < r → a k < q) → i < r
      → times q (raised q (undoing q F t) (inverse q s))
      (combination q r (λ k l. raised q (undoing q F t) (H k l))
      (λ k. raised q (undoing q F t) (times q s (combination q r G (λ l. raised q t (a l)) k))) i) ≡ a i
  one_undone t s G H a i d b n v c l =
      let u = undoing q F t in
      ap (times q (raised q u (inverse q s))) (sym (raised_combination q F u r H (λ k. times q s (combination q r G (λ l. raised q t (a l)) k)) i))
      ∙ sym (raised_times q F u (inverse q s) (combination q r H (λ k. times q s (combination q r G (λ l. raised q t (a l)) k)) i))
      ∙ ap (raised q u)
      (ap (times q (inverse q s))
      (combination-scaled q F r H s (combination q r G (λ l. raised q t (a l))) i
      ∙ ap (times q s) (inverse-undoes q F r H G v (λ l. raised q t (a l)) i l (raised_below q F t (a i) (c i l))))
      ∙ times_undone q F s (raised q t (a i)) b n (raised_below q F t (a i) (c i l)))
      ∙ raised_undone q F t (a i) d (c i l)

-- ---- moves

pub allowed_zero : (mode : Mode) → AllowsPower mode 0
allowed_zero Linear = refl
allowed_zero Semilinear = tt

allowed_sum : (mode : Mode) (s t k : ℕ) → AllowsPower mode s → AllowsPower mode t → AllowsPower mode ((s + t) % k)
allowed_sum Linear s t k a b = (λ i. (a i + b i) % k) ∙ zero-mod k
allowed_sum Semilinear s t k a b = tt

unit_code : (q : ℕ) → 1 < q → (i j : ℕ) → unit i j < q
unit_code q l i j = elim (i == j) as (λ b. cond b 1 0 < q) [ true ↦ l | false ↦ omega arith ]

-- the move that changes nothing
unfoldable pub identity : Move
identity = record {
  power = λ _. 0;
  rows = λ _. unit;
  back = λ _. unit;
  scalar = λ _ _. 1;
  label = λ j. j;
  place = λ j. j;
}

-- first the move b, then the move a
unfoldable pub after : Shape → Move → Move → Move
after S a b =
    record {
      power = λ f. (a.power f + b.power f) % degree (slice_index S.factors f);
      rows = λ f. matrix_product (slice_index S.factors f) S.rank (a.rows f) (λ k l. raised (slice_index S.factors f) (a.power f) (b.rows f k l));
      back = λ f. matrix_product (slice_index S.factors f) S.rank (λ k l. raised (slice_index S.factors f) (a.power f) (b.back f k l)) (a.back f);
      scalar = λ f j. times (slice_index S.factors f) (a.scalar f j) (raised (slice_index S.factors f) (a.power f) (b.scalar f (a.label j)));
      label = λ j. b.label (a.label j);
      place = λ j. a.place (b.place j);
    }

-- the move that undoes a move
unfoldable pub undo : (S : Shape) → Move → Move
undo S a =
    record {
      power = λ f. (degree (slice_index S.factors f) - a.power f) % degree (slice_index S.factors f);
      rows = λ f k l. raised (slice_index S.factors f) ((degree (slice_index S.factors f) - a.power f) % degree (slice_index S.factors f)) (a.back f k l);
      back = λ f k l. raised (slice_index S.factors f) ((degree (slice_index S.factors f) - a.power f) % degree (slice_index S.factors f)) (a.rows f k l);
      scalar = λ f j. raised (slice_index S.factors f)
          ((degree (slice_index S.factors f) - a.power f) % degree (slice_index S.factors f))
          (inverse (slice_index S.factors f) (a.scalar f (a.place j)));
      label = a.place;
      place = a.label;
    }

allowed_undone : (mode : Mode) (t k : ℕ) → AllowsPower mode t → AllowsPower mode ((k - t) % k)
allowed_undone Linear t k a = (λ i. (k - a i) % k) ∙ self k
  where
    self : (k : ℕ) → (k - 0) % k ≡ 0
    self k = ap (λ n. n % k) (sub-zero k) ∙ mod_self k
allowed_undone Semilinear t k a = tt

module _ (mode : Mode) (S : Shape) (fields : (f : ℕ) → f < length S.factors → IsOrder (slice_index S.factors f)) where
  law : (f : ℕ) → f < length S.factors → IsField (slice_index S.factors f)
  law f l = field_laws (slice_index S.factors f) (fields f l)

  pub identity_move : IsMove mode S identity
  unfolding identity
  identity_move = record {
    powers = λ f l. let F = law f l in F.degree_positive;
    allowed = λ f l. allowed_zero mode;
    codes = λ f i k l _ _. let F = law f l in unit_code (slice_index S.factors f) F.two i k;
    back_codes = λ f i k l _ _. let F = law f l in unit_code (slice_index S.factors f) F.two i k;
    inverse = λ f l. record { right = λ i j m n. units f l i j m n; left = λ i j m n. units f l i j m n };
    scalars = λ f j l _. let F = law f l in F.two;
    nonzero = λ f j l _ e. absurd (omega arith);
    labels = record { below = λ j l. l; inverse_below = λ j l. l; there = λ j l. refl; back = λ j l. refl };
  }
    where
      units : (f : ℕ) → f < length S.factors → (i j : ℕ) → i < S.rank → j < S.rank → matrix_product (slice_index S.factors f) S.rank unit unit i j ≡ unit i j
      units f l i j m n = let F = law f l in
          combination-unit (slice_index S.factors f) F S.rank (λ k. unit k j) i m (unit_code (slice_index S.factors f) F.two i j)

  pub after_move : (a b : Move) → IsMove mode S a → IsMove mode S b → IsMove mode S (after S a b)
  unfolding after
  after_move a b v w = record {
    powers = λ f l. let h : a.power f < degree (slice_index S.factors f) = v.powers f l in mod-lt (a.power f + b.power f) (omega arith);
    allowed = λ f l. allowed_sum mode (a.power f) (b.power f) (degree (slice_index S.factors f)) (v.allowed f l) (w.allowed f l);
    codes = λ f i k l _ _. sum_below-code (slice_index S.factors f) (law f l) S.rank _;
    back_codes = λ f i k l _ _. sum_below-code (slice_index S.factors f) (law f l) S.rank _;
    inverse = λ f l. inverse_products (slice_index S.factors f) (law f l) S.rank (a.rows f)
        (λ k l. raised (slice_index S.factors f) (a.power f) (b.rows f k l)) (a.back f)
        (λ k l. raised (slice_index S.factors f) (a.power f) (b.back f k l))
        (v.inverse f l) (inverse_raised (slice_index S.factors f) (law f l) (a.power f) S.rank (b.rows f) (b.back f) (w.inverse f l))
        (λ i j m n. v.back_codes f i j l m n) (λ i j m n. raised_below (slice_index S.factors f) (law f l) (a.power f) (b.rows f i j) (w.codes f i j l m n));
    scalars = λ f j l m. let F = law f l in F.times_below (a.scalar f j) (raised (slice_index S.factors f) (a.power f) (b.scalar f (a.label j)));
    nonzero = λ f j l m.
        let n = v.labels.below j m in
        times_nonzero (slice_index S.factors f) (law f l) (a.scalar f j)
        (raised (slice_index S.factors f) (a.power f) (b.scalar f (a.label j))) (v.scalars f j l m)
        (raised_below (slice_index S.factors f) (law f l) (a.power f) (b.scalar f (a.label j)) (w.scalars f (a.label j) l n)) (v.nonzero f j l m)
        (raised_nonzero (slice_index S.factors f) (law f l) (a.power f) (b.scalar f (a.label j)) (v.powers f l)
        (w.scalars f (a.label j) l n) (w.nonzero f (a.label j) l n));
    labels = record {
      below = λ j l. w.labels.below (a.label j) (v.labels.below j l);
      inverse_below = λ j l. v.labels.inverse_below (b.place j) (w.labels.inverse_below j l);
      there = λ j l. ap a.place (w.labels.there (a.label j) (v.labels.below j l)) ∙ v.labels.there j l;
      back = λ j l. ap b.label (v.labels.back (b.place j) (w.labels.inverse_below j l)) ∙ w.labels.back j l;
    };
  }

  pub undo_move : (a : Move) → IsMove mode S a → IsMove mode S (undo S a)
  unfolding undo
  undo_move a v = record {
    powers = λ f l. let F = law f l in mod-lt (degree (slice_index S.factors f) - a.power f) F.degree_positive;
    allowed = λ f l. allowed_undone mode (a.power f) (degree (slice_index S.factors f)) (v.allowed f l);
    codes = λ f i k l m n. raised_below (slice_index S.factors f) (law f l)
        (undoing (slice_index S.factors f) (law f l) (a.power f)) (a.back f i k) (v.back_codes f i k l m n);
    back_codes = λ f i k l m n. raised_below (slice_index S.factors f) (law f l)
        (undoing (slice_index S.factors f) (law f l) (a.power f)) (a.rows f i k) (v.codes f i k l m n);
    inverse = λ f l. inverse_raised (slice_index S.factors f) (law f l) (undoing (slice_index S.factors f) (law f l) (a.power f))
        S.rank (a.back f) (a.rows f) (turned (slice_index S.factors f) (law f l) S.rank (a.rows f) (a.back f) (v.inverse f l));
    scalars = λ f j l m. let F = law f l in let n = v.labels.inverse_below j m in
        raised_below (slice_index S.factors f) F (undoing (slice_index S.factors f) F (a.power f))
        (inverse (slice_index S.factors f) (a.scalar f (a.place j))) (F.inverse_below (a.scalar f (a.place j)) (v.scalars f (a.place j) l n));
    nonzero = λ f j l m. let F = law f l in let n = v.labels.inverse_below j m in
        raised_nonzero (slice_index S.factors f) F (undoing (slice_index S.factors f) F (a.power f))
        (inverse (slice_index S.factors f) (a.scalar f (a.place j))) (mod-lt (degree (slice_index S.factors f) - a.power f) F.degree_positive)
        (F.inverse_below (a.scalar f (a.place j)) (v.scalars f (a.place j) l n))
        (inverse_nonzero (slice_index S.factors f) F (a.scalar f (a.place j)) (v.scalars f (a.place j) l n) (v.nonzero f (a.place j) l n));
    labels = record { below = v.labels.inverse_below; inverse_below = v.labels.below; there = v.labels.back; back = v.labels.there };
  }

-- ---- what the moves take to what

-- the codes of N after a move that takes M to N, over the shape of M
abbrev Codes : Shape → (ℕ → Matrix) → Move → (ℕ → Matrix) → Type 0
Codes S A m B = (f i j : ℕ) → f < length S.factors → i < S.rank → j < S.size → B f i j ≡ moved S A m f i j

codes_after : (mode : Mode) (S : Shape) → ((f : ℕ) → f < length S.factors → IsOrder (slice_index S.factors f)) → (a b : Move) (A B C : ℕ → Matrix)
    → ((f i j : ℕ) → f < length S.factors → i < S.rank → j < S.size → A f i j < slice_index S.factors f)
    → IsMove mode S a → IsMove mode S b → Codes S A b B → Codes S B a C → Codes S A (after S a b) C
unfolding after
codes_after mode S fields a b A B C c v w h g f i j l m n =
    let q = slice_index S.factors f in
    let F = field_laws q (fields f l) in
    let p = v.labels.below j n in
    g f i j l m n
    ∙ ap (times q (a.scalar f j))
    (combination-same q F S.rank (a.rows f) (λ k. raised q (a.power f) (B f k (a.label j)))
    (λ k. raised q (a.power f) (moved S A b f k (a.label j))) i (λ k k'. ap (raised q (a.power f)) (h f k (a.label j) l k' p)))
    ∙ one_after q F S.rank (a.power f) (b.power f) (a.scalar f j) (b.scalar f (a.label j)) (a.rows f) (b.rows f)
    (λ k. A f k (b.label (a.label j))) i F.degree_positive (λ k k'. c f k (b.label (a.label j)) l k' (w.labels.below (a.label j) p))

codes_undone : (mode : Mode) (S : Shape) → ((f : ℕ) → f < length S.factors → IsOrder (slice_index S.factors f)) → (a : Move) (A B : ℕ → Matrix)
    → ((f i j : ℕ) → f < length S.factors → i < S.rank → j < S.size → A f i j < slice_index S.factors f)
    → IsMove mode S a → Codes S A a B → Codes S B (undo S a) A
unfolding undo
codes_undone mode S fields a A B c v h f i j l m n =
    let q = slice_index S.factors f in
    let F = field_laws q (fields f l) in
    let p = v.labels.inverse_below j n in
    let u = undoing q F (a.power f) in
    sym (ap (times q (raised q u (inverse q (a.scalar f (a.place j)))))
    (combination-same q F S.rank (λ k l. raised q u (a.back f k l)) (λ k. raised q u (B f k (a.place j)))
    (λ k. raised q u (moved S A a f k (a.place j))) i (λ k k'. ap (raised q u) (h f k (a.place j) l k' p)))
    ∙ one_undone q F S.rank (a.power f) (a.scalar f (a.place j)) (a.rows f) (a.back f) (λ k. A f k (a.label (a.place j))) i
    (v.powers f l) (v.scalars f (a.place j) l p) (v.nonzero f (a.place j) l p)
    (turned q F S.rank (a.rows f) (a.back f) (v.inverse f l)) (λ k k'. c f k (a.label (a.place j)) l k' (v.labels.below (a.place j) p)) m
    ∙ ap (A f i) (v.labels.back j n))

pub takes_identity : (M : Rep) → IsShaped M → TakesTo M identity M
unfolding identity
takes_identity M s = record {
  same_shape = refl;
  shaped = s;
  codes = λ f i j l m n.
      let F = field_laws (order M f) (s.orders f l) in
      let c = s.codes f i j l m n in
      sym (F.times_one _ (sum_below-code (order M f) F M.rank _) ∙ combination-unit (order M f) F M.rank (λ k. matrix M f k j) i m c);
}

pub takes_after : (mode : Mode) (M N L : Rep) (a b : Move) → IsShaped M → IsMove mode (shape M) a → IsMove mode (shape M) b →
    TakesTo M b N → TakesTo N a L → TakesTo M (after (shape M) a b) L
takes_after mode M N L a b s v w t u =
    let g : Codes (shape M) (matrix N) a (matrix L) = subst (λ S. Codes S (matrix N) a (matrix L)) t.same_shape u.codes in
    record {
      same_shape = u.same_shape ∙ t.same_shape;
      shaped = u.shaped;
      codes = codes_after mode (shape M) s.orders a b (matrix M) (matrix N) (matrix L) s.codes v w t.codes g;
    }

pub takes_undone : (mode : Mode) (M N : Rep) (a : Move) → IsShaped M → IsMove mode (shape M) a → TakesTo M a N → TakesTo N (undo (shape M) a) M
takes_undone mode M N a s v t =
    let e = sym t.same_shape in
    let g : Codes (shape M) (matrix N) (undo (shape M) a) (matrix M) = codes_undone mode (shape M) s.orders a (matrix M) (matrix N) s.codes v t.codes in
    record {
      same_shape = e;
      shaped = s;
      codes = subst (λ S. Codes S (matrix N) (undo (shape M) a) (matrix M)) e g;
    }

-- ---- equivalence is an equivalence

pub equivalent-reflexive : (mode : Mode) (M : Rep) → IsShaped M → AreEquivalent mode M M
equivalent-reflexive mode M s = record {
  shaped = s;
  move = identity;
  valid = identity_move mode (shape M) s.orders;
  takes = takes_identity M s;
}

pub equivalent-transitive : (mode : Mode) (M N L : Rep) → AreEquivalent mode M N → AreEquivalent mode N L → AreEquivalent mode M L
equivalent-transitive mode M N L e d =
    let w : IsMove mode (shape M) d.move = subst (λ S. IsMove mode S d.move) e.takes.same_shape d.valid in
    record {
      shaped = e.shaped;
      move = after (shape M) d.move e.move;
      valid = after_move mode (shape M) e.shaped.orders d.move e.move w e.valid;
      takes = takes_after mode M N L d.move e.move e.shaped w e.valid e.takes d.takes;
    }

pub equivalent-symmetric : (mode : Mode) (M N : Rep) → AreEquivalent mode M N → AreEquivalent mode N M
equivalent-symmetric mode M N e =
    let v : IsMove mode (shape M) (undo (shape M) e.move) = undo_move mode (shape M) e.shaped.orders e.move e.valid in
    record {
      shaped = e.takes.shaped;
      move = undo (shape M) e.move;
      valid = subst (λ S. IsMove mode S (undo (shape M) e.move)) (sym e.takes.same_shape) v;
      takes = takes_undone mode M N e.move e.shaped e.valid e.takes;
    }
