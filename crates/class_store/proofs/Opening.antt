-- A level as it is opened.
use Rattle.std.proofs.Common.{◌≡◌, ℕ, zero, suc, ◌+◌, List, [], ◌∷◌, ◌++◌, map, length, replicate, slice_get, refl, ap, ap₂, sym, ◌∙◌, subst, arith, Some}
use Rattle.std.specs.List.{AllByRecursion}
use Rattle.std.proofs.lemmas.List.{length-map, map_push, length-replicate}
use Rattle.list_lemmas.proofs.Lists.{all_push}
use Rattle.atomic_table.specs.Seated.{TableId}
use Rattle.stripe_book.specs.Seen.{CallerSide, TableSide, fresh_callers}
use Rattle.stripe_turn.specs.declared.stripe.Stripe.{Stripe}
use Rattle.stripe_turn.specs.Rule.{tables_in}
use Rattle.stripe_turn.specs.Seen.{TurnSide}
use Rattle.class_store.specs.Seen.{LevelId, IsPass, IsReady, blank, track_of, pass_side, fresh_caller, fresh_row, fresh_rows, fresh_passes}
use Rattle.class_store.specs.Rows.{add_column, passes_from, ArePasses}

snoc_length : {A : Type 0} (xs : List A) (x : A) → length (xs ++ x ∷ []) ≡ suc (length xs)
snoc_length [] x = refl
snoc_length (y ∷ ys) x = ap suc (snoc_length ys x)

replicate_snoc : {A : Type 0} (n : ℕ) (x : A) → replicate (suc n) x ≡ replicate n x ++ x ∷ []
replicate_snoc zero x = refl
replicate_snoc (suc n) x = ap (λ l. x ∷ l) (replicate_snoc n x)

-- ---- one more stripe
column_snoc : (rs : List (List CallerSide)) (cs : List CallerSide) (r : List CallerSide) (c : CallerSide) → length rs ≡ length cs
    → add_column (rs ++ r ∷ []) (cs ++ c ∷ []) ≡ add_column rs cs ++ (r ++ c ∷ []) ∷ []
column_snoc [] [] r c e = refl
column_snoc [] (d ∷ cs) r c e = absurd (omega arith)
column_snoc (q ∷ rs) [] r c e = absurd (omega arith)
column_snoc (q ∷ rs) (d ∷ cs) r c e = ap (λ l. (q ++ d ∷ []) ∷ l) (column_snoc rs cs r c (omega arith))

pub rows_length : (ts : List TableId) (n : ℕ) → length (fresh_rows ts n) ≡ n
rows_length ts zero = refl
rows_length ts (suc n) = snoc_length (fresh_rows ts n) (fresh_row ts n) ∙ ap suc (rows_length ts n)

pub callers_length : (t : TableId) (n : ℕ) → length (fresh_callers t n) ≡ n
callers_length t zero = refl
callers_length t (suc n) = snoc_length (fresh_callers t n) (fresh_caller n t) ∙ ap suc (callers_length t n)

rows_more : (ts : List TableId) (t : TableId) (n : ℕ) → add_column (fresh_rows ts n) (fresh_callers t n) ≡ fresh_rows (ts ++ t ∷ []) n
rows_more ts t zero = refl
rows_more ts t (suc n) =
    column_snoc (fresh_rows ts n) (fresh_callers t n) (fresh_row ts n) (fresh_caller n t) (rows_length ts n ∙ sym (callers_length t n))
    ∙ ap₂ (λ l r. l ++ r ∷ []) (rows_more ts t n) (sym (map_push (fresh_caller n) ts t))

-- what is so while the stripes are opened
pub record IsOpening (passes count : ℕ) (tables : List TableSide) (locked : List Stripe) (rows : List (List CallerSide)) : Type 0 where
  pub same : tables_in locked ≡ map (λ (t : TableSide). t.table) tables
  pub callers : AllByRecursion (λ (t : TableSide). t.callers ≡ passes) tables
  pub filled : rows ≡ fresh_rows (map (λ (t : TableSide). t.table) tables) passes
  pub number : length tables ≡ count

pub opening_more : (passes count : ℕ) (tables : List TableSide) (locked : List Stripe) (rows : List (List CallerSide)) (t : TableSide) (y : Stripe)
    (column : List CallerSide) → IsOpening passes count tables locked rows
    → t.callers ≡ passes → y.book.table ≡ t.table → column ≡ fresh_callers t.table passes
    → IsOpening passes (count + 1) (tables ++ t ∷ []) (locked ++ y ∷ []) (add_column rows column)
opening_more passes count tables locked rows t y column o callers table is = record {
  same = map_push (λ (s : Stripe). s.book.table) locked y ∙ (ap₂ (λ l k. l ++ k ∷ []) o.same table ∙ sym (map_push (λ (t : TableSide). t.table) tables t));
  callers = all_push (λ (t : TableSide). t.callers ≡ passes) tables t o.callers callers;
  filled = ap₂ add_column o.filled is ∙ (rows_more (map (λ (t : TableSide). t.table) tables) t.table passes
      ∙ ap (λ l. fresh_rows l passes) (sym (map_push (λ (t : TableSide). t.table) tables t)));
  number = snoc_length tables t ∙ (ap suc o.number ∙ omega arith);
}

pub opening_next : (passes count : ℕ) (tables tables' : List TableSide) (locked locked' : List Stripe) (rows rows' : List (List CallerSide))
    (t : TableSide) (y : Stripe) (column : List CallerSide) → IsOpening passes count tables locked rows
    → t.callers ≡ passes → y.book.table ≡ t.table → column ≡ fresh_callers t.table passes → tables' ≡ tables ++ t ∷ [] → locked' ≡ locked ++ y ∷ []
    → rows' ≡ add_column rows column → IsOpening passes (count + 1) tables' locked' rows'
opening_next passes count tables tables' locked locked' rows rows' t y column o callers table is e f g =
    subst (λ ts. IsOpening passes (count + 1) ts locked' rows') (sym e)
    (subst (λ ys. IsOpening passes (count + 1) (tables ++ t ∷ []) ys rows') (sym f)
    (subst (IsOpening passes (count + 1) (tables ++ t ∷ []) (locked ++ y ∷ [])) (sym g)
    (opening_more passes count tables locked rows t y column o callers table is)))

-- ---- the passes
row_at : (n : ℕ) (ts : List TableId) (s : ℕ) (c : CallerSide) → slice_get (map (fresh_caller n) ts) s ≡ Some c
    → (t : TableId) × (slice_get ts s ≡ Some t) × (fresh_caller n t ≡ c)
row_at n [] s c e = absurd (cc e)
row_at n (t ∷ ts) zero c e = (t, refl, cc e)
row_at n (t ∷ ts) (suc s) c e = row_at n ts s c e

row_tracks : (n : ℕ) (ts : List TableId) → map track_of (fresh_row ts n) ≡ replicate (length ts) blank
row_tracks n [] = refl
row_tracks n (t ∷ ts) = ap (λ l. blank ∷ l) (row_tracks n ts)

fresh_pass : (n : ℕ) (ts : List TableId) (turn : TurnSide) → turn.tables ≡ ts → turn.held ≡ [] → IsPass n (fresh_row ts n) turn
fresh_pass n ts turn is free = subst (λ l. IsPass n (fresh_row l n) turn) is record {
  width = length-map turn.tables (fresh_caller n);
  free = free;
  ready = λ s c e. let at = row_at n turn.tables s c e in
      subst (IsReady n turn.tables s) at.2 record { here = at.1; named = refl; idle = refl; calls = refl; names = tt };
}

are_snoc : (rs : List (List CallerSide)) (ts : List TurnSide) (r : List CallerSide) (t : TurnSide) (k m : ℕ) → length rs ≡ length ts
    → m ≡ k + length rs → ArePasses rs ts k → IsPass m r t → ArePasses (rs ++ r ∷ []) (ts ++ t ∷ []) k
are_snoc [] [] r t k m e f all p = (subst (λ (n : ℕ). IsPass n r t) (f ∙ omega arith) p, tt)
are_snoc [] (u ∷ ts) r t k m e f all p = absurd (omega arith)
are_snoc (q ∷ rs) [] r t k m e f all p = absurd (omega arith)
are_snoc (q ∷ rs) (u ∷ ts) r t k m e f all p = (all.0, are_snoc rs ts r t (suc k) m (omega arith) (f ∙ omega arith) all.1 p)

from_snoc : (rs : List (List CallerSide)) (ts : List TurnSide) (r : List CallerSide) (t : TurnSide) (k m : ℕ) → length rs ≡ length ts
    → m ≡ k + length rs → passes_from (rs ++ r ∷ []) (ts ++ t ∷ []) k ≡ passes_from rs ts k ++ pass_side m r t ∷ []
from_snoc [] [] r t k m e f = ap (λ (n : ℕ). pass_side n r t ∷ []) (sym (f ∙ omega arith))
from_snoc [] (u ∷ ts) r t k m e f = absurd (omega arith)
from_snoc (q ∷ rs) [] r t k m e f = absurd (omega arith)
from_snoc (q ∷ rs) (u ∷ ts) r t k m e f = ap (λ l. pass_side k q u ∷ l) (from_snoc rs ts r t (suc k) m (omega arith) (f ∙ omega arith))

pub all_passes : (ts : List TableId) (turn : TurnSide) (n : ℕ) → turn.tables ≡ ts → turn.held ≡ [] → ArePasses (fresh_rows ts n) (replicate n turn) 0
all_passes ts turn zero is free = tt
all_passes ts turn (suc n) is free = subst (λ l. ArePasses (fresh_rows ts n ++ fresh_row ts n ∷ []) l 0) (sym (replicate_snoc n turn))
    (are_snoc (fresh_rows ts n) (replicate n turn) (fresh_row ts n) turn 0 n (rows_length ts n ∙ sym (length-replicate n turn))
    (sym (rows_length ts n) ∙ omega arith) (all_passes ts turn n is free) (fresh_pass n ts turn is free))

pub passes_are : (ts : List TableId) (turn : TurnSide) (level : LevelId) (n : ℕ) → turn.tables ≡ ts
    → level ≡ record { turns = turn.turns; tables = turn.tables } → passes_from (fresh_rows ts n) (replicate n turn) 0 ≡ fresh_passes level n
passes_are ts turn level zero is l = refl
passes_are ts turn level (suc n) is l =
    let one : pass_side n (fresh_row ts n) turn ≡ record { level = level; number = n; tracks = replicate (length level.tables) blank } =
    λ i. record {
      level = (sym l) i;
      number = n;
      tracks = (row_tracks n ts ∙ ap (λ (t : List TableId). replicate (length t) blank) (sym is ∙ ap (λ (v : LevelId). v.tables) (sym l))) i;
    } in
    ap (λ ts'. passes_from (fresh_rows ts n ++ fresh_row ts n ∷ []) ts' 0) (replicate_snoc n turn)
    ∙ (from_snoc (fresh_rows ts n) (replicate n turn) (fresh_row ts n) turn 0 n (rows_length ts n ∙ sym (length-replicate n turn))
    (sym (rows_length ts n) ∙ omega arith)
    ∙ ap₂ (λ ps p. ps ++ p ∷ []) (passes_are ts turn level n is l) one)
