-- A level while it is closed.
use Rattle.std.proofs.Common.{◌≡◌, ℕ, zero, suc, ◌<◌, List, [], ◌∷◌, ◌++◌, map, length, take, drop, slice_get, slice_set, slice_index_or, refl, ap, sym, ◌∙◌, subst, arith, Some, Contains, append_assoc}
use Rattle.std.specs.List.{AllByRecursion}
use Rattle.std.proofs.lemmas.List.{map-set, length-map}
use Rattle.std.proofs.Math.Seq.{map-set_same}
use Rattle.list_lemmas.proofs.Lists.{all_push}
use Rattle.atomic_table.specs.Seated.{TableId}
use Rattle.stripe_book.specs.declared.view.Phase.TheVariants.{Idle}
use Rattle.stripe_book.specs.Seen.{BookSide, CallerSide, TableSide}
use Rattle.stripe_turn.specs.declared.stripe.Stripe.{Stripe}
use Rattle.stripe_turn.specs.Rule.{tables_in}
use Rattle.stripe_turn.specs.Seen.{TurnSide}
use Rattle.class_store.specs.declared.closed.ClosedStripe.{ClosedStripe}
use Rattle.class_store.specs.Closed.{IsSettled}
use Rattle.class_store.specs.Closing.{downward, books_in, left_by, left_all, MayLeave, MayEnd}

-- ---- all stripes are taken
down_below : (n k d : ℕ) → k < length (downward n) → slice_index_or (downward n) k d < n
down_below zero k d lt = absurd (omega arith)
down_below (suc n) zero d lt = omega arith
down_below (suc n) (suc k) d lt = let r : slice_index_or (downward n) k d < n = down_below n k d (omega arith) in omega arith

pub not_held : (held : List ℕ) (n : ℕ) → held ≡ downward n → ¬ (Contains held n)
not_held held n is c = let d : Contains (downward n) n = subst (λ l. Contains l n) is c in
    let r : slice_index_or (downward n) d.0 n < n = down_below n d.0 n d.1 in let e : slice_index_or (downward n) d.0 n ≡ n = d.2 in
    absurd (omega arith)

pub one_more_held : (turn next : TurnSide) (now : TurnSide) (n m : ℕ) → now ≡ record turn { held = downward n }
    → next ≡ record now { held = n ∷ now.held } → m ≡ suc n → next ≡ record turn { held = downward m }
one_more_held turn next now n m is e more = e
    ∙ (ap (λ (t : TurnSide). record t { held = n ∷ t.held }) is ∙ ap (λ k. record turn { held = downward k }) (sym more))

pub take_next : {A : Type 0} (xs : List A) (n m : ℕ) (x : A) → slice_get xs n ≡ Some x → m ≡ suc n → take m xs ≡ take n xs ++ x ∷ []
take_next [] n m x e more = absurd (cc e)
take_next (y ∷ ys) zero m x e more = let same : y ≡ x = cc e in ap (λ k. take k (y ∷ ys)) more ∙ ap (λ z. z ∷ []) same
take_next (y ∷ ys) (suc n) m x e more = ap (λ k. take k (y ∷ ys)) more ∙ ap (λ l. y ∷ l) (take_next ys n (suc n) x e refl)

pub one_more_taken : (tables : List TableId) (taken more : List Stripe) (n m : ℕ) (s : Stripe) → tables_in taken ≡ take n tables
    → more ≡ taken ++ s ∷ [] → slice_get tables n ≡ Some s.book.table → m ≡ suc n → tables_in more ≡ take m tables
one_more_taken tables taken more n m s is e here next = ap tables_in e
    ∙ (snoc taken s ∙ (ap (λ l. l ++ s.book.table ∷ []) is ∙ sym (take_next tables n m s.book.table here next)))
  where
    snoc : (xs : List Stripe) (x : Stripe) → tables_in (xs ++ x ∷ []) ≡ tables_in xs ++ x.book.table ∷ []
    snoc [] x = refl
    snoc (y ∷ ys) x = ap (λ l. y.book.table ∷ l) (snoc ys x)

-- ---- lists
pub one_at : {A B C : Type 0} (f : A → C) (g : B → C) (xs : List A) (ys : List B) (k : ℕ) (x : A) (y : B) → map f xs ≡ map g ys → k < length xs
    → f (slice_index_or xs k x) ≡ g (slice_index_or ys k y)
one_at f g [] ys k x y e lt = absurd (omega arith)
one_at f g (a ∷ xs) [] k x y e lt = absurd (cc e)
one_at f g (a ∷ xs) (b ∷ ys) zero x y e lt = cc e
one_at f g (a ∷ xs) (b ∷ ys) (suc k) x y e lt = one_at f g xs ys k x y (cc e) (omega arith)

-- ---- each caller leaves
pub may_next : (ts : List TableId) (at m : ℕ) (cs : List CallerSide) (c : CallerSide) (rest : List CallerSide) (d : TableId)
    → MayLeave (drop at ts) cs → cs ≡ c ∷ rest → at < length ts → m ≡ suc at
    → (c.table ≡ slice_index_or ts at d) × (c.phase ≡ Idle) × MayLeave (drop m ts) rest
may_next [] at m cs c rest d may e lt more = absurd (omega arith)
may_next (t ∷ ts) zero m cs c rest d may e lt more = let r = subst (MayLeave (t ∷ ts)) e may in
    (r.0, r.1, subst (λ k. MayLeave (drop k (t ∷ ts)) rest) (sym more) r.2)
may_next (t ∷ ts) (suc at) m cs c rest d may e lt more = let r = may_next ts at (suc at) cs c rest d may e (omega arith) refl in
    (r.0, r.1, subst (λ k. MayLeave (drop k (t ∷ ts)) rest) (sym more) r.2)

leaves_next : (bs : List BookSide) (at m : ℕ) (b d : BookSide) (c : CallerSide) (rest : List CallerSide) → at < length bs
    → b ≡ left_by (slice_index_or bs at d) c → m ≡ suc at
    → take at bs ++ left_all (drop at bs) (c ∷ rest) ≡ take m (slice_set bs at b) ++ left_all (drop m (slice_set bs at b)) rest
leaves_next [] at m b d c rest lt e more = absurd (omega arith)
leaves_next (x ∷ xs) zero m b d c rest lt e more = ap (λ z. z ∷ left_all xs rest) (sym e)
    ∙ ap (λ k. take k (b ∷ xs) ++ left_all (drop k (b ∷ xs)) rest) (sym more)
leaves_next (x ∷ xs) (suc at) m b d c rest lt e more = ap (λ l. x ∷ l) (leaves_next xs at (suc at) b d c rest (omega arith) e refl)
    ∙ ap (λ k. take k (x ∷ slice_set xs at b) ++ left_all (drop k (x ∷ slice_set xs at b)) rest) (sym more)

book_at : (ys : List Stripe) (k : ℕ) (y : Stripe) (d : BookSide) → k < length ys → slice_index_or (books_in ys) k d ≡ (slice_index_or ys k y).book
book_at [] k y d lt = absurd (omega arith)
book_at (z ∷ zs) zero y d lt = refl
book_at (z ∷ zs) (suc k) y d lt = book_at zs k y d (omega arith)

pub books_next : (all : List BookSide) (ys : List Stripe) (at m : ℕ) (y y' : Stripe) (cs : List CallerSide) (c : CallerSide) (rest : List CallerSide)
    → all ≡ take at (books_in ys) ++ left_all (drop at (books_in ys)) cs → cs ≡ c ∷ rest
    → at < length ys → y'.book ≡ left_by (slice_index_or ys at y).book c → m ≡ suc at
    → all ≡ take m (books_in (slice_set ys at y')) ++ left_all (drop m (books_in (slice_set ys at y'))) rest
books_next all ys at m y y' cs c rest is e lt left more =
    let below : at < length (books_in ys) = subst (λ (n : ℕ). at < n) (sym (length-map ys (λ (s : Stripe). s.book))) lt in
    is ∙ (ap (λ l. take at (books_in ys) ++ left_all (drop at (books_in ys)) l) e
    ∙ (leaves_next (books_in ys) at m y'.book y'.book c rest below (left ∙ ap (λ b. left_by b c) (sym (book_at ys at y y'.book lt))) more
    ∙ ap (λ l. take m l ++ left_all (drop m l) rest) (sym (map-set (λ (s : Stripe). s.book) ys at y'))))

pub tables_stay : (ys : List Stripe) (at : ℕ) (y y' : Stripe) (c : CallerSide) → y'.book ≡ left_by (slice_index_or ys at y).book c
    → tables_in (slice_set ys at y') ≡ tables_in ys
tables_stay ys at y y' c e = map-set_same (λ (s : Stripe). s.book.table) ys at y' y (ap (λ (b : BookSide). b.table) e)

-- ---- each stripe is ended
snoc_ended : (cs : List ClosedStripe) (c : ClosedStripe)
    → map (λ (k : ClosedStripe). k.ended) (cs ++ c ∷ []) ≡ map (λ (k : ClosedStripe). k.ended) cs ++ c.ended ∷ []
snoc_ended [] c = refl
snoc_ended (k ∷ ks) c = ap (λ l. k.ended ∷ l) (snoc_ended ks c)

pub ended_next : (all : List BookSide) (ys ys' : List Stripe) (y : Stripe) (room room' : List ClosedStripe) (k : ClosedStripe)
    → all ≡ map (λ (c : ClosedStripe). c.ended) room ++ books_in ys → ys ≡ y ∷ ys' → room' ≡ room ++ k ∷ [] → k.ended ≡ y.book
    → all ≡ map (λ (c : ClosedStripe). c.ended) room' ++ books_in ys'
ended_next all ys ys' y room room' k is e f same =
    is ∙ (ap (λ l. map (λ (c : ClosedStripe). c.ended) room ++ books_in l) e
    ∙ (sym (append_assoc (map (λ (c : ClosedStripe). c.ended) room) (y.book ∷ []) (books_in ys'))
    ∙ (ap (λ b. (map (λ (c : ClosedStripe). c.ended) room ++ b ∷ []) ++ books_in ys') (sym same)
    ∙ ap (λ l. l ++ books_in ys') (sym (ap (λ l. map (λ (c : ClosedStripe). c.ended) l) f ∙ snoc_ended room k)))))

pub may_end_next : (ts ts' : List TableSide) (t : TableSide) (ys ys' : List Stripe) (y : Stripe) → MayEnd ts (books_in ys) → ts ≡ t ∷ ts'
    → ys ≡ y ∷ ys' → MayEnd ts' (books_in ys')
may_end_next ts ts' t ys ys' y may e f = let r : MayEnd (t ∷ ts') (books_in (y ∷ ys')) = subst (λ l. MayEnd l (books_in (y ∷ ys'))) e
    (subst (λ l. MayEnd ts (books_in l)) f may) in r.2

pub settled_next : (all ts ts' : List TableSide) (t : TableSide) (room room' : List ClosedStripe) (k : ClosedStripe)
    → ((n : ℕ) → AllByRecursion (λ (t : TableSide). t.callers ≡ n) all
    → AllByRecursion (IsSettled n) room × AllByRecursion (λ (t : TableSide). t.callers ≡ n) ts)
    → ts ≡ t ∷ ts' → room' ≡ room ++ k ∷ [] → IsSettled t.callers k
    → (n : ℕ) → AllByRecursion (λ (t : TableSide). t.callers ≡ n) all
    → AllByRecursion (IsSettled n) room' × AllByRecursion (λ (t : TableSide). t.callers ≡ n) ts'
settled_next all ts ts' t room room' k is e f good n each =
    let r = is n each in let s : AllByRecursion (λ (t : TableSide). t.callers ≡ n) (t ∷ ts') = subst
    (AllByRecursion (λ (t : TableSide). t.callers ≡ n)) e r.1 in
    (subst (AllByRecursion (IsSettled n)) (sym f) (all_push (IsSettled n) room k r.0 (subst (λ m. IsSettled m k) s.0 good)), s.1)

pub map_at : {A B : Type 0} (f : A → B) (xs : List A) (k : ℕ) (x : A) → slice_index_or (map f xs) k (f x) ≡ f (slice_index_or xs k x)
map_at f [] k x = refl
map_at f (y ∷ ys) zero x = refl
map_at f (y ∷ ys) (suc k) x = map_at f ys k x
