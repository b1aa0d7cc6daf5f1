-- A level that is closed.
use Rattle.std.proofs.Common.{◌≡◌, ℕ, zero, suc, ◌+◌, ◌<◌, ◌≤◌, List, [], ◌∷◌, ◌++◌, map, length, take, drop, slice_get, slice_index_or, refl, ap, ap₂, sym, ◌∙◌, subst, arith, Some, option_map, Contains, append_assoc, replicate, ⊎_elim, inl, inr, eqb-true, eq-eqb, cond, Bool, true, false, ◌==◌}
use Rattle.std.specs.List.{AllByRecursion, count_by, sum_by}
use Rattle.std.proofs.lemmas.Bool.{cases_lt}
use Rattle.std.proofs.lemmas.List.{length-map}
use Rattle.std.proofs.lemmas.List.Sums.{sum_by-cons}
use Rattle.std.proofs.lemmas.Option.{slice_get-map, slice_get-get_or, slice_get_within}
use Rattle.list_lemmas.proofs.Lists.{all_got, all_at, all_between, all_weaker}
use Rattle.atomic_table.specs.Seated.{TableId}
use Rattle.histories.specs.declared.entry.Entry.{Entry}
use Rattle.histories.specs.History.{calls_by}
use Rattle.histories.specs.Counts.{entries_with, entries_in}
use Rattle.histories.proofs.Tally.{by_callers}
use Rattle.stripe_book.specs.declared.view.Trace.{Trace}
use Rattle.stripe_book.specs.declared.view.Phase.TheVariants.{Idle}
use Rattle.stripe_book.specs.Rule.{trace}
use Rattle.stripe_book.specs.Seen.{BookSide, CallerSide, TableSide, EachLeft, OwnCalls, OfCallersBelow, SawBeginnings, fresh_callers}
use Rattle.stripe_turn.specs.declared.stripe.Stripe.{Stripe}
use Rattle.stripe_turn.specs.Rule.{tables_in}
use Rattle.stripe_turn.specs.Seen.{TurnSide, TurnsSide}
use Rattle.class_store.specs.declared.closed.ClosedStripe.{ClosedStripe}
use Rattle.class_store.specs.Seen.{LevelSide, PassSide, Track, IsOpen, IsPass, AreItsPasses, IsDoneBy, IsClosedBy, calls_with, Names, blank, track_of, pass_side}
use Rattle.class_store.specs.Closed.{IsReplayed, IsSettled, IsClosed, histories_of}
use Rattle.class_store.specs.Closing.{books_in, left_by, left_all, MayLeave, MayEnd, trace_at, IsWhole, HaveLeft}

-- ---- the passes leave
may_leave_by : (ts : List TableId) (cs : List CallerSide) → length cs ≡ length ts
    → ((s : ℕ) (c : CallerSide) → slice_get cs s ≡ Some c → (slice_get ts s ≡ Some c.table) × (c.phase ≡ Idle)) → MayLeave ts cs
may_leave_by [] cs e f = tt
may_leave_by (t ∷ ts) [] e f = absurd (omega arith)
may_leave_by (t ∷ ts) (c ∷ cs) e f = let r = f 0 c refl in
    ((let same : t ≡ c.table = cc (r.0) in sym same), r.1, may_leave_by ts cs (omega arith) (λ s d g. f (suc s) d g))

pub may_leave : (number : ℕ) (callers : List CallerSide) (turn : TurnSide) (ts : List TableId) → IsPass number callers turn → turn.tables ≡ ts
    → MayLeave ts callers
may_leave number callers turn ts p e = subst (λ l. MayLeave l callers) e
    (may_leave_by turn.tables callers p.width (λ s c g. let r = p.ready s c g in (r.here, r.idle)))

left_at : (bs : List BookSide) (cs : List CallerSide) (s : ℕ) (b : BookSide) → slice_get (left_all bs cs) s ≡ Some b
    → (old : BookSide) × (c : CallerSide) × (slice_get bs s ≡ Some old) × (slice_get cs s ≡ Some c) × (left_by old c ≡ b)
left_at [] cs s b e = absurd (cc e)
left_at (x ∷ xs) [] s b e = absurd (cc e)
left_at (x ∷ xs) (c ∷ cs) zero b e = (x, c, refl, refl, cc e)
left_at (x ∷ xs) (c ∷ cs) (suc s) b e = left_at xs cs s b e

left_tables : (bs : List BookSide) (cs : List CallerSide) → length cs ≡ length bs
    → map (λ (b : BookSide). b.table) (left_all bs cs) ≡ map (λ (b : BookSide). b.table) bs
left_tables [] cs e = refl
left_tables (b ∷ bs) [] e = absurd (omega arith)
left_tables (b ∷ bs) (c ∷ cs) e = ap (λ l. b.table ∷ l) (left_tables bs cs (omega arith))

track_at : (callers : List CallerSide) (s : ℕ) (c : CallerSide) → slice_get callers s ≡ Some c → slice_index_or (map track_of callers) s blank ≡ track_of c
track_at [] s c e = absurd (cc e)
track_at (d ∷ ds) zero c e = let same : d ≡ c = cc e in ap track_of same
track_at (d ∷ ds) (suc s) c e = track_at ds s c e

track_from : (callers : List CallerSide) (s : ℕ) (t : Track) → slice_get (map track_of callers) s ≡ Some t
    → (c : CallerSide) × (slice_get callers s ≡ Some c) × (track_of c ≡ t)
track_from [] s t e = absurd (cc e)
track_from (d ∷ ds) zero t e = (d, refl, cc e)
track_from (d ∷ ds) (suc s) t e = track_from ds s t e

pub whole : (number : ℕ) (callers : List CallerSide) (turn : TurnSide) (p : PassSide) → IsPass number callers turn → pass_side number callers turn ≡ p
    → IsWhole (length turn.tables) p
whole number callers turn p pass is = subst (IsWhole (length turn.tables)) is record {
  wide = length-map callers track_of ∙ pass.width;
  names = λ s t e. let at = track_from callers s t e in subst (λ (u : Track). Names (length turn.tables) s u.mine) at.2 (pass.ready s at.0 at.1).names;
}

pub tables_of_books : (ys : List Stripe) → map (λ (b : BookSide). b.table) (books_in ys) ≡ tables_in ys
tables_of_books [] = refl
tables_of_books (y ∷ ys) = ap (λ l. y.book.table ∷ l) (tables_of_books ys)

pub none_left : (turn : TurnSide) (taken : List Stripe) (ts : List TableId) → tables_in taken ≡ turn.tables → turn.tables ≡ ts → HaveLeft [] ts (books_in taken)
none_left turn taken ts is e = record { same = tables_of_books taken ∙ (is ∙ e); whole = tt; each = λ s b g. (b.left, refl) }

pub one_more_left : (gone : List PassSide) (ts : List TableId) (bs bs' : List BookSide) (number : ℕ) (callers : List CallerSide) (turn : TurnSide)
    (p : PassSide) → HaveLeft gone ts bs → IsPass number callers turn → turn.tables ≡ ts
    → bs' ≡ left_all bs callers → pass_side number callers turn ≡ p → HaveLeft (p ∷ gone) ts bs'
one_more_left gone ts bs bs' number callers turn p h pass tables e is =
    let count : length callers ≡ length bs = pass.width
    ∙ (ap (λ (l : List TableId). length l) (tables ∙ sym h.same) ∙ length-map bs (λ (b : BookSide). b.table)) in
    subst (HaveLeft (p ∷ gone) ts) (sym e) record {
      same = left_tables bs callers count ∙ h.same;
      whole = (subst (λ l. IsWhole (length l) p) tables (whole number callers turn p pass is), h.whole);
      each = λ s b g.
          let at = left_at bs callers s b g in
          let old = h.each s at.0 at.2 in
          let c = at.1 in
          let mine : trace c.number c.seen c.mine ≡ trace_at s p = subst (λ q. trace c.number c.seen c.mine ≡ trace_at s q) is
          (ap₂ (λ n (t : Track). trace n t.seen t.mine) (pass.ready s c at.3).named (sym (track_at callers s c at.3))) in
          (old.0, ap (λ (x : BookSide). x.left) (sym at.4) ∙ ap₂ (λ t l. t ∷ l) mine old.1);
    }

-- ---- all have left
once_by : (c : ℕ) (p : PassSide) (ps : List PassSide) (b : Bool) → (c == p.number) ≡ b
    → (count_by (λ (p : PassSide). c == p.number) ps ≡ 1 → (p : PassSide) × Contains ps p × (p.number ≡ c))
    → cond b 1 0 + count_by (λ (p : PassSide). c == p.number) ps ≡ 1
    → (q : PassSide) × Contains (p ∷ ps) q × (q.number ≡ c)
once_by c p ps true e go one = (p, (0, omega arith, refl), sym (eqb-true c p.number e))
once_by c p ps false e go one = let r = go (omega arith) in (r.0, (suc r.1.0, (let l = r.1.1 in omega arith), r.1.2), r.2)

-- a number that stands once has a pass
pub pass_of : (c : ℕ) (ps : List PassSide) → count_by (λ (p : PassSide). c == p.number) ps ≡ 1 → (p : PassSide) × Contains ps p × (p.number ≡ c)
pass_of c [] one = absurd (omega arith)
pass_of c (p ∷ ps) one = once_by c p ps (c == p.number) refl (pass_of c ps) (sym (sum_by-cons (λ (p : PassSide). cond (c == p.number) 1 0) p ps) ∙ one)

left_in : (s : ℕ) (ps : List PassSide) (more : List Trace) (k : ℕ) (p : PassSide) → k < length ps → slice_index_or ps k p ≡ p
    → Contains (map (trace_at s) ps ++ more) (trace_at s p)
left_in s [] more k p lt e = absurd (omega arith)
left_in s (q ∷ qs) more zero p lt e = (0, omega arith, ap (trace_at s) e)
left_in s (q ∷ qs) more (suc k) p lt e = let r = left_in s qs more k p (omega arith) e in (suc r.0, (let l = r.1 in omega arith), r.2)

each_left : (level : LevelSide) (passes : List PassSide) (s : ℕ) (b : BookSide) (more : List Trace) → AreItsPasses level passes
    → b.left ≡ map (trace_at s) passes ++ more → EachLeft level.passes b.left
each_left level passes s b more its e c lt = let p = pass_of c passes (its.once c lt) in
    (trace_at s p.0, subst (λ l. Contains l (trace_at s p.0)) (sym e) (left_in s passes more p.1.0 p.0 p.1.1 p.1.2), p.2)

may_end_by : (n : ℕ) (tables : List TableSide) (bs : List BookSide) → map (λ (b : BookSide). b.table) bs ≡ map (λ (t : TableSide). t.table) tables
    → AllByRecursion (λ (t : TableSide). t.callers ≡ n) tables
    → ((s : ℕ) (b : BookSide) → slice_get bs s ≡ Some b → EachLeft n b.left) → MayEnd tables bs
may_end_by n [] bs e all f = tt
may_end_by n (t ∷ ts) [] e all f = absurd (cc e)
may_end_by n (t ∷ ts) (b ∷ bs) e all f = (
  cc e,
  subst (λ m. EachLeft m b.left) (sym all.0) (f 0 b refl),
  may_end_by n ts bs (cc e) all.1 (λ s c g. f (suc s) c g),
)

pub may_end : (level : LevelSide) (passes : List PassSide) (tables : List TableSide) (turns : TurnsSide) (ts : List TableId) (bs : List BookSide)
    → AreItsPasses level passes → IsOpen tables turns level.passes → turns.tables ≡ ts → HaveLeft passes ts bs → MayEnd tables bs
may_end level passes tables turns ts bs its o e h = may_end_by level.passes tables bs (h.same ∙ sym (o.same ∙ e)) o.callers
    (λ s b g. let r = h.each s b g in each_left level passes s b r.0 its r.1)

-- ---- the histories
own_done : (s n : ℕ) (history : List Entry) (ps : List PassSide) (more : List Trace) → s < n → AllByRecursion (IsWhole n) ps
    → OwnCalls history (map (trace_at s) ps ++ more) → SawBeginnings history (map (trace_at s) ps ++ more) → AllByRecursion (IsDoneBy s history) ps
own_done s n history [] more lt all own saw = tt
own_done s n history (p ∷ ps) more lt all own saw =
    let below : s < length p.tracks = subst (λ (m : ℕ). s < m) (sym all.0.wide) lt in
    ((slice_index_or p.tracks s blank, slice_get-get_or p.tracks s blank below, own.0, saw.0), own_done s n history ps more lt all.1 own.1 saw.1)

names_tail : (stripes s c : ℕ) (e : Entry) (es : List Entry) (b : Bool) → Names stripes s (cond b (e ∷ calls_by c es) (calls_by c es))
    → Names stripes s (calls_by c es)
names_tail stripes s c e es true n = n.1
names_tail stripes s c e es false n = n

names_all : (stripes s : ℕ) (history : List Entry) → ((c : ℕ) → Names stripes s (calls_by c history)) → Names stripes s history
names_all stripes s [] f = tt
names_all stripes s (e ∷ es) f =
    let own : Names stripes s (e ∷ calls_by e.caller es) = subst (λ b. Names stripes s (cond b (e ∷ calls_by e.caller es) (calls_by e.caller es)))
    (eq-eqb e.caller e.caller refl) (f e.caller) in
    (own.0, names_all stripes s es (λ c. names_tail stripes s c e es (e.caller == c) (f c)))

history_at : (stripes : List ClosedStripe) (bs : List BookSide) (s : ℕ) (c : ClosedStripe) → map (λ (k : ClosedStripe). k.ended) stripes ≡ bs
    → slice_get stripes s ≡ Some c → slice_get bs s ≡ Some c.ended
history_at stripes bs s c e g = ap (λ l. slice_get l s) (sym e)
    ∙ (slice_get-map (λ (k : ClosedStripe). k.ended) stripes s ∙ ap (option_map (λ (k : ClosedStripe). k.ended)) g)

pub closed_by : (level : LevelSide) (passes : List PassSide) (bs : List BookSide) (stripes : List ClosedStripe) (s : ℕ) (c : ClosedStripe)
    → AreItsPasses level passes → HaveLeft passes level.level.tables bs
    → map (λ (k : ClosedStripe). k.ended) stripes ≡ bs → AllByRecursion (IsSettled level.passes) stripes → slice_get stripes s ≡ Some c
    → IsClosedBy level passes s c.ended.history
closed_by level passes bs stripes s c its h e all g =
    let settled : IsSettled level.passes c = all_got (IsSettled level.passes) stripes s c all g in
    let book = history_at stripes bs s c e g in
    let left = h.each s c.ended book in
    let n : ℕ = length level.level.tables in
    let count : length bs ≡ n = sym (length-map bs (λ (b : BookSide). b.table)) ∙ ap (λ (l : List TableId). length l) h.same in
    let lt : s < n = subst (λ (m : ℕ). s < m) count (slice_get_within bs s c.ended book) in
    let calls = own_done s n c.ended.history passes left.0 lt h.whole (subst (OwnCalls c.ended.history) left.1 settled.own)
    (subst (SawBeginnings c.ended.history) left.1 settled.saw) in
    let mine : (k : ℕ) → Names n s (calls_by k c.ended.history) = λ k. ⊎_elim
    (λ (below : k < level.passes).
    let p = pass_of k passes (its.once k below) in
    let done : IsDoneBy s c.ended.history p.0 = all_at (IsDoneBy s c.ended.history) passes p.1.0 p.0 calls p.1.1 p.1.2 in
    let one : IsWhole n p.0 = all_at (IsWhole n) passes p.1.0 p.0 h.whole p.1.1 p.1.2 in
    subst (Names n s) (sym done.2 ∙ ap (λ m. calls_by m c.ended.history) p.2) (one.names s done.0 done.1))
    (λ (above : level.passes ≤ k). subst (Names n s) (sym (settled.below k above)) tt)
    (cases_lt k level.passes) in
    record { legal = settled.replayed.legal; calls = calls; others = settled.below; names = names_all n s c.ended.history mine }

pub closed_width : (level : LevelSide) (passes : List PassSide) (bs : List BookSide) (stripes : List ClosedStripe)
    → HaveLeft passes level.level.tables bs → map (λ (k : ClosedStripe). k.ended) stripes ≡ bs → length stripes ≡ length level.level.tables
closed_width level passes bs stripes h e = sym (length-map stripes (λ (k : ClosedStripe). k.ended))
    ∙ (ap (λ (l : List BookSide). length l) e ∙ (sym (length-map bs (λ (b : BookSide). b.table)) ∙ ap (λ (l : List TableId). length l) h.same))

pub is_closed : (level : LevelSide) (passes : List PassSide) (bs : List BookSide) (stripes : List ClosedStripe) → AreItsPasses level passes
    → HaveLeft passes level.level.tables bs
    → map (λ (k : ClosedStripe). k.ended) stripes ≡ bs → AllByRecursion (IsSettled level.passes) stripes → IsClosed stripes
is_closed level passes bs stripes its h e all = record {
  replayed = all_weaker (IsSettled level.passes) IsReplayed stripes (λ c s. s.replayed) all;
  names = λ s c g. subst (λ n. Names n s c.ended.history) (sym (closed_width level passes bs stripes h e))
      (closed_by level passes bs stripes s c its h e all g).names;
}

pub history_from : (stripes : List ClosedStripe) (s : ℕ) (h : List Entry) → slice_get (histories_of stripes) s ≡ Some h
    → (c : ClosedStripe) × (slice_get stripes s ≡ Some c) × (c.ended.history ≡ h)
history_from [] s h e = absurd (cc e)
history_from (c ∷ cs) zero h e = (c, refl, cc e)
history_from (c ∷ cs) (suc s) h e = history_from cs s h e

pub histories_closed : (level : LevelSide) (passes : List PassSide) (bs : List BookSide) (stripes : List ClosedStripe) → AreItsPasses level passes
    → HaveLeft passes level.level.tables bs
    → map (λ (k : ClosedStripe). k.ended) stripes ≡ bs → AllByRecursion (IsSettled level.passes) stripes → (s : ℕ) (h : List Entry)
    → slice_get (histories_of stripes) s ≡ Some h → IsClosedBy level passes s h
histories_closed level passes bs stripes its hl e all s h g = let at = history_from stripes s h g in
    subst (IsClosedBy level passes s) at.2 (closed_by level passes bs stripes s at.0 its hl e all at.1)

-- ---- for the function that closes
pub written : (len : ℕ) (new old : List Stripe) → len ≡ length old → length new ≡ length old → take len (new ++ drop (length new) old) ≡ new
written len new old e f = ap (λ n. take n (new ++ drop (length new) old)) (e ∙ sym f) ∙ front new (drop (length new) old)
  where
    front : (xs ys : List Stripe) → take (length xs) (xs ++ ys) ≡ xs
    front [] ys = refl
    front (x ∷ xs) ys = ap (λ l. x ∷ l) (front xs ys)

pub of_level : (level : LevelSide) (passes front back : List PassSide) (p : PassSide) → AreItsPasses level passes → passes ≡ front ++ p ∷ back
    → p.level ≡ level.level
of_level level passes front back p its e = all_between (λ (p : PassSide). p.level ≡ level.level) front back p
    (subst (AllByRecursion (λ (p : PassSide). p.level ≡ level.level)) e its.each)

pub one_less : (passes now front gone : List PassSide) (p : PassSide) → passes ≡ now ++ gone → now ≡ front ++ p ∷ [] → passes ≡ front ++ p ∷ gone
one_less passes now front gone p e f = e ∙ (ap (λ l. l ++ gone) f ∙ append_assoc front (p ∷ []) gone)

pub have_all : (passes now gone : List PassSide) (ts : List TableId) (bs : List BookSide) → passes ≡ now ++ gone → now ≡ [] → HaveLeft gone ts bs
    → HaveLeft passes ts bs
have_all passes now gone ts bs e f h = subst (λ l. HaveLeft l ts bs) (sym (e ∙ ap (λ l. l ++ gone) f)) h

-- ---- a level without entries
pub one_fresh : (t : TableId) (xs : List CallerSide) (c : CallerSide) → fresh_callers t 1 ≡ xs ++ c ∷ [] → c.number ≡ 0
one_fresh t [] c e = let same : record { table = t; number = 0; phase = Idle; seen = []; mine = [] } ≡ c = cc e in ap (λ (d : CallerSide). d.number) (sym same)
one_fresh t (y ∷ []) c e = absurd (cc e)
one_fresh t (y ∷ z ∷ ys) c e = absurd (cc e)

pub first_left : (callers : ℕ) (left rest : List Trace) (t : Trace) → callers ≡ 1 → left ≡ t ∷ rest → t.number ≡ 0 → EachLeft callers left
first_left callers left rest t one e zero_number k lt =
    let k0 : k ≡ 0 = omega arith in (t, subst (λ l. Contains l t) (sym e) (0, omega arith, refl), zero_number ∙ sym k0)

empty_at : (n s : ℕ) (h : List Entry) → slice_get (replicate n []) s ≡ Some h → h ≡ []
empty_at zero s h e = absurd (cc e)
empty_at (suc n) zero h e = cc e
empty_at (suc n) (suc s) h e = empty_at n s h e

pub is_empty : (n : ℕ) (stripes : List ClosedStripe) → histories_of stripes ≡ replicate n [] → AllByRecursion IsReplayed stripes → IsClosed stripes
is_empty n stripes e all = record {
  replayed = all;
  names = λ s c g.
      let h : c.ended.history ≡ [] = empty_at n s c.ended.history (ap (λ (l : List (List Entry)). slice_get l s) (sym e)
      ∙ (slice_get-map (λ (k : ClosedStripe). k.ended.history) stripes s ∙ ap (option_map (λ (k : ClosedStripe). k.ended.history)) g)) in
      subst (Names (length stripes) s) (sym h) tt;
}

-- ---- the entries of the level are the calls of its passes
drop_at : {A : Type 0} (xs : List A) (k : ℕ) (x : A) → slice_get xs k ≡ Some x → drop k xs ≡ x ∷ drop (suc k) xs
drop_at [] k x e = absurd (cc e)
drop_at (y ∷ ys) zero x e = let same : y ≡ x = cc e in ap (λ z. z ∷ ys) same
drop_at (y ∷ ys) (suc k) x e = drop_at ys k x e

abbrev calls_from : List ℕ → ℕ → PassSide → ℕ
calls_from key k p = sum_by (λ (t : Track). entries_with key t.mine) (drop k p.tracks)

one_stripe : (key : List ℕ) (k : ℕ) (history : List Entry) (ps : List PassSide) → AllByRecursion (IsDoneBy k history) ps
    → sum_by (λ (p : PassSide). entries_with key (calls_by p.number history)) ps + sum_by (calls_from key (suc k)) ps ≡ sum_by (calls_from key k) ps
one_stripe key k history [] all = refl
one_stripe key k history (p ∷ ps) all =
    let r : sum_by (λ (p : PassSide). entries_with key (calls_by p.number history)) ps + sum_by (calls_from key (suc k)) ps ≡ sum_by
    (calls_from key k) ps = one_stripe key k history ps all.1 in
    let a = sum_by-cons (λ (p : PassSide). entries_with key (calls_by p.number history)) p ps in
    let b = sum_by-cons (calls_from key (suc k)) p ps in
    let c = sum_by-cons (calls_from key k) p ps in
    let t : Track = all.0.0 in
    let d : calls_from key k p ≡ entries_with key t.mine + calls_from key (suc k) p =
    ap (λ l. sum_by (λ (t : Track). entries_with key t.mine) l) (drop_at p.tracks k t all.0.1)
    ∙ sum_by-cons (λ (t : Track). entries_with key t.mine) t (drop (suc k) p.tracks) in
    let e : entries_with key (calls_by p.number history) ≡ entries_with key t.mine = ap (entries_with key) all.0.2 in
    omega arith

numbers_once : (c : ℕ) (ps : List PassSide) → count_by (λ (d : ℕ). c == d) (map (λ (p : PassSide). p.number) ps) ≡ count_by (λ (p : PassSide). c == p.number) ps
numbers_once c [] = refl
numbers_once c (p ∷ ps) = sum_by-cons (λ (d : ℕ). cond (c == d) 1 0) p.number (map (λ (p : PassSide). p.number) ps)
    ∙ (ap (λ (n : ℕ). cond (c == p.number) 1 0 + n) (numbers_once c ps) ∙ sym (sum_by-cons (λ (p : PassSide). cond (c == p.number) 1 0) p ps))

sum_map : (f : ℕ → ℕ) (ps : List PassSide) → sum_by f (map (λ (p : PassSide). p.number) ps) ≡ sum_by (λ (p : PassSide). f p.number) ps
sum_map f [] = refl
sum_map f (p ∷ ps) = sum_by-cons f p.number (map (λ (p : PassSide). p.number) ps)
    ∙ (ap (λ (n : ℕ). f p.number + n) (sum_map f ps) ∙ sym (sum_by-cons (λ (p : PassSide). f p.number) p ps))

one_history : (key : List ℕ) (level : LevelSide) (passes : List PassSide) (history : List Entry) → AreItsPasses level passes
    → OfCallersBelow level.passes history
    → entries_with key history ≡ sum_by (λ (p : PassSide). entries_with key (calls_by p.number history)) passes
one_history key level passes history its below =
    by_callers key (map (λ (p : PassSide). p.number) passes) history
    (λ c. ⊎_elim (λ (lt : c < level.passes). inr (numbers_once c passes ∙ its.once c lt)) (λ (le : level.passes ≤ c). inl (below c le))
    (cases_lt c level.passes))
    ∙ sum_map (λ c. entries_with key (calls_by c history)) passes

none_from : (key : List ℕ) (k : ℕ) (ps : List PassSide) → AllByRecursion (λ (p : PassSide). length p.tracks ≤ k) ps → sum_by (calls_from key k) ps ≡ 0
none_from key k [] all = refl
none_from key k (p ∷ ps) all =
    let past : calls_from key k p ≡ 0 = ap (λ l. sum_by (λ (t : Track). entries_with key t.mine) l) (drop_all p.tracks k all.0) in
    let rest : sum_by (calls_from key k) ps ≡ 0 = none_from key k ps all.1 in let a = sum_by-cons (calls_from key k) p ps in omega arith
  where
    drop_all : (xs : List Track) (k : ℕ) → length xs ≤ k → drop k xs ≡ []
    drop_all [] zero le = refl
    drop_all [] (suc k) le = refl
    drop_all (x ∷ xs) zero le = absurd (omega arith)
    drop_all (x ∷ xs) (suc k) le = drop_all xs k (omega arith)

entries_from : (key : List ℕ) (level : LevelSide) (passes : List PassSide) (k : ℕ) (hs : List (List Entry)) → AreItsPasses level passes
    → ((s : ℕ) (h : List Entry) → slice_get hs s ≡ Some h → IsClosedBy level passes (k + s) h)
    → AllByRecursion (λ (p : PassSide). length p.tracks ≤ k + length hs) passes → sum_by (entries_with key) hs ≡ sum_by (calls_from key k) passes
entries_from key level passes k [] its closed wide = sym
    (none_from key k passes (all_weaker (λ (p : PassSide). length p.tracks ≤ k + 0) (λ (p : PassSide). length p.tracks ≤ k) passes
    (λ p le. omega arith) wide))
entries_from key level passes k (h ∷ hs) its closed wide =
    let first : IsClosedBy level passes k h = subst (λ (n : ℕ). IsClosedBy level passes n h) (omega arith) (closed 0 h refl) in
    let rest : sum_by (entries_with key) hs ≡ sum_by (calls_from key (suc k)) passes =
    entries_from key level passes (suc k) hs its (λ s g e. subst (λ (n : ℕ). IsClosedBy level passes n g) (omega arith) (closed (suc s) g e))
    (all_weaker (λ (p : PassSide). length p.tracks ≤ k + suc (length hs)) (λ (p : PassSide). length p.tracks ≤ suc k + length hs) passes
    (λ p le. omega arith) wide) in
    let here = one_history key level passes h its first.others in
    let step = one_stripe key k h passes first.calls in
    let a = sum_by-cons (entries_with key) h hs in omega arith

pub entries_are_calls : (level : LevelSide) (passes : List PassSide) (bs : List BookSide) (stripes : List ClosedStripe) → AreItsPasses level passes
    → HaveLeft passes level.level.tables bs
    → map (λ (k : ClosedStripe). k.ended) stripes ≡ bs → AllByRecursion (IsSettled level.passes) stripes → (key : List ℕ)
    → entries_in (histories_of stripes) key ≡ sum_by (calls_with key) passes
entries_are_calls level passes bs stripes its hl e all key =
    let n : ℕ = length level.level.tables in
    let width : length (histories_of stripes) ≡ n = length-map stripes (λ (c : ClosedStripe). c.ended.history) ∙ closed_width level passes bs stripes hl e in
    entries_from key level passes 0 (histories_of stripes) its
    (λ s h g. subst (λ (n : ℕ). IsClosedBy level passes n h) (omega arith) (histories_closed level passes bs stripes its hl e all s h g))
    (all_weaker (IsWhole n) (λ (p : PassSide). length p.tracks ≤ 0 + length (histories_of stripes)) passes
    (λ p w. let wide : length p.tracks ≡ n = w.wide in omega arith) hl.whole)
