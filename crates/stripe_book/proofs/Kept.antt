-- A step of a caller, and a step of the book, keep the rule.
use Rattle.std.proofs.Common.{◌≡◌, ◌≢◌, ℕ, zero, suc, ◌+◌, ◌<◌, List, [], ◌∷◌, ◌++◌, length, cond, eqb, refl, ap, sym, ◌∙◌, subst, ⊎_elim, eq-eqb, ne_eqb, slice_index, set}
use mathlib.Core.Logic.{dite}
use mathlib.Core.List.{IsPrefix}
use mathlib.Core.Option.{some, some-injective, some-ne-none}
use native.Mathlib.Decide.{ℕ_discrete}
use lib.ListN.{get_elem?}
use Rattle.atomic_table.proofs.Lists.{at_set, set_else, at_longer, at_snoc}
use Rattle.histories.specs.declared.entry.Entry.{Entry}
use Rattle.stripe_book.specs.declared.view.Phase.{Phase}
use Rattle.stripe_book.specs.declared.view.Phase.TheVariants.{Idle}
use Rattle.stripe_book.specs.declared.view.Trace.{Trace}
use Rattle.stripe_book.specs.declared.view.Note.{Note}
use Rattle.stripe_book.specs.declared.view.Note.TheVariants.{OfBook, OfCaller}
use Rattle.stripe_book.specs.declared.view.Ledger.{Ledger}
use Rattle.stripe_book.specs.declared.view.Hand.{Hand}
use Rattle.stripe_book.specs.declared.view.View.{View}
use Rattle.stripe_book.specs.declared.view.View.TheVariants.{Keeps, Calls, Tells, Spent}
use Rattle.histories.specs.History.{calls_by, RepliesFrom, IsNumbered}
use Rattle.stripe_book.specs.Rule.{word_of, Place, unmade, seated, gone, Account, Lags, NoteFits, NotesFit, LeftFit, BookFits, HandFits, Fits, SitsAt, HasLeft, IsKept, hand, ledger}
use Rattle.stripe_book.specs.Steps.{note_of, add_note}
use Rattle.histories.proofs.Beginnings.{prefix_self, prefix_trans}

-- f with x at c
abbrev pub with_at : {A : Type 0} → (ℕ → A) → ℕ → A → ℕ → A
with_at f c x k = cond (eqb k c) x (f k)

pub at_same : {A : Type 0} (f : ℕ → A) (c : ℕ) (x : A) → with_at f c x c ≡ x
at_same f c x = ap (λ b. cond b x (f c)) (eq-eqb c c refl)

pub at_other : {A : Type 0} (f : ℕ → A) (c : ℕ) (x : A) (k : ℕ) → k ≢ c → with_at f c x k ≡ f k
at_other f c x k ne = ap (λ b. cond b x (f k)) (ne_eqb k c ne)

abbrev seat_number : Place → ℕ
seat_number unmade = 0
seat_number (seated n) = n
seat_number gone = 0

pub one_seat : (m n : ℕ) → seated m ≡ seated n → m ≡ n
one_seat m n e = ap seat_number e

pub not_gone : (p : Place) (n : ℕ) → p ≡ seated n → p ≡ gone → ⊥
not_gone p n e f = cc (e, f)

pub not_unmade : (p : Place) (n : ℕ) → p ≡ seated n → p ≡ unmade → ⊥
not_unmade p n e f = cc (e, f)

pub gone_made : (p : Place) → p ≡ gone → p ≡ unmade → ⊥
gone_made p e f = cc (e, f)

-- two views at one seat are one
pub one_view : (views : List View) (seat : ℕ) (v w : View) → get_elem? views seat ≡ some v → get_elem? views seat ≡ some w → v ≡ w
one_view views seat v w e f = some-injective v w (sym e ∙ f)

pub one_hand : (views : List View) (seat : ℕ) (h u : Hand) → get_elem? views seat ≡ some (Calls h) → get_elem? views seat ≡ some (Calls u) → h ≡ u
one_hand views seat h u e f = let same = one_view views seat (Calls h) (Calls u) e f in cc same

pub one_book : (views : List View) (seat : ℕ) (b c : Ledger) → get_elem? views seat ≡ some (Keeps b) → get_elem? views seat ≡ some (Keeps c) → b ≡ c
one_book views seat b c e f = let same = one_view views seat (Keeps b) (Keeps c) e f in cc same

-- a seat is the book's or a caller's, and not both
pub not_both : (views : List View) (seat : ℕ) (h : Hand) (b : Ledger) → get_elem? views seat ≡ some (Calls h) → get_elem? views seat ≡ some (Keeps b) → ⊥
not_both views seat h b e f = let same : Calls h ≡ Keeps b = one_view views seat (Calls h) (Keeps b) e f in cc same

-- what was known of an account is so of a later one
pub record Later (a a' : Account) : Type 0 where
  pub history : IsPrefix a.history a'.history
  pub mine : (c : ℕ) → IsPrefix (a.mine c) (a'.mine c)

module _ (a a' : Account) (l : Later a a') where
  pub note_later : (n : Note) → NoteFits a n → NoteFits a' n
  note_later (OfBook h) f = prefix_trans h a.history a'.history f l.history
  note_later (OfCaller t) f = (
    prefix_trans t.seen a.history a'.history f.0 l.history,
    prefix_trans t.mine (a.mine t.number) (a'.mine t.number) f.1 (l.mine t.number),
  )

  pub notes_later : (ns : List Note) → NotesFit a ns → NotesFit a' ns
  notes_later [] f = tt
  notes_later (n ∷ ns) f = (note_later n f.0, notes_later ns f.1)

  pub left_later : (ts : List Trace) → ((c : ℕ) → a.place c ≡ gone → (a'.place c ≡ gone) × (a'.mine c ≡ a.mine c)) → LeftFit a ts → LeftFit a' ts
  left_later [] same f = tt
  left_later (t ∷ ts) same f = let s = same t.number f.0.0 in
      ((s.0, f.0.1 ∙ sym s.1, prefix_trans t.seen a.history a'.history f.0.2 l.history, f.0.3), left_later ts same f.1)

-- a view that any account with these facts allows at any seat
abbrev pub Loose : Account → View → Type 0
Loose a (Keeps b) = ⊥
Loose a (Calls h) = ⊥
Loose a (Tells n) = NoteFits a n
Loose a Spent = Unit {0}

pub set_at : (views : List View) (id : ℕ) (v w : View) → get_elem? views id ≡ some v → get_elem? (set views id w) id ≡ some w
set_at [] id v w e = absurd (some-ne-none v (sym e))
set_at (x ∷ xs) zero v w e = refl
set_at (x ∷ xs) (suc i) v w e = set_at xs i v w e

-- the account after a step of the caller c
abbrev pub called : Account → ℕ → Phase → List Entry → Account
called a c p mine = record { book = a.book; history = a.history; made = a.made; place = a.place; mine = with_at a.mine c mine; phase = with_at a.phase c p }

-- what a caller's step from h to h' has to show
pub record CallerMoves (callers : ℕ) (words words' : List ℕ) (a : Account) (h h' : Hand) : Type 0 where
  pub same : h'.trace.number ≡ h.trace.number
  pub grows : IsPrefix h.trace.mine h'.trace.mine
  pub numbers : IsNumbered h.trace.number 0 h'.trace.mine
  pub lags : Lags h'.phase (calls_by h.trace.number a.history) h'.trace.mine
  pub seen : IsPrefix h'.trace.seen a.history
  pub known : Lags h'.phase (calls_by h.trace.number h'.trace.seen) h'.trace.mine
  pub notes : NotesFit a h'.notes
  pub width : length words' ≡ length words
  pub word : slice_index words' (h.trace.number + 1) ≡ word_of h'.phase
  pub others : (c : ℕ) → c < callers → c ≢ h.trace.number → slice_index words' (c + 1) ≡ slice_index words (c + 1)

module _ (callers : ℕ) (words words' : List ℕ) (views : List View) (a : Account) (k : IsKept callers words views a) (id : ℕ) (h h' : Hand)
    (at : get_elem? views id ≡ some (Calls h))
    (mv : CallerMoves callers words words' a h h') where
  own : HandFits a id h
  own = k.fits id (Calls h) at

  case : (P : ℕ → Type 0) → P h.trace.number → ((c : ℕ) → c ≢ h.trace.number → P c) → (c : ℕ) → P c
  case P here other c = dite (ℕ_discrete c h.trace.number) (λ e. subst P (sym e) here) (λ ne. other c ne)

  later : Later a (called a h.trace.number h'.phase h'.trace.mine)
  later = record {
    history = prefix_self a.history;
    mine = case (λ c. IsPrefix (a.mine c) (with_at a.mine h.trace.number h'.trace.mine c))
        (subst (λ m. IsPrefix (a.mine h.trace.number) m) (sym (at_same a.mine h.trace.number h'.trace.mine))
        (subst (λ m. IsPrefix m h'.trace.mine) own.mine mv.grows))
        (λ c ne. subst (λ m. IsPrefix (a.mine c) m) (sym (at_other a.mine h.trace.number h'.trace.mine c ne)) (prefix_self (a.mine c)));
  }

  apart : (seat : ℕ) (c : ℕ) → seat ≢ id → a.place c ≡ seated seat → c ≢ h.trace.number
  apart seat c ne e same = ne (one_seat seat id (sym e ∙ (ap a.place same ∙ own.here)))

  other_fits : (seat : ℕ) (u : View) → seat ≢ id → Fits a seat u → Fits (called a h.trace.number h'.phase h'.trace.mine) seat u
  other_fits seat (Keeps b) ne f = record {
    here = f.here;
    history = f.history;
    made = f.made;
    notes = notes_later a (called a h.trace.number h'.phase h'.trace.mine) later b.notes f.notes;
    left = left_later a (called a h.trace.number h'.phase h'.trace.mine) later b.left
        (λ c g. (g, at_other a.mine h.trace.number h'.trace.mine c (λ e. not_gone (a.place c) id (ap a.place e ∙ own.here) g))) f.left;
  }
  other_fits seat (Calls u) ne f = let far = apart seat u.trace.number ne f.here in record {
    here = f.here;
    phase = f.phase ∙ sym (at_other a.phase h.trace.number h'.phase u.trace.number far);
    mine = f.mine ∙ sym (at_other a.mine h.trace.number h'.trace.mine u.trace.number far);
    seen = f.seen;
    known = f.known;
    notes = notes_later a (called a h.trace.number h'.phase h'.trace.mine) later u.notes f.notes;
  }
  other_fits seat (Tells n) ne f = note_later a (called a h.trace.number h'.phase h'.trace.mine) later n f
  other_fits seat Spent ne f = tt

  own_fits : HandFits (called a h.trace.number h'.phase h'.trace.mine) id h'
  own_fits = record {
    here = ap a.place mv.same ∙ own.here;
    phase = sym (at_same a.phase h.trace.number h'.phase) ∙ sym (ap (with_at a.phase h.trace.number h'.phase) mv.same);
    mine = sym (at_same a.mine h.trace.number h'.trace.mine) ∙ sym (ap (with_at a.mine h.trace.number h'.trace.mine) mv.same);
    seen = mv.seen;
    known = subst (λ c. Lags h'.phase (calls_by c h'.trace.seen) h'.trace.mine) (sym mv.same) mv.known;
    notes = notes_later a (called a h.trace.number h'.phase h'.trace.mine) later h'.notes mv.notes;
  }

  book_apart : a.book ≢ id
  book_apart e = let b = k.keeper in absurd (cc (b.1, ap (get_elem? views) e, at))

  new_book : get_elem? (set views id (Calls h')) a.book ≡ some (Keeps k.keeper.0)
  new_book = set_else views id a.book (Calls h') book_apart ∙ k.keeper.1

  seat_apart : (c seat : ℕ) → c ≢ h.trace.number → (u : Hand) → get_elem? views seat ≡ some (Calls u) → u.trace.number ≡ c → seat ≢ id
  seat_apart c seat ne u there named same = ne
      (sym named ∙ ap (λ (x : Hand). x.trace.number) (one_hand views id u h (ap (get_elem? views) (sym same) ∙ there) at))

  still_sits : (c : ℕ) → (seat : ℕ) → a.place c ≡ seated seat → SitsAt (set views id (Calls h')) c seat
  still_sits = case (λ c. (seat : ℕ) → a.place c ≡ seated seat → SitsAt (set views id (Calls h')) c seat)
      (λ seat e. (h', ap (get_elem? (set views id (Calls h'))) (one_seat seat id (sym e ∙ own.here)) ∙ set_at views id (Calls h) (Calls h') at, mv.same))
      (λ c ne seat e. let s = k.sits c seat e in (s.0, set_else views id seat (Calls h') (seat_apart c seat ne s.0 s.1 s.2) ∙ s.1, s.2))

  pub caller_moves : IsKept callers words' (set views id (Calls h')) (called a h.trace.number h'.phase h'.trace.mine)
  caller_moves = let a2 = called a h.trace.number h'.phase h'.trace.mine in record {
    keeper = (k.keeper.0, new_book);
    replies = k.replies;
    made = k.made;
    sits = still_sits;
    left = λ c b at_book e. subst (λ (x : Ledger). HasLeft c x.left) (one_book (set views id (Calls h')) a.book k.keeper.0 b new_book at_book)
        (k.left c k.keeper.0 k.keeper.1 e);
    room = k.room;
    unmade = λ c le. (
      (k.unmade c le).0,
      at_other a.mine h.trace.number h'.trace.mine c
          (λ e. not_unmade (a.place c) id (ap a.place e ∙ own.here) (k.unmade c le).0) ∙ (k.unmade c le).1,
    );
    width = mv.width ∙ k.width;
    word = case (λ c. c < callers → slice_index words' (c + 1) ≡ word_of (with_at a.phase h.trace.number h'.phase c))
        (λ lt. mv.word ∙ ap word_of (sym (at_same a.phase h.trace.number h'.phase)))
        (λ c ne lt. mv.others c lt ne ∙ (k.word c lt ∙ ap word_of (sym (at_other a.phase h.trace.number h'.phase c ne))));
    idle = case (λ c. ((seat : ℕ) → a.place c ≢ seated seat) → with_at a.phase h.trace.number h'.phase c ≡ Idle)
        (λ none. absurd (none id own.here))
        (λ c ne none. at_other a.phase h.trace.number h'.phase c ne ∙ k.idle c none);
    numbers = case (λ c. IsNumbered c 0 (with_at a.mine h.trace.number h'.trace.mine c))
        (subst (IsNumbered h.trace.number 0) (sym (at_same a.mine h.trace.number h'.trace.mine)) mv.numbers)
        (λ c ne. subst (IsNumbered c 0) (sym (at_other a.mine h.trace.number h'.trace.mine c ne)) (k.numbers c));
    known = case (λ c. Lags (with_at a.phase h.trace.number h'.phase c) (calls_by c a.history) (with_at a.mine h.trace.number h'.trace.mine c))
        (subst (λ p. Lags p (calls_by h.trace.number a.history) (with_at a.mine h.trace.number h'.trace.mine h.trace.number))
        (sym (at_same a.phase h.trace.number h'.phase))
        (subst (Lags h'.phase (calls_by h.trace.number a.history)) (sym (at_same a.mine h.trace.number h'.trace.mine)) mv.lags))
        (λ c ne. subst (λ p. Lags p (calls_by c a.history) (with_at a.mine h.trace.number h'.trace.mine c))
        (sym (at_other a.phase h.trace.number h'.phase c ne))
        (subst (Lags (a.phase c) (calls_by c a.history)) (sym (at_other a.mine h.trace.number h'.trace.mine c ne)) (k.known c)));
    fits = λ seat u e. ⊎_elim
        (λ t. subst (λ s. Fits a2 s u) (sym t.0) (subst (Fits a2 id) t.1 own_fits))
        (λ t. other_fits seat u t.0 (k.fits seat u t.1))
        (at_set views id seat (Calls h') u e);
  }

-- a view that is not the book's still fits where the history has grown
book_other : (a a' : Account) → Later a a' → a'.place ≡ a.place → a'.mine ≡ a.mine → a'.phase ≡ a.phase → a'.book ≡ a.book → (seat : ℕ)
    → ((b : Ledger) → BookFits a seat b → ⊥) → (u : View) → Fits a seat u → Fits a' seat u
book_other a a' l pl mi ph bo seat never (Keeps b) f = absurd (never b f)
book_other a a' l pl mi ph bo seat never (Calls h) f = record {
  here = ap (λ g. g h.trace.number) pl ∙ f.here;
  phase = f.phase ∙ sym (ap (λ g. g h.trace.number) ph);
  mine = f.mine ∙ sym (ap (λ g. g h.trace.number) mi);
  seen = prefix_trans h.trace.seen a.history a'.history f.seen l.history;
  known = f.known;
  notes = notes_later a a' l h.notes f.notes;
}
book_other a a' l pl mi ph bo seat never (Tells n) f = note_later a a' l n f
book_other a a' l pl mi ph bo seat never Spent f = tt

-- a note, or a spent view, may come to the views
pub loose_fits : (a : Account) (seat : ℕ) (u : View) → Loose a u → Fits a seat u
loose_fits a seat (Keeps b) f = absurd f
loose_fits a seat (Calls h) f = absurd f
loose_fits a seat (Tells n) f = f
loose_fits a seat Spent f = tt

-- other views that the account allows: the book's and the callers' are where they were
pub record Stays (a : Account) (views views' : List View) : Type 0 where
  pub keeper : (b : Ledger) × (get_elem? views' a.book ≡ some (Keeps b))
  pub sits : (c seat : ℕ) → SitsAt views c seat → SitsAt views' c seat
  pub left : (b b' : Ledger) → get_elem? views a.book ≡ some (Keeps b) → get_elem? views' a.book ≡ some (Keeps b') → b'.left ≡ b.left
  pub fits : (seat : ℕ) (v : View) → get_elem? views' seat ≡ some v → Fits a seat v

pub with_views : (callers : ℕ) (words : List ℕ) (views views' : List View) (a : Account) → IsKept callers words views a → Stays a views views'
    → IsKept callers words views' a
with_views callers words views views' a k st = record {
  keeper = st.keeper;
  replies = k.replies;
  made = k.made;
  sits = λ c seat e. st.sits c seat (k.sits c seat e);
  left = λ c b at e. subst (HasLeft c) (sym (st.left k.keeper.0 b k.keeper.1 at)) (k.left c k.keeper.0 k.keeper.1 e);
  room = k.room;
  unmade = k.unmade;
  width = k.width;
  word = k.word;
  idle = k.idle;
  numbers = k.numbers;
  known = k.known;
  fits = st.fits;
}

module _ (callers : ℕ) (words : List ℕ) (views : List View) (a : Account) (k : IsKept callers words views a) where
  pub loose_more : (u : View) → Loose a u → IsKept callers words (views ++ u ∷ []) a
  loose_more u f = with_views callers words views (views ++ u ∷ []) a k record {
    keeper = (k.keeper.0, at_longer views (u ∷ []) a.book (Keeps k.keeper.0) k.keeper.1);
    sits = λ c seat s. (s.0, at_longer views (u ∷ []) seat (Calls s.0) s.1, s.2);
    left = λ b b' old new. ap (λ (x : Ledger). x.left) (one_book (views ++ u ∷ []) a.book b' b new (at_longer views (u ∷ []) a.book (Keeps b) old));
    fits = λ seat v e. ⊎_elim (λ old. k.fits seat v old) (λ new. subst (Fits a seat) new (loose_fits a seat u f)) (at_snoc views u v seat e);
  }

  -- what a seat says of itself is so
  pub says : (id : ℕ) (v : View) → get_elem? views id ≡ some v → NoteFits a (note_of v)
  says id (Keeps b) at = let f = k.fits id (Keeps b) at in subst (λ l. IsPrefix l a.history) (sym f.history) (prefix_self a.history)
  says id (Calls h) at = let f = k.fits id (Calls h) at in
      (f.seen, subst (λ l. IsPrefix l (a.mine h.trace.number)) (sym f.mine) (prefix_self (a.mine h.trace.number)))
  says id (Tells n) at = k.fits id (Tells n) at
  says id Spent at = (a.history, refl)

  add_fits : (id : ℕ) (v : View) (n : Note) → NoteFits a n → Fits a id v → Fits a id (add_note v n)
  add_fits id (Keeps b) n nf f = record { here = f.here; history = f.history; made = f.made; notes = (nf, f.notes); left = f.left }
  add_fits id (Calls h) n nf f = record { here = f.here; phase = f.phase; mine = f.mine; seen = f.seen; known = f.known; notes = (nf, f.notes) }
  add_fits id (Tells m) n nf f = f
  add_fits id Spent n nf f = f

  -- a seat that was told a note is still the book's, or the same caller's
  still_book : (b : Ledger) (v : View) (n : Note) → v ≡ Keeps b → (b' : Ledger) × (add_note v n ≡ Keeps b') × (b'.left ≡ b.left)
  still_book b v n e = subst (λ u. (b' : Ledger) × (add_note u n ≡ Keeps b') × (b'.left ≡ b.left)) (sym e)
      (ledger b.history b.made (n ∷ b.notes) b.left, refl, refl)

  still_hand : (h : Hand) (v : View) (n : Note) → v ≡ Calls h → (h' : Hand) × (add_note v n ≡ Calls h') × (h'.trace.number ≡ h.trace.number)
  still_hand h v n e = subst (λ u. (h' : Hand) × (add_note u n ≡ Calls h') × (h'.trace.number ≡ h.trace.number)) (sym e)
      (hand h.trace.number h.phase h.trace.seen h.trace.mine (n ∷ h.notes), refl, refl)

  note_apart : (other : ℕ) (n : Note) → get_elem? views other ≡ some (Tells n) → a.book ≢ other
  note_apart other n e same = let b = k.keeper in absurd (cc (b.1, ap (get_elem? views) same, e))

  -- a note is joined to a seat
  pub joins : (id other : ℕ) (v : View) (n : Note) → get_elem? views id ≡ some v → other ≢ id → get_elem? (set views id (add_note v n)) other ≡ some (Tells n)
      → IsKept callers words (set (set views id (add_note v n)) other Spent) a
  joins id other v n at apart there =
      let was : get_elem? views other ≡ some (Tells n) = sym (set_else views id other (add_note v n) apart) ∙ there in
      let nf : NoteFits a n = k.fits other (Tells n) was in
      let far = note_apart other n was in
      let views' : List View = set (set views id (add_note v n)) other Spent in
      let told_at : get_elem? views' id ≡ some (add_note v n) = set_else (set views id (add_note v n)) other id Spent (λ e. apart (sym e))
      ∙ set_at views id v (add_note v n) at in
      let else_at : (seat : ℕ) → seat ≢ id → seat ≢ other → get_elem? views' seat ≡ get_elem? views seat =
      λ seat ne ne2. set_else (set views id (add_note v n)) other seat Spent ne2 ∙ set_else views id seat (add_note v n) ne in
      let book : (b' : Ledger) × (get_elem? views' a.book ≡ some (Keeps b')) × (b'.left ≡ k.keeper.0.left) = dite (ℕ_discrete a.book id)
      (λ e. let b = still_book k.keeper.0 v n (one_view views id v (Keeps k.keeper.0) at (ap (get_elem? views) (sym e) ∙ k.keeper.1)) in
      (b.0, ap (get_elem? views') e ∙ (told_at ∙ ap some b.1), b.2))
      (λ ne. (k.keeper.0, else_at a.book ne far ∙ k.keeper.1, refl)) in
      with_views callers words views views' a k record {
        keeper = (book.0, book.1);
        sits = λ c seat s. dite (ℕ_discrete seat id)
            (λ e. let h = still_hand s.0 v n (one_view views id v (Calls s.0) at (ap (get_elem? views) (sym e) ∙ s.1)) in
            (h.0, ap (get_elem? views') e ∙ (told_at ∙ ap some h.1), h.2 ∙ s.2))
            (λ ne. (
              s.0,
              else_at seat ne (λ e. let same : Calls s.0 ≡ Tells n = one_view views other (Calls s.0) (Tells n)
                  (ap (get_elem? views) (sym e) ∙ s.1) was in absurd (cc same)) ∙ s.1,
              s.2,
            ));
        left = λ b b' old new. ap (λ (x : Ledger). x.left) (one_book views' a.book b' book.0 new book.1)
            ∙ (book.2 ∙ ap (λ (x : Ledger). x.left) (one_book views a.book k.keeper.0 b k.keeper.1 old));
        fits = λ seat u e. ⊎_elim
            (λ t. subst (Fits a seat) t.1 tt)
            (λ t. ⊎_elim (λ o. subst (λ x. Fits a x u) (sym o.0) (subst (Fits a id) o.1 (add_fits id v n nf (k.fits id v at)))) (λ o. k.fits seat u o.1)
            (at_set views id seat (add_note v n) u t.1))
            (at_set (set views id (add_note v n)) other seat Spent u e);
      }

  -- a step of the book, from b to b'
  pub book_moves : (id : ℕ) (b b' : Ledger) → get_elem? views id ≡ some (Keeps b) → IsPrefix a.history b'.history → RepliesFrom [] b'.history
      → ((c : ℕ) → Lags (a.phase c) (calls_by c b'.history) (a.mine c)) → b'.made ≡ b.made → b'.left ≡ b.left → NotesFit a b'.notes
      → IsKept callers words (set views id (Keeps b')) (record a { history = b'.history })
  book_moves id b b' at grows replies known made left notes =
      let a2 : Account = record a { history = b'.history } in
      let own = k.fits id (Keeps b) at in
      let later : Later a a2 = record { history = grows; mine = λ c. prefix_self (a.mine c) } in
      let new_at : get_elem? (set views id (Keeps b')) a.book ≡ some (Keeps b') = ap (get_elem? (set views id (Keeps b'))) (sym own.here)
      ∙ set_at views id (Keeps b) (Keeps b') at in
      record {
        keeper = (b', new_at);
        made = k.made;
        sits = λ c seat e. let s = k.sits c seat e in
            (s.0, set_else views id seat (Keeps b') (λ same. not_both views id s.0 b (ap (get_elem? views) (sym same) ∙ s.1) at) ∙ s.1, s.2);
        left = λ c b2 at2 e. subst (HasLeft c) (sym left ∙ ap (λ (x : Ledger). x.left) (one_book (set views id (Keeps b')) a.book b' b2 new_at at2))
            (k.left c b (ap (get_elem? views) (sym own.here) ∙ at) e);
        replies = replies;
        room = k.room;
        unmade = k.unmade;
        width = k.width;
        word = k.word;
        idle = k.idle;
        numbers = k.numbers;
        known = known;
        fits = λ seat u e. ⊎_elim
            (λ t. subst (λ x. Fits a2 x u) (sym t.0) (subst (Fits a2 id) t.1 record {
              here = own.here;
              history = refl;
              made = made ∙ own.made;
              notes = notes_later a a2 later b'.notes notes;
              left = subst (LeftFit a2) (sym left) (left_later a a2 later b.left (λ c g. (g, refl)) own.left);
            }))
            (λ t. book_other a a2 later refl refl refl refl seat (λ b2 f. t.0 (f.here ∙ sym own.here)) u (k.fits seat u t.1))
            (at_set views id seat (Keeps b') u e);
      }
