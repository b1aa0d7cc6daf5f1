-- The histories of a few calls.
use Rattle.std.proofs.Common.{◌≡◌, ◌≢◌, ◌∙◌, ℕ, zero, suc, ◌<◌, List, [], ◌∷◌, ◌++◌, length, refl, ap, sym, subst, arith, Contains}
use Rattle.atomic_table.specs.Seated.{TableId}
use Rattle.histories.specs.declared.entry.Entry.{Entry}
use Rattle.histories.specs.declared.entry.Reply.{Reply}
use Rattle.histories.specs.declared.entry.Reply.TheVariants.{New, Again}
use Rattle.histories.specs.SetObject.{keys_after, reply_to}
use Rattle.histories.specs.History.{entry}
use Rattle.histories.specs.Counts.{keys_of}
use Rattle.histories.proofs.Once.{told_again, told_new}
use Rattle.stripe_book.specs.declared.view.Phase.TheVariants.{Idle}
use Rattle.stripe_book.specs.declared.view.Trace.{Trace}
use Rattle.stripe_book.specs.Seen.{BookSide, CallerSide, EachLeft, fresh_callers}

abbrev pub fresh : TableId → ℕ → CallerSide
fresh t n = record { table = t; number = n; phase = Idle; seen = []; mine = [] }

-- the callers of a new stripe, taken out from the last on
pub only_caller : (t : TableId) (rest : List CallerSide) (first : CallerSide) → fresh_callers t 1 ≡ rest ++ first ∷ [] → fresh t 0 ≡ first
only_caller t [] first e = cc e
only_caller t (y ∷ []) first e = absurd (cc e)
only_caller t (y ∷ z ∷ ys) first e = absurd (cc e)

pub both_callers : (t : TableId) (more rest : List CallerSide) (first second : CallerSide) → fresh_callers t 2 ≡ more ++ second ∷ [] → more ≡ rest ++ first ∷ []
    → (fresh t 0 ≡ first) × (fresh t 1 ≡ second)
both_callers t more rest first second e f = both_by t rest first second (e ∙ ap (λ l. l ++ second ∷ []) f)
  where
    both_by : (t : TableId) (rest : List CallerSide) (first second : CallerSide) → fresh_callers t 2 ≡ (rest ++ first ∷ []) ++ second ∷ []
        → (fresh t 0 ≡ first) × (fresh t 1 ≡ second)
    both_by t [] first second e = (cc e, cc e)
    both_by t (y ∷ []) first second e = absurd (cc e)
    both_by t (y ∷ z ∷ []) first second e = absurd (cc e)
    both_by t (y ∷ z ∷ w ∷ ys) first second e = absurd (cc e)

two_left_at : (left rest : List Trace) (t u : Trace) → left ≡ u ∷ t ∷ rest → t.number ≡ 0 → u.number ≡ 1 → (k : ℕ) → k < 2
    → (v : Trace) × Contains left v × (v.number ≡ k)
two_left_at left rest t u e first second zero lt = (t, subst (λ l. Contains l t) (sym e) (1, omega arith, refl), first)
two_left_at left rest t u e first second (suc zero) lt = (u, subst (λ l. Contains l u) (sym e) (0, omega arith, refl), second)
two_left_at left rest t u e first second (suc (suc k)) lt = absurd (omega arith)

pub two_left : (callers : ℕ) (left rest : List Trace) (t u : Trace) → callers ≡ 2 → left ≡ u ∷ t ∷ rest → t.number ≡ 0 → u.number ≡ 1 → EachLeft callers left
two_left callers left rest t u two e first second k lt = two_left_at left rest t u e first second k (subst (λ (n : ℕ). k < n) two lt)

-- two callers leave a book, one after the other
pub two_left_by : (callers : ℕ) (b0 b1 b2 : BookSide) (t u : Trace) → callers ≡ 2 → b1 ≡ record b0 { left = t ∷ b0.left }
    → b2 ≡ record b1 { left = u ∷ b1.left }
    → t.number ≡ 0 → u.number ≡ 1 → EachLeft callers b2.left
two_left_by callers b0 b1 b2 t u two e1 e2 first second =
    two_left callers b2.left b0.left t u two (ap (λ (b : BookSide). b.left) e2 ∙ ap (λ l. u ∷ l) (ap (λ (b : BookSide). b.left) e1)) first second

-- ---- the histories of three calls
module _ (key other : List ℕ) where
  abbrev pub one_entry : List Entry
  one_entry = entry 0 0 key New ∷ []

  abbrev pub two_entries : List Entry
  two_entries = entry 0 0 key New ∷ entry 1 0 key Again ∷ []

  abbrev pub three_entries : List Entry
  three_entries = entry 0 0 key New ∷ entry 1 0 key Again ∷ entry 0 1 other New ∷ []

  pub entered : (history before mine : List Entry) (number n : ℕ) (k : List ℕ) (r : Reply) (start : List Entry)
      → history ≡ before ++ entry number (length mine) k r ∷ [] → before ≡ start → number ≡ n
      → (calls : List Entry) → mine ≡ calls → history ≡ start ++ entry n (length calls) k r ∷ []
  entered history before mine number n k r start e same named calls own = e ∙ (λ i. same i ++ entry (named i) (length (own i)) k r ∷ [])

  pub first_told : (history : List Entry) → history ≡ [] → New ≡ reply_to (keys_after history) key
  first_told history e = ap (λ h. reply_to (keys_after h) key) (sym e)

  pub second_told : (history : List Entry) → history ≡ one_entry → Again ≡ reply_to (keys_after history) key
  second_told history e = sym ((told_again history key).1 (subst (λ h. Contains (keys_of h) key) (sym e) (0, omega arith, refl)))

  missing : key ≢ other → Contains (key ∷ key ∷ []) other → ⊥
  missing ne (zero, below, is) = ne is
  missing ne (suc zero, below, is) = ne is
  missing ne (suc (suc j), below, is) = absurd (omega arith)

  pub third_told : key ≢ other → (history : List Entry) → history ≡ two_entries → New ≡ reply_to (keys_after history) other
  third_told ne history e = sym ((told_new history other).1 (subst (λ h. ¬ (Contains (keys_of h) other)) (sym e) (missing ne)))
