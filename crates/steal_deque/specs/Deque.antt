-- The rule of one deque: what was pushed is what was taken and what is queued, each as often.
use Rattle.std.specs.Prelude.{◌≡◌, ℕ, ◌+◌, ◌-◌, ◌<◌, ◌≤◌, Bool, true, false, ◌==◌, ◌||◌, cond, ◌%◌, zero, suc, List, [], ◌∷◌, ◌++◌}
use mathlib.Core.Option.{some}
use lib.ListN.{get_elem?}
use Rattle.steal_deque.specs.declared.deque.Knowledge.{Knowledge}
use Rattle.steal_deque.specs.declared.deque.Task.{Task}
use Rattle.steal_deque.specs.declared.deque.Task.TheVariants.{Number, End}

abbrev pub knowledge : ℕ → List ℕ → List ℕ → Bool → Bool → Knowledge
knowledge parts pushed taken closed ended = record { parts = parts; pushed = pushed; taken = taken; closed = closed; ended = ended }

abbrev pub one : Bool → ℕ
one true = 1
one false = 0

-- how often x stands in the list
abbrev pub times : ℕ → List ℕ → ℕ
times x [] = 0
times x (y ∷ ys) = one (x == y) + times x ys

-- f of each view, added up
abbrev pub total : (Knowledge → ℕ) → List Knowledge → ℕ
total f [] = 0
total f (v ∷ vs) = f v + total f vs

-- the numbers that are queued
abbrev pub numbers : List Task → List ℕ
numbers [] = []
numbers (Number n ∷ ts) = n ∷ numbers ts
numbers (End ∷ ts) = numbers ts

-- behind an end mark stands no number
abbrev pub EndsLast : List Task → Type 0
EndsLast [] = Unit {0}
EndsLast (Number n ∷ ts) = EndsLast ts
EndsLast (End ∷ ts) = (numbers ts ≡ []) × EndsLast ts

abbrev pub NoEnd : List Task → Type 0
NoEnd [] = Unit {0}
NoEnd (Number n ∷ ts) = NoEnd ts
NoEnd (End ∷ ts) = ⊥

-- what one pass knows: one with no part knows nothing
pub record Knows (pushed : List ℕ) (items : List Task) (v : Knowledge) : Type 0 where
  pub all : 0 < v.parts → v.pushed ≡ pushed
  pub «open» : 0 < v.parts → v.closed ≡ false → NoEnd items
  pub ended : 0 < v.parts → v.ended ≡ true → numbers items ≡ []
  pub idle : v.parts ≡ 0 → v.taken ≡ []

pub record RuleHolds (items : List Task) (views : List Knowledge) : Type 0 where
  pub pushed : List ℕ
  pub ends_last : EndsLast items
  pub parts : total (λ v. v.parts) views ≡ 64
  pub each : (x : ℕ) → times x pushed ≡ total (λ v. times x v.taken) views + times x (numbers items)
  pub known : (port : ℕ) (v : Knowledge) → get_elem? views port ≡ some v → Knows pushed items v

-- a number was taken that was pushed, more often than this pass had taken it; or an end mark, so no number was left
abbrev pub GotTask : Knowledge → Task → Knowledge → Type 0
GotTask v (Number n) w = (w ≡ knowledge v.parts v.pushed (v.taken ++ n ∷ []) v.closed v.ended) × (times n v.taken < times n v.pushed)
GotTask v End w = w ≡ knowledge v.parts v.pushed v.taken v.closed true

abbrev pub Got : Knowledge → List Task → Knowledge → Type 0
Got v [] w = ⊥
Got v (x ∷ xs) w = GotTask v x w

-- who puts a task has every part, and puts no number behind an end mark
abbrev pub CanPut : Knowledge → Task → Type 0
CanPut v (Number n) = (v.parts ≡ 64) × (v.closed ≡ false) × (v.ended ≡ false)
CanPut v End = v.parts ≡ 64

abbrev pub PutTask : Knowledge → Task → Knowledge → Type 0
PutTask v (Number n) w = w ≡ knowledge v.parts (v.pushed ++ n ∷ []) v.taken v.closed v.ended
PutTask v End w = w ≡ knowledge v.parts v.pushed v.taken true v.ended

abbrev pub Put : Knowledge → List Task → Knowledge → Type 0
Put v [] w = ⊥
Put v (x ∷ xs) w = PutTask v x w

abbrev pub kept : Knowledge → Knowledge
kept v = knowledge (v.parts - 1) v.pushed v.taken v.closed v.ended

abbrev pub given : Knowledge → Knowledge
given v = knowledge 1 v.pushed [] v.closed false

abbrev pub both : Knowledge → Knowledge → Knowledge
both v w = knowledge (v.parts + w.parts) v.pushed (v.taken ++ w.taken) v.closed (v.ended || w.ended)

abbrev pub spent : Knowledge
spent = knowledge 0 [] [] false false

-- who knows the whole: no number was taken more often than pushed, and where the end was met, each as often
pub record Settled (v : Knowledge) : Type 0 where
  pub proper : (x : ℕ) → times x v.taken ≤ times x v.pushed
  pub whole : v.ended ≡ true → (x : ℕ) → times x v.taken ≡ times x v.pushed

-- what an owner learns of its deque: no pass has more than all parts, and who has all of them knows the whole
pub record Learned (v : Knowledge) : Type 0 where
  pub few : v.parts ≤ 64
  pub settled : v.parts ≡ 64 → Settled v

-- the numbers of a deque: those below n whose rest by the number of deques is the deque's number
abbrev pub share : ℕ → ℕ → ℕ → List ℕ
share deques number zero = []
share deques number (suc p) = cond (p % deques == number) (share deques number p ++ p ∷ []) (share deques number p)

-- a deque before it is handed out
pub record IsFilled (flavor : ℕ) (v : Knowledge) (pushed : List ℕ) : Type 0 where
  pub fifo : flavor ≡ 0
  pub parts : v.parts ≡ 64
  pub all : v.pushed ≡ pushed
  pub none : v.taken ≡ []
  pub fresh : v.ended ≡ false
