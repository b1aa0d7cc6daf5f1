-- From what was taken to what the source has left, and from the words to the size that they ask for.
use Rattle.std.proofs.Common.{◌≡◌, ◌∙◌, ◌⊎◌, inl, inr, ℕ, ◌<◌, ◌≤◌, get_or, List, [], ◌∷◌, ◌++◌, length, Option, Some, sym, ap, subst, arith, length-append}
use Rattle.std.proofs.lemmas.List.{append-nil}
use Rattle.std.proofs.lemmas.Fmt.{decimal_injective}
use Rattle.std.specs.Prelude.{decimal, String, string_bytes}
use Rattle.std.specs.declared.alloc.Global.{Global}
use Rattle.formats.specs.Request.{Request}
use Rattle.formats.specs.Words.{IsLeft}
use Rattle.formats.specs.Run.{Gains}
use Rattle.resume_formats.specs.declared.fault.LevelFault.{LevelFault}
use Rattle.resume_formats.specs.declared.fault.LevelFault.TheVariants.{TooLong, Head, Differs, NoLevel, Less}
use Rattle.resume_formats.specs.Cut.{most_listing}
use Rattle.resume_formats.specs.Fault.{HasFaultFor}
use Rattle.resume_formats.specs.Resumed.{AskForSize, CanResume, ResumesTo, Resumes, LeavesFault, AskWithFault}
use Rattle.macek_run.specs.Run.{texts_of}
use Rattle.macek_run.proofs.Runs.{Text}

module _ (size : ℕ) (left : Option (List ℕ)) (bytes : List ℕ) (taken : Text left 16777217 bytes) where
  -- a listing that isn't too long was taken whole
  same : length bytes ≤ most_listing → taken.text ≡ bytes
  same short = taken.split ∙ ap (λ (l : List ℕ). bytes ++ l) (taken.whole (omega arith)) ∙ append-nil bytes

  -- what is wrong with what was taken is wrong with all of it
  pub fault_taken : (why : LevelFault) → HasFaultFor size bytes why → HasFaultFor size taken.text why
  fault_taken TooLong fault = omega (arith, fault, ap length taken.split, length-append bytes taken.rest)
  fault_taken Head fault = subst (λ (t : List ℕ). HasFaultFor size t Head) (sym (same fault.0)) fault
  fault_taken (Differs line) fault = subst (λ (t : List ℕ). HasFaultFor size t (Differs line)) (sym (same fault.0)) fault
  fault_taken NoLevel fault = subst (λ (t : List ℕ). HasFaultFor size t NoLevel) (sym (same fault.0)) fault
  fault_taken (Less n) fault = subst (λ (t : List ℕ). HasFaultFor size t (Less n)) (sym (same fault.1.short)) fault

  pub leaves_fault : (why : LevelFault) → HasFaultFor size bytes why → LeavesFault size left why
  leaves_fault why fault = record { text = taken.text; is_left = taken.is_left; faulty = fault_taken why fault }

  pub resumed_taken : (q : Request) → CanResume size bytes q → CanResume size taken.text q
  resumed_taken q can = subst (λ (t : List ℕ). CanResume size t q) (sym (same can.can_start.short)) can

  pub resumes_taken : (before after : Option (List ℕ)) (Part : Request → List ℕ → Type 0) (q : Request) → CanResume size bytes q
      → Gains before after (Part q) → ResumesTo size left before after Part
  resumes_taken before after Part q can gains = record {
    text = taken.text;
    is_left = taken.is_left;
    request = q;
    can_resume = resumed_taken q can;
    gains = gains;
  }

  -- where the text is told, it is the one
  pub told_text : (text : List ℕ) → left ≡ Some text → taken.text ≡ text
  told_text text is = let h : IsLeft (Some text) taken.text = subst (λ (l : Option (List ℕ)). IsLeft l taken.text) is taken.is_left in h

-- ---- the words

-- they ask for one size
pub one_size : (words : List (List ℕ)) (m n : ℕ) → AskForSize words m → AskForSize words n → m ≡ n
one_size words m n a b =
    let words_same : decimal m ∷ [] ≡ decimal n ∷ [] = sym a.word ∙ b.word in
    let texts : decimal m ≡ decimal n = cc (words_same) in
    let small = a.at_most in
    let few = b.at_most in
    decimal_injective m n (omega arith) (omega arith) texts

one_word : (words : List (String Global)) (word : String Global) → length words ≡ 1 → word ≡ get_or words 0 word → texts_of words ≡ string_bytes word ∷ []
one_word [] word one is = absurd (omega arith)
one_word (w ∷ []) word one is = ap (λ (v : String Global). string_bytes v ∷ []) (sym is)
one_word (w ∷ v ∷ words) word one is = absurd (omega arith)

-- one word that spells a number
pub spelled : (words : List (String Global)) (word : String Global) (bytes : List ℕ) (n : ℕ) → length words ≡ 1 → word ≡ get_or words 0 word
    → bytes ≡ string_bytes word → bytes ≡ decimal n → texts_of words ≡ decimal n ∷ []
spelled words word bytes n one is same spells = one_word words word one is ∙ ap (λ (w : List ℕ). w ∷ []) (sym same ∙ spells)

-- which isn't from 1 to 16
pub not_asked : (words : List (List ℕ)) (n size : ℕ) → words ≡ decimal n ∷ [] → n < 1000000000 → (n < 1) ⊎ ((1 ≤ n) × (16 < n))
    → ¬ (AskForSize words size)
not_asked words n size is small out asked =
    let words_same : decimal n ∷ [] ≡ decimal size ∷ [] = sym is ∙ asked.word in
    let texts : decimal n ≡ decimal size = cc (words_same) in
    let low = asked.at_least in
    let high = asked.at_most in
    let same_size : n ≡ size = decimal_injective n size (omega arith) (omega arith) texts in
    elim out [ inl below ↦ omega arith | inr above ↦ omega arith ]

module _ (words : List (List ℕ)) (size : ℕ) (asked : AskForSize words size) (left : Option (List ℕ)) where
  pub asked_resumes : (before after : Option (List ℕ)) (Part : Request → List ℕ → Type 0) → ResumesTo size left before after Part
      → Resumes words left before after Part
  asked_resumes before after Part resumed = record { size = size; asked = asked; resumed = resumed }

  pub asked_fault : (why : LevelFault) → LeavesFault size left why → AskWithFault words left why
  asked_fault why leaves = record { size = size; asked = asked; leaves = leaves }
