-- From the matches to what the words ask for.
use Rattle.std.proofs.Common.{◌≡◌, ◌≢◌, ◌∙◌, ◌≤◌, ℕ, Bool, true, false, List, [], ◌∷◌, codes, Option, Some, None, unwrap_or, refl, sym, ap, subst, arith}
use Rattle.std.specs.Prelude.{◌↔◌, if◌then◌else◌, decimal, Contains, MatchOption, IfSome, filter_map}
use Rattle.clap.specs.Matches.{first_value, one_text}
use Rattle.clap.specs.Walk.{Text, first_of, one_of, rows_of}
use Rattle.clap.specs.Simple.{matches_of}
use Rattle.clap.specs.Faults.{fault_of}
use Rattle.clap.proofs.WalkLemmas.{first_value-rows, one_text-rows}
use Rattle.clap.specs.declared.parser.matches.Found.{Found}
use Rattle.formats.specs.Words.{Piece, Orderly, IsCommand, StandsAtMacek, StandsAtAlone}
use Rattle.command_words.specs.Asking.{StandsAtEither, workers_in, IsAsked}
use Rattle.command_words.specs.Command.{macek_app}
use Rattle.command_words.proofs.Uses.{Valued, Wide, Sampled, Takes, Flag, Use, name_of, has, text_in, rows_for}
use Rattle.command_words.proofs.Whole.{has_dashes, words_back, words_on}
use Rattle.command_words.proofs.Pieces.{uses_of, accepted, wide_text, sampled_text, first_is, flag_text, flag_piece, pieces_for, AreNumbers, are_numbers}
use Rattle.command_words.proofs.Pieces.{uses_spell, uses_stand, uses_once, workers_are, sample_is, pieces_one}
use Rattle.command_words.proofs.Pieces.{from_macek, from_alone, to_macek, to_alone, macek_no_orderly, alone_no_workers}

read_is : (i : Valued) (f : Found) (us : List Use) → rows_of f ≡ rows_for us → first_value f (name_of (Takes i)) ≡ text_in (Takes i) us
read_is i f us rows = first_value-rows f (name_of (Takes i)) ∙ ap (first_of (name_of (Takes i))) rows ∙ first_is i us

-- a number that is read of a text that may be missing
abbrev IsRead : Option Text → ℕ → ℕ → Option ℕ → Type 0
IsRead text least most o = MatchOption o (text ≡ None) (λ n. (least ≤ n) × (n ≤ most) × (text ≡ Some (decimal n)))

-- whether the flag stands, as it is read of its text
pub record IsFlag (text : Option Text) (flag : Bool) : Type 0 where
  pub on : text ≡ Some (codes "true") → flag ≡ true
  pub off : text ≡ Some (codes "false") → flag ≡ false

flag_is : (f : Found) (us : List Use) → rows_of f ≡ rows_for us → (flag : Bool) → IsFlag (one_text f (codes "orderly")) flag → flag ≡ has Flag us
flag_is f us rows flag read = go (has Flag us) (one_text-rows f (codes "orderly") ∙ ap (one_of (codes "orderly")) rows ∙ flag_text us)
  where
    go : (b : Bool) → one_text f (codes "orderly") ≡ Some (if b then codes "true" else codes "false") → flag ≡ b
    go true is = read.on is
    go false is = read.off is

module _ (words : List Text) where
  -- where `clap` refuses the words
  pub refused : fault_of macek_app words ≢ [] → (pieces : List Piece) → ¬ (IsCommand StandsAtEither words pieces)
  refused fault pieces command = let a = accepted words pieces command in fault (words_on words (uses_of pieces) a.0 a.1 a.2).0

  module _ (f : Found) (rows : rows_of f ≡ matches_of macek_app words) where
    rows_of_pieces : (pieces : List Piece) → IsCommand StandsAtEither words pieces → rows_of f ≡ rows_for (uses_of pieces)
    rows_of_pieces pieces command = let a = accepted words pieces command in rows ∙ (words_on words (uses_of pieces) a.0 a.1 a.2).1

    -- where a text is no number in the range
    pub wrong_workers : (t : Text) → first_value f (codes "workers") ≡ Some t → ((n : ℕ) → 1 ≤ n → n ≤ 64 → t ≢ decimal n) → (pieces : List Piece)
        → ¬ (IsCommand StandsAtEither words pieces)
    wrong_workers t is none pieces command =
        let n = wide_text pieces t command.may (sym (read_is Wide f (uses_of pieces) (rows_of_pieces pieces command)) ∙ is) in none n.0 n.1 n.2 n.3

    pub wrong_sample : (t : Text) → first_value f (codes "sample") ≡ Some t → ((k : ℕ) → 0 ≤ k → k ≤ 15 → t ≢ decimal k) → (pieces : List Piece)
        → ¬ (IsCommand StandsAtEither words pieces)
    wrong_sample t is none pieces command =
        let k = sampled_text pieces t command.may (sym (read_is Sampled f (uses_of pieces) (rows_of_pieces pieces command)) ∙ is) in
        none k.0 (omega arith) k.1 k.2

    -- what is read, where both texts are numbers or missing
    abbrev Reads : Text → ℕ → ℕ → Option ℕ → Type 0
    Reads name least most o = IsRead (first_value f name) least most o

    -- what a number says of the uses; where no text is there, it is any number in the range
    abbrev Numbered : Valued → List Use → ℕ → ℕ → Option ℕ → ℕ → Type 0
    Numbered i us least most o n =
        (least ≤ n) × (n ≤ most) × ((t : Text) → text_in (Takes i) us ≡ Some t → (t ≡ decimal n) × (o ≡ Some n)) × (text_in (Takes i) us ≡ None → o ≡ None)

    numbered : (i : Valued) (us : List Use) → rows_of f ≡ rows_for us → (least most : ℕ) → least ≤ most → (o : Option ℕ) →
        Reads (name_of (Takes i)) least most o
        → Numbered i us least most o (unwrap_or o most)
    numbered i us rows_us least most fits None h = (
      fits,
      omega arith,
      (λ t e. let bad : ◌≡◌ {A = Option Text} None (Some t) = sym (sym (read_is i f us rows_us) ∙ h) ∙ e in absurd (cc)),
      (λ _. refl),
    )
    numbered i us rows_us least most fits (Some n) h = (
      h.0,
      h.1,
      (λ t e. let same : Some t ≡ Some (decimal n) = sym e ∙ sym (read_is i f us rows_us) ∙ h.2 in (cc (same), refl)),
      (λ e. let bad : ◌≡◌ {A = Option Text} None (Some (decimal n)) = sym e ∙ sym (read_is i f us rows_us) ∙ h.2 in absurd (cc)),
    )

    pub asked : has_dashes words ≡ false → fault_of macek_app words ≡ [] → (w k : Option ℕ) → Reads (codes "workers") 1 64 w → Reads (codes "sample") 0 15 k
        → (flag : Bool) → IsFlag (one_text f (codes "orderly")) flag → IsAsked StandsAtEither words w k flag
    asked plain fault w k reads_w reads_k flag reads_flag =
        let back = words_back words plain fault in
        let us : List Use = back.0 in
        let rows_us : rows_of f ≡ rows_for us = rows ∙ back.3 in
        let a = numbered Wide us rows_us 1 64 (omega arith) w reads_w in
        let b = numbered Sampled us rows_us 0 15 (omega arith) k reads_k in
        let n = unwrap_or w 64 in
        let m = unwrap_or k 15 in
        let numbers : AreNumbers n m us = are_numbers n m us back.2 (λ t e. (a.2 t e).0) (λ t e. (b.2 t e).0) in
        record {
          pieces = pieces_for n m us;
          command = record { may = uses_stand n m us a.0 a.1 b.1; spelled = uses_spell n m us words numbers back.1; once = uses_once n m us back.2 };
          workers_are = workers_are w n m us back.2 a.3 (λ t e. (a.2 t e).1);
          sample_is = sample_is k n m us back.2 b.3 (λ t e. (b.2 t e).1);
          orderly_is =
              subst (λ (b : Bool). (b ≡ true) ↔ Contains (pieces_for n m us) Orderly) (sym (flag_is f us rows_us flag reads_flag))
              (flag_piece n m us);
        }

  -- the words are read in one way
  one_reading_either : (pieces others : List Piece) → IsCommand StandsAtEither words pieces → IsCommand StandsAtEither words others
      → pieces ≡ others
  one_reading_either pieces others p q =
      let a = accepted words pieces p in
      let b = accepted words others q in
      pieces_one pieces others p.may q.may
      (sym (words_on words (uses_of pieces) a.0 a.1 a.2).1 ∙ (words_on words (uses_of others) b.0 b.1 b.2).1)

  pub one_reading : (pieces others : List Piece) → IsCommand StandsAtMacek words pieces → IsCommand StandsAtMacek words others → pieces ≡ others
  one_reading pieces others p q = one_reading_either pieces others (from_macek words pieces p) (from_macek words others q)

  pub one_reading_alone : (pieces others : List Piece) → IsCommand StandsAtAlone words pieces → IsCommand StandsAtAlone words others → pieces ≡ others
  one_reading_alone pieces others p q = one_reading_either pieces others (from_alone words pieces p) (from_alone words others q)

  -- where the orderly way is asked for, `macek` has no pieces
  pub macek_refused : (w k : Option ℕ) (flag : Bool) → flag ≡ true → IsAsked StandsAtEither words w k flag → (pieces : List Piece)
      → ¬ (IsCommand StandsAtMacek words pieces)
  macek_refused w k flag on is pieces command =
      let same : is.pieces ≡ pieces = one_reading_either is.pieces pieces is.command (from_macek words pieces command) in
      macek_no_orderly pieces command.may (subst (λ (ps : List Piece). Contains ps Orderly) same (is.orderly_is.0 on))

  pub asked_macek : (w k : Option ℕ) (flag : Bool) → flag ≡ false → IsAsked StandsAtEither words w k flag → IsAsked StandsAtMacek words w k false
  asked_macek w k flag off is =
      let none : ¬ (Contains is.pieces Orderly) = λ among. let bad : ◌≡◌ {A = Bool} true false = sym (is.orderly_is.1 among) ∙ off in cc (bad) in
      record {
        pieces = is.pieces;
        command = to_macek words is.pieces is.command none;
        workers_are = is.workers_are;
        sample_is = is.sample_is;
        orderly_is = subst (λ (b : Bool). (b ≡ true) ↔ Contains is.pieces Orderly) off is.orderly_is;
      }

  -- where workers are named, `macek_alone` has no pieces
  pub alone_refused : (n : ℕ) (k : Option ℕ) (flag : Bool) → IsAsked StandsAtEither words (Some n) k flag → (pieces : List Piece)
      → ¬ (IsCommand StandsAtAlone words pieces)
  alone_refused n k flag is pieces command =
      let same : is.pieces ≡ pieces = one_reading_either is.pieces pieces is.command (from_alone words pieces command) in
      let bad : ◌≡◌ {A = List ℕ} (n ∷ []) [] = sym is.workers_are ∙ ap (filter_map workers_in) same ∙ alone_no_workers pieces command.may in cc (bad)

  pub asked_alone : (k : Option ℕ) (flag : Bool) → IsAsked StandsAtEither words None k flag → IsAsked StandsAtAlone words None k flag
  asked_alone k flag is = record {
    pieces = is.pieces;
    command = to_alone words is.pieces is.command is.workers_are;
    workers_are = is.workers_are;
    sample_is = is.sample_is;
    orderly_is = is.orderly_is;
  }

pub alone_names_none : (words : List Text) (pieces : List Piece) → IsCommand StandsAtAlone words pieces → filter_map workers_in pieces ≡ []
alone_names_none words pieces command = alone_no_workers pieces command.may

pub alone_is : (words : List Text) (pieces : List Piece)
    → (IsCommand StandsAtAlone words pieces × ¬ (Contains pieces Orderly)) ↔ (IsCommand StandsAtMacek words pieces × (filter_map workers_in pieces ≡ []))
alone_is words pieces = (
  (λ both. (to_macek words pieces (from_alone words pieces both.0) both.1, alone_no_workers pieces both.0.may)),
  (λ both. (to_alone words pieces (from_macek words pieces both.0) both.1, macek_no_orderly pieces both.0.may)),
)

pub number_range : (text : Option Text) (least most : ℕ) (o : Option ℕ) → IsRead text least most o → IfSome o (λ n. (least ≤ n) × (n ≤ most))
number_range text least most None reads = tt
number_range text least most (Some n) reads = (reads.0, reads.1)

pub most_range : (text : Option Text) (most : ℕ) (o : Option ℕ) → IsRead text 0 most o → IfSome o (λ n. n ≤ most)
most_range text most None reads = tt
most_range text most (Some n) reads = reads.1
