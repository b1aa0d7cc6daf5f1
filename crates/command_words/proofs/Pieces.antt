-- Pieces of the command line, and the uses that spell them.
use Rattle.std.proofs.Common.{◌≡◌, ◌≢◌, ◌∙◌, ◌⊎◌, ◌==◌, ◌&&◌, ◌||◌, ℕ, ◌+◌, ◌%◌, ◌^◌, ◌<◌, ◌≤◌, Bool, true, false, cond, zero, suc, List, [], ◌∷◌, ◌++◌, map}
use Rattle.std.proofs.Common.{length, codes, Option, Some, None, refl, sym, ap, ap₂, subst, inl, inr, arith, get_or, drop, drop-cons}
use Rattle.std.specs.Prelude.{◌↔◌, if◌then◌else◌, decimal, count_by, option_and_then, filter_map, option_to_list}
use Rattle.std.specs.List.{AllByRecursion, Contains, list_any}
use Rattle.std.specs.Str.{bytes_eq}
use Rattle.std.proofs.lemmas.Fmt.{decimal_by_steps, decimal_injective}
use Rattle.std.proofs.lemmas.List.Sums.{sum_by-cons}
use Rattle.std.proofs.lemmas.Bool.Decides.{nat_tests}
use Rattle.std.proofs.lemmas.Bool.{cases_eq, or_parts}
use Rattle.clap.specs.Lexer.{long_of_rest, short_of_rest, strip_byte}
use Rattle.clap.specs.Walk.{Row, Text, first_of, one_of}
use Rattle.clap.specs.declared.parser.matches.ValueSource.{ValueSource}
use Rattle.clap.specs.declared.parser.matches.ValueSource.TheVariants.{CommandLine, DefaultValue}
use Rattle.formats.specs.Words.{Piece, Workers, Sample, Orderly, spellings, Spells, piece_kind, IsCommand, StandsAtMacek, StandsAtAlone, sample_in}
use Rattle.command_words.specs.Asking.{StandsAtEither, workers_in}
use Rattle.command_words.proofs.Uses.{Valued, Wide, Sampled, Which, Takes, Flag, Use, Given, Flagged, name_of, same, option_of, text_of}
use Rattle.command_words.proofs.Uses.{has, text_in, AreOnce, IsUse, SpellsUses, row_for, rest_for, rows_for}
use Rattle.command_words.proofs.Whole.{IsGood, AreGood, has_dashes}

-- ---- the text of a number can stand alone

abbrev StartsWithDigit : List ℕ → Type 0
StartsWithDigit ds = (x : ℕ) × (rest : List ℕ) × (ds ≡ x ∷ rest) × (48 ≤ x)

decimal_starts : (n : ℕ) → n < 2 ^ 64 → StartsWithDigit (decimal n)
decimal_starts n small = decimal_by_steps (λ n ds. StartsWithDigit ds) (λ n below. (48 + n, [], refl, omega arith))
    (λ n ds large p. (p.0, p.1 ++ (48 + n % 10) ∷ [], ap (λ l. l ++ (48 + n % 10) ∷ []) p.2, p.3)) n small

digit_good : (x : ℕ) (rest : List ℕ) → 48 ≤ x → IsGood (x ∷ rest)
digit_good x rest large = go (x == 45) (grind (arith, nat_tests))
  where
    go : (b : Bool) → b ≡ false → ((b && bytes_eq rest (45 ∷ [])) ≡ false)
        × (option_and_then long_of_rest (option_and_then (strip_byte 45) (if b then Some rest else None)) ≡ None)
        × (option_and_then short_of_rest (if b then Some rest else None) ≡ None)
    go true e = cc
    go false e = (refl, refl, refl)

pub decimal_good : (n : ℕ) → n < 2 ^ 64 → IsGood (decimal n)
decimal_good n small = let d = decimal_starts n small in subst IsGood (sym d.2) (digit_good d.0 d.1 d.3)

-- ---- from pieces to uses

abbrev pub use_of : Piece → Use
use_of (Workers n) = Given Wide (decimal n)
use_of (Sample k) = Given Sampled (decimal k)
use_of Orderly = Flagged

abbrev pub uses_of : List Piece → List Use
uses_of = map use_of

one_of_two : {X : Type 0} (a b x : X) → Contains (a ∷ b ∷ []) x → (x ≡ a) ⊎ (x ≡ b)
one_of_two a b x (zero, below, is) = inl (sym is)
one_of_two a b x (suc zero, below, is) = inr (sym is)
one_of_two a b x (suc (suc k), below, is) = absurd (omega arith)

the_one : {X : Type 0} (a x : X) → Contains (a ∷ []) x → x ≡ a
the_one a x (zero, below, is) = sym is
the_one a x (suc k, below, is) = absurd (omega arith)

use_spelled : (piece : Piece) (front : List Text) → Contains (spellings piece) front → IsUse (use_of piece) front
use_spelled (Workers n) front spelled = one_of_two (codes "--workers" ∷ decimal n ∷ []) ((codes "--workers=" ++ decimal n) ∷ []) front spelled
use_spelled (Sample k) front spelled = one_of_two (codes "--sample" ∷ decimal k ∷ []) ((codes "--sample=" ++ decimal k) ∷ []) front spelled
use_spelled Orderly front spelled = the_one (codes "--orderly" ∷ []) front spelled

pub pieces_spell : (pieces : List Piece) (words : List Text) → Spells words pieces → SpellsUses words (uses_of pieces)
pieces_spell [] words spells = spells
pieces_spell (piece ∷ pieces) words spells =
    (spells.0, spells.1, spells.2, use_spelled piece spells.0 spells.3, pieces_spell pieces spells.1 spells.4)

workers_range : (n : ℕ) → StandsAtEither (Workers n) → (1 ≤ n) × (n ≤ 64)
workers_range n (inl fits) = fits
workers_range n (inr bad) = absurd bad

sample_range : (k : ℕ) → StandsAtEither (Sample k) → k ≤ 15
sample_range k (inl fits) = fits
sample_range k (inr fits) = fits

use_good : (piece : Piece) → StandsAtEither piece → IsGood (text_of (use_of piece))
use_good (Workers n) may = decimal_good n (let r = workers_range n may in omega (arith, r.1))
use_good (Sample k) may = decimal_good k (omega (arith, sample_range k may))
use_good Orderly may = (refl, refl, refl)

pub pieces_good : (pieces : List Piece) → AllByRecursion StandsAtEither pieces → AreGood (uses_of pieces)
pieces_good [] may = tt
pieces_good (piece ∷ pieces) may = (use_good piece may.0, pieces_good pieces may.1)

abbrev count : ℕ → List Piece → ℕ
count kind pieces = count_by (λ piece. piece_kind piece == kind) pieces

count_cons : (kind : ℕ) (piece : Piece) (pieces : List Piece) → count kind (piece ∷ pieces) ≡ cond (piece_kind piece == kind) 1 0 + count kind pieces
count_cons kind piece pieces = sum_by-cons (λ p. cond (piece_kind p == kind) 1 0) piece pieces

abbrev kind_of : Which → ℕ
kind_of (Takes Wide) = 0
kind_of (Takes Sampled) = 1
kind_of Flag = 2

kinds_same : (i j : Which) → (kind_of i == kind_of j) ≡ same i j
kinds_same (Takes Wide) (Takes Wide) = refl
kinds_same (Takes Wide) (Takes Sampled) = refl
kinds_same (Takes Wide) Flag = refl
kinds_same (Takes Sampled) (Takes Wide) = refl
kinds_same (Takes Sampled) (Takes Sampled) = refl
kinds_same (Takes Sampled) Flag = refl
kinds_same Flag (Takes Wide) = refl
kinds_same Flag (Takes Sampled) = refl
kinds_same Flag Flag = refl

kind_is : (piece : Piece) → piece_kind piece ≡ kind_of (option_of (use_of piece))
kind_is (Workers n) = refl
kind_is (Sample k) = refl
kind_is Orderly = refl

-- a piece counts where its option is the one that is asked for
counts : (piece : Piece) (i : Which) → (piece_kind piece == kind_of i) ≡ same (option_of (use_of piece)) i
counts piece i = ap (λ (n : ℕ). n == kind_of i) (kind_is piece) ∙ kinds_same (option_of (use_of piece)) i

none_has : (i : Which) (pieces : List Piece) → count (kind_of i) pieces ≡ 0 → has i (uses_of pieces) ≡ false
none_has i [] none = refl
none_has i (piece ∷ pieces) none =
    go (same (option_of (use_of piece)) i)
    (ap (λ (b : Bool). cond b 1 0 + count (kind_of i) pieces) (sym (counts piece i)) ∙ sym (count_cons (kind_of i) piece pieces) ∙ none)
    (none_has i pieces)
  where
    go : (b : Bool) → cond b 1 0 + count (kind_of i) pieces ≡ 0 → (count (kind_of i) pieces ≡ 0 → has i (uses_of pieces) ≡ false)
        → (b || has i (uses_of pieces)) ≡ false
    go true h rest = absurd (omega arith)
    go false h rest = rest (omega arith)

pub pieces_once : (pieces : List Piece) → ((kind : ℕ) → count kind pieces ≤ 1) → AreOnce (uses_of pieces)
pieces_once [] once = tt
pieces_once (piece ∷ pieces) once = (
  none_has (option_of (use_of piece)) pieces (first_counts piece once),
  pieces_once pieces (λ kind. let c = count_cons kind piece pieces in let o = once kind in omega arith),
)
  where
    first_counts : (p : Piece) → ((kind : ℕ) → count kind (p ∷ pieces) ≤ 1) → count (kind_of (option_of (use_of p))) pieces ≡ 0
    first_counts (Workers n) all = let c = count_cons 0 (Workers n) pieces in let o = all 0 in omega arith
    first_counts (Sample k) all = let c = count_cons 1 (Sample k) pieces in let o = all 1 in omega arith
    first_counts Orderly all = let c = count_cons 2 Orderly pieces in let o = all 2 in omega arith

pub wide_text : (pieces : List Piece) (t : Text) → AllByRecursion StandsAtEither pieces → text_in (Takes Wide) (uses_of pieces) ≡ Some t
    → (n : ℕ) × (1 ≤ n) × (n ≤ 64) × (t ≡ decimal n)
wide_text [] t may is = cc
wide_text (Workers n ∷ pieces) t may is = let e : decimal n ≡ t = cc (is) in let r = workers_range n may.0 in (n, r.0, r.1, sym e)
wide_text (Sample k ∷ pieces) t may is = wide_text pieces t may.1 is
wide_text (Orderly ∷ pieces) t may is = wide_text pieces t may.1 is

pub sampled_text : (pieces : List Piece) (t : Text) → AllByRecursion StandsAtEither pieces → text_in (Takes Sampled) (uses_of pieces) ≡ Some t
    → (k : ℕ) × (k ≤ 15) × (t ≡ decimal k)
sampled_text [] t may is = cc
sampled_text (Workers n ∷ pieces) t may is = sampled_text pieces t may.1 is
sampled_text (Sample k ∷ pieces) t may is = let e : decimal k ≡ t = cc (is) in (k, sample_range k may.0, sym e)
sampled_text (Orderly ∷ pieces) t may is = sampled_text pieces t may.1 is

at_most_one : (b : Bool) → cond b 1 0 ≤ 1
at_most_one true = omega arith
at_most_one false = omega arith

-- ---- from uses to pieces

module _ (w k : ℕ) where
  abbrev pub number_for : Valued → ℕ
  number_for Wide = w
  number_for Sampled = k

  abbrev pub piece_for : Use → Piece
  piece_for (Given Wide t) = Workers w
  piece_for (Given Sampled t) = Sample k
  piece_for Flagged = Orderly

  abbrev pub pieces_for : List Use → List Piece
  pieces_for us = map piece_for us

  -- the text is that of the number
  abbrev pub IsNumber : Use → Type 0
  IsNumber (Given i t) = t ≡ decimal (number_for i)
  IsNumber Flagged = Unit {0}

  abbrev pub AreNumbers : List Use → Type 0
  AreNumbers [] = Unit {0}
  AreNumbers (u ∷ us) = IsNumber u × AreNumbers us

  contains_spelling : (u : Use) (front : List Text) → IsNumber u → IsUse u front → Contains (spellings (piece_for u)) front
  contains_spelling (Given Wide t) front is (inl two) = (0, omega arith, sym (two ∙ ap (λ (t : Text). codes "--workers" ∷ t ∷ []) is))
  contains_spelling (Given Wide t) front is (inr one) = (1, omega arith, sym (one ∙ ap (λ (t : Text). (codes "--workers=" ++ t) ∷ []) is))
  contains_spelling (Given Sampled t) front is (inl two) = (0, omega arith, sym (two ∙ ap (λ (t : Text). codes "--sample" ∷ t ∷ []) is))
  contains_spelling (Given Sampled t) front is (inr one) = (1, omega arith, sym (one ∙ ap (λ (t : Text). (codes "--sample=" ++ t) ∷ []) is))
  contains_spelling Flagged front is one = (0, omega arith, sym one)

  pub uses_spell : (us : List Use) (words : List Text) → AreNumbers us → SpellsUses words us → Spells words (pieces_for us)
  uses_spell [] words are spells = spells
  uses_spell (u ∷ us) words are spells = (spells.0, spells.1, spells.2, contains_spelling u spells.0 are.0 spells.3, uses_spell us spells.1 are.1 spells.4)

  pub uses_stand : (us : List Use) → 1 ≤ w → w ≤ 64 → k ≤ 15 → AllByRecursion StandsAtEither (pieces_for us)
  uses_stand [] low high small = tt
  uses_stand (Given Wide t ∷ us) low high small = (inl (low, high), uses_stand us low high small)
  uses_stand (Given Sampled t ∷ us) low high small = (inl small, uses_stand us low high small)
  uses_stand (Flagged ∷ us) low high small = (inr tt, uses_stand us low high small)

  use_kind : (u : Use) → piece_kind (piece_for u) ≡ kind_of (option_of u)
  use_kind (Given Wide t) = refl
  use_kind (Given Sampled t) = refl
  use_kind Flagged = refl

  count_none : (i : Which) (us : List Use) → has i us ≡ false → count (kind_of i) (pieces_for us) ≡ 0
  count_none i [] none = refl
  count_none i (u ∷ us) none =
      let both = or_parts (same (option_of u) i) (has i us) none in
      let test : (piece_kind (piece_for u) == kind_of i) ≡ false = ap (λ (n : ℕ). n == kind_of i) (use_kind u) ∙ kinds_same (option_of u) i ∙ both.0 in
      count_cons (kind_of i) (piece_for u) (pieces_for us) ∙ ap₂ (λ (b : Bool) (n : ℕ). cond b 1 0 + n) test (count_none i us both.1)

  pub uses_once : (us : List Use) → AreOnce us → (kind : ℕ) → count kind (pieces_for us) ≤ 1
  uses_once [] once kind = omega arith
  uses_once (u ∷ us) once kind =
      let c : count kind (pieces_for (u ∷ us)) ≡ cond (piece_kind (piece_for u) == kind) 1 0 + count kind (pieces_for us) =
      count_cons kind (piece_for u) (pieces_for us) in
      elim (cases_eq (kind_of (option_of u)) kind) [
        | inl is ↦
            let rest : count kind (pieces_for us) ≡ 0 = subst (λ (n : ℕ). count n (pieces_for us) ≡ 0) is (count_none (option_of u) us once.0) in
            let some : cond (piece_kind (piece_for u) == kind) 1 0 ≤ 1 = at_most_one (piece_kind (piece_for u) == kind) in
            omega arith
        | inr isnt ↦
            let same_kind = use_kind u in
            let apart : piece_kind (piece_for u) ≢ kind = λ e. isnt (sym same_kind ∙ e) in
            let test : ◌≡◌ {A = ℕ} (cond (piece_kind (piece_for u) == kind) 1 0) 0 = grind (arith, nat_tests) in
            let rest = uses_once us once.1 kind in
            omega arith
      ]

-- ---- what the matches give

first_in : (i : Valued) (us : List Use) (more : List Row) → first_of (name_of (Takes i)) more ≡ None
    → first_of (name_of (Takes i)) (map row_for us ++ more) ≡ text_in (Takes i) us
first_in i [] more none = none
first_in Wide (Given Wide t ∷ us) more none = refl
first_in Wide (Given Sampled t ∷ us) more none = first_in Wide us more none
first_in Wide (Flagged ∷ us) more none = first_in Wide us more none
first_in Sampled (Given Wide t ∷ us) more none = first_in Sampled us more none
first_in Sampled (Given Sampled t ∷ us) more none = refl
first_in Sampled (Flagged ∷ us) more none = first_in Sampled us more none

pub first_is : (i : Valued) (us : List Use) → first_of (name_of (Takes i)) (rows_for us) ≡ text_in (Takes i) us
first_is i us = first_in i us (rest_for (has Flag us)) (none_left i (has Flag us))
  where
    none_left : (i : Valued) (b : Bool) → first_of (name_of (Takes i)) (rest_for b) ≡ None
    none_left Wide true = refl
    none_left Wide false = refl
    none_left Sampled true = refl
    none_left Sampled false = refl

flag_in : (us : List Use) (more : List Row)
    → one_of (codes "orderly") (map row_for us ++ more) ≡ (if has Flag us then Some (codes "true") else one_of (codes "orderly") more)
flag_in [] more = refl
flag_in (Given Wide t ∷ us) more = flag_in us more
flag_in (Given Sampled t ∷ us) more = flag_in us more
flag_in (Flagged ∷ us) more = refl

-- the text of the flag
pub flag_text : (us : List Use) → one_of (codes "orderly") (rows_for us) ≡ Some (if has Flag us then codes "true" else codes "false")
flag_text us = flag_in us (rest_for (has Flag us)) ∙ go (has Flag us)
  where
    go : (b : Bool) → (if b then Some (codes "true") else one_of (codes "orderly") (rest_for b)) ≡ Some (if b then codes "true" else codes "false")
    go true = refl
    go false = refl

no_head : {X : Type 0} (x y : X) (xs : List X) → Contains (y ∷ xs) x → (y ≡ x) ⊎ Contains xs x
no_head x y xs (zero, below, is) = inl is
no_head x y xs (suc at, below, is) = inr (at, omega arith, is)

-- the flag is among the uses where its piece is among the pieces
pub flag_piece : (w k : ℕ) (us : List Use) → (has Flag us ≡ true) ↔ Contains (pieces_for w k us) Orderly
flag_piece w k us = (there us, back us)
  where
    behind : (p : Piece) (ps : List Piece) → Contains ps Orderly → Contains (p ∷ ps) Orderly
    behind p ps (at, below, is) = (suc at, omega arith, is)

    there : (us : List Use) → has Flag us ≡ true → Contains (pieces_for w k us) Orderly
    there [] is = let bad : ◌≡◌ {A = Bool} false true = is in absurd (cc)
    there (Given Wide t ∷ us) is = behind (Workers w) (pieces_for w k us) (there us is)
    there (Given Sampled t ∷ us) is = behind (Sample k) (pieces_for w k us) (there us is)
    there (Flagged ∷ us) is = (0, omega arith, refl)

    back : (us : List Use) → Contains (pieces_for w k us) Orderly → has Flag us ≡ true
    back [] (at, below, is) = absurd (omega arith)
    back (Given Wide t ∷ us) among =
        elim (no_head Orderly (Workers w) (pieces_for w k us) among) [ inl bad ↦ absurd (cc) | inr rest ↦ back us rest ]
    back (Given Sampled t ∷ us) among =
        elim (no_head Orderly (Sample k) (pieces_for w k us) among) [ inl bad ↦ absurd (cc) | inr rest ↦ back us rest ]
    back (Flagged ∷ us) among = refl

text_has : (i : Which) (us : List Use) → has i us ≡ false → text_in i us ≡ None
text_has i [] none = refl
text_has i (u ∷ us) none =
    let both = or_parts (same (option_of u) i) (has i us) none in
    ap (λ (b : Bool). if b then Some (text_of u) else text_in i us) both.0 ∙ text_has i us both.1

pub are_numbers : (w k : ℕ) (us : List Use) → AreOnce us → ((t : Text) → text_in (Takes Wide) us ≡ Some t → t ≡ decimal w)
    → ((t : Text) → text_in (Takes Sampled) us ≡ Some t → t ≡ decimal k) → AreNumbers w k us
are_numbers w k [] once f g = tt
are_numbers w k (Given Wide t ∷ us) once f g = (
  f t refl,
  are_numbers w k us once.1 (λ v e. let bad : ◌≡◌ {A = Option Text} None (Some v) = sym (text_has (Takes Wide) us once.0) ∙ e in absurd (cc)) g,
)
are_numbers w k (Given Sampled t ∷ us) once f g = (
  g t refl,
  are_numbers w k us once.1 f (λ v e. let bad : ◌≡◌ {A = Option Text} None (Some v) = sym (text_has (Takes Sampled) us once.0) ∙ e in absurd (cc)),
)
are_numbers w k (Flagged ∷ us) once f g = (tt, are_numbers w k us once.1 f g)

no_workers : (w k : ℕ) (us : List Use) → has (Takes Wide) us ≡ false → filter_map workers_in (pieces_for w k us) ≡ []
no_workers w k [] none = refl
no_workers w k (Given Wide t ∷ us) none = let bad : ◌≡◌ {A = Bool} true false = none in absurd (cc)
no_workers w k (Given Sampled t ∷ us) none = no_workers w k us none
no_workers w k (Flagged ∷ us) none = no_workers w k us none

no_sample : (w k : ℕ) (us : List Use) → has (Takes Sampled) us ≡ false → filter_map sample_in (pieces_for w k us) ≡ []
no_sample w k [] none = refl
no_sample w k (Given Wide t ∷ us) none = no_sample w k us none
no_sample w k (Given Sampled t ∷ us) none = let bad : ◌≡◌ {A = Bool} true false = none in absurd (cc)
no_sample w k (Flagged ∷ us) none = no_sample w k us none

pub workers_are : (o : Option ℕ) (w k : ℕ) (us : List Use) → AreOnce us → (text_in (Takes Wide) us ≡ None → o ≡ None)
    → ((t : Text) → text_in (Takes Wide) us ≡ Some t → o ≡ Some w)
    → filter_map workers_in (pieces_for w k us) ≡ option_to_list o
workers_are o w k [] once f g = sym (ap option_to_list (f refl))
workers_are o w k (Given Wide t ∷ us) once f g = ap (λ (l : List ℕ). w ∷ l) (no_workers w k us once.0) ∙ sym (ap option_to_list (g t refl))
workers_are o w k (Given Sampled t ∷ us) once f g = workers_are o w k us once.1 f g
workers_are o w k (Flagged ∷ us) once f g = workers_are o w k us once.1 f g

pub sample_is : (o : Option ℕ) (w k : ℕ) (us : List Use) → AreOnce us → (text_in (Takes Sampled) us ≡ None → o ≡ None)
    → ((t : Text) → text_in (Takes Sampled) us ≡ Some t → o ≡ Some k)
    → filter_map sample_in (pieces_for w k us) ≡ option_to_list o
sample_is o w k [] once f g = sym (ap option_to_list (f refl))
sample_is o w k (Given Wide t ∷ us) once f g = sample_is o w k us once.1 f g
sample_is o w k (Given Sampled t ∷ us) once f g = ap (λ (l : List ℕ). k ∷ l) (no_sample w k us once.0) ∙ sym (ap option_to_list (g t refl))
sample_is o w k (Flagged ∷ us) once f g = sample_is o w k us once.1 f g

-- what holds of accepted words
pub accepted : (words : List Text) (pieces : List Piece) → IsCommand StandsAtEither words pieces
    → SpellsUses words (uses_of pieces) × AreGood (uses_of pieces) × AreOnce (uses_of pieces)
accepted words pieces command = (pieces_spell pieces words command.spelled, pieces_good pieces command.may, pieces_once pieces command.once)

-- such words have no `--`
pub no_dashes : (words : List Text) (us : List Use) → SpellsUses words us → AreGood us → has_dashes words ≡ false
no_dashes words [] spells good = ap has_dashes spells
no_dashes words (Given Wide t ∷ us) (front, rest, is, inl two, spells) good =
    ap has_dashes (is ∙ ap (λ f. f ++ rest) two) ∙ ap₂ (λ (a b : Bool). a || b) good.0.0 (no_dashes rest us spells good.1)
no_dashes words (Given Sampled t ∷ us) (front, rest, is, inl two, spells) good =
    ap has_dashes (is ∙ ap (λ f. f ++ rest) two) ∙ ap₂ (λ (a b : Bool). a || b) good.0.0 (no_dashes rest us spells good.1)
no_dashes words (Given Wide t ∷ us) (front, rest, is, inr one, spells) good = ap has_dashes (is ∙ ap (λ f. f ++ rest) one) ∙ no_dashes rest us spells good.1
no_dashes words (Given Sampled t ∷ us) (front, rest, is, inr one, spells) good =
    ap has_dashes (is ∙ ap (λ f. f ++ rest) one) ∙ no_dashes rest us spells good.1
no_dashes words (Flagged ∷ us) (front, rest, is, one, spells) good = ap has_dashes (is ∙ ap (λ f. f ++ rest) one) ∙ no_dashes rest us spells good.1

-- the next word of a loop
pub any_step : {X : Type 0} (f : X → Text) (test : Text → Bool) (xs : List X) (i : ℕ) (x : X) → i < length xs → x ≡ get_or xs i x
    → list_any test (map f (drop i xs)) ≡ (test (f x) || list_any test (map f (drop (i + 1) xs)))
any_step f test xs i x below is =
    ap (λ l. list_any test (map f l)) (drop-cons xs i x below)
    ∙ ap₂ (λ y j. test (f y) || list_any test (map f (drop j xs))) (sym is) (let e : suc i ≡ i + 1 = omega arith in e)

-- ---- one reading

abbrev Same : List Row → List Row → Type 0
Same rows others = rows ≡ others

heads : (r q : Row) (rs qs : List Row) → Same (r ∷ rs) (q ∷ qs) → (r ≡ q) × (rs ≡ qs)
heads r q rs qs same = (cc (same), cc (same))

text_same : (u v : Use) → row_for u ≡ row_for v → text_of u ≡ text_of v
text_same u v same = let values : text_of u ∷ [] ≡ text_of v ∷ [] = ap (λ (r : Row). r.values) same in cc (values)

abbrev letter : Row → ℕ
letter r = get_or r.id 0 0

-- pieces with the same row are the same
piece_one : (piece other : Piece) → StandsAtEither piece → StandsAtEither other → row_for (use_of piece) ≡ row_for (use_of other) → piece ≡ other
piece_one (Workers n) (Workers m) may may' same =
    let low = workers_range n may in
    let high = workers_range m may' in
    ap Workers (decimal_injective n m (omega (arith, low.1)) (omega (arith, high.1))
    (text_same (Given Wide (decimal n)) (Given Wide (decimal m)) same))
piece_one (Workers n) (Sample m) may may' same = let bad : ◌≡◌ {A = ℕ} 119 115 = ap letter same in absurd (omega arith)
piece_one (Workers n) Orderly may may' same = let bad : ◌≡◌ {A = ℕ} 119 111 = ap letter same in absurd (omega arith)
piece_one (Sample n) (Workers m) may may' same = let bad : ◌≡◌ {A = ℕ} 115 119 = ap letter same in absurd (omega arith)
piece_one (Sample n) (Sample m) may may' same =
    ap Sample (decimal_injective n m (omega (arith, sample_range n may)) (omega (arith, sample_range m may'))
    (text_same (Given Sampled (decimal n)) (Given Sampled (decimal m)) same))
piece_one (Sample n) Orderly may may' same = let bad : ◌≡◌ {A = ℕ} 115 111 = ap letter same in absurd (omega arith)
piece_one Orderly (Workers m) may may' same = let bad : ◌≡◌ {A = ℕ} 111 119 = ap letter same in absurd (omega arith)
piece_one Orderly (Sample m) may may' same = let bad : ◌≡◌ {A = ℕ} 111 115 = ap letter same in absurd (omega arith)
piece_one Orderly Orderly may may' same = refl

-- what stands behind the uses begins with no use
rest_apart : (b : Bool) (u : Use) (rows : List Row) → ¬ (Same (rest_for b) (row_for u ∷ rows))
rest_apart true u rows same = cc (same)
rest_apart false u rows same =
    let sources : ◌≡◌ {A = Option ValueSource} (Some DefaultValue) (Some CommandLine) = ap (λ (r : Row). r.source) (heads _ _ _ _ same).0 in
    cc (sources)

pieces_one_by : (b c : Bool) (pieces others : List Piece) → AllByRecursion StandsAtEither pieces → AllByRecursion StandsAtEither others
    → map row_for (uses_of pieces) ++ rest_for b ≡ map row_for (uses_of others) ++ rest_for c → pieces ≡ others
pieces_one_by b c [] [] may may' same = refl
pieces_one_by b c [] (other ∷ others) may may' same = absurd (rest_apart b (use_of other) _ same)
pieces_one_by b c (piece ∷ pieces) [] may may' same = absurd (rest_apart c (use_of piece) _ (sym same))
pieces_one_by b c (piece ∷ pieces) (other ∷ others) may may' same =
    let both = heads _ _ _ _ same in
    ap₂ (λ (p : Piece) (ps : List Piece). p ∷ ps) (piece_one piece other may.0 may'.0 both.0)
    (pieces_one_by b c pieces others may.1 may'.1 both.1)

-- pieces with the same rows are the same
pub pieces_one : (pieces others : List Piece) → AllByRecursion StandsAtEither pieces → AllByRecursion StandsAtEither others
    → rows_for (uses_of pieces) ≡ rows_for (uses_of others) → pieces ≡ others
pieces_one pieces others may may' same = pieces_one_by (has Flag (uses_of pieces)) (has Flag (uses_of others)) pieces others may may' same

-- ---- the pieces of each program

abbrev NamesNone : List Piece → Type 0
NamesNone pieces = filter_map workers_in pieces ≡ []

module _ (words : List Text) where
  module _ (MayStand Other : Piece → Type 0) where
    all_stand : ((piece : Piece) → MayStand piece → Other piece) → (pieces : List Piece) → AllByRecursion MayStand pieces
        → AllByRecursion Other pieces
    all_stand f [] may = tt
    all_stand f (piece ∷ pieces) may = (f piece may.0, all_stand f pieces may.1)

    wider : ((piece : Piece) → MayStand piece → Other piece) → (pieces : List Piece) → IsCommand MayStand words pieces → IsCommand Other words pieces
    wider f pieces command = record { may = all_stand f pieces command.may; spelled = command.spelled; once = command.once }

  pub from_macek : (pieces : List Piece) → IsCommand StandsAtMacek words pieces → IsCommand StandsAtEither words pieces
  from_macek pieces command = wider StandsAtMacek StandsAtEither (λ piece may. inl may) pieces command

  pub from_alone : (pieces : List Piece) → IsCommand StandsAtAlone words pieces → IsCommand StandsAtEither words pieces
  from_alone pieces command = wider StandsAtAlone StandsAtEither (λ piece may. inr may) pieces command

  macek_stands : (pieces : List Piece) → AllByRecursion StandsAtEither pieces → ¬ (Contains pieces Orderly) → AllByRecursion StandsAtMacek pieces
  macek_stands [] may none = tt
  macek_stands (Workers n ∷ pieces) may none = (workers_range n may.0, macek_stands pieces may.1 (λ c. none (suc c.0, omega (arith, c.1), c.2)))
  macek_stands (Sample k ∷ pieces) may none = (sample_range k may.0, macek_stands pieces may.1 (λ c. none (suc c.0, omega (arith, c.1), c.2)))
  macek_stands (Orderly ∷ pieces) may none = absurd (none (0, omega arith, refl))

  alone_stands : (pieces : List Piece) → AllByRecursion StandsAtEither pieces → NamesNone pieces → AllByRecursion StandsAtAlone pieces
  alone_stands [] may none = tt
  alone_stands (Workers n ∷ pieces) may none = let bad : ◌≡◌ {A = List ℕ} (n ∷ filter_map workers_in pieces) [] = none in absurd (cc)
  alone_stands (Sample k ∷ pieces) may none = (sample_range k may.0, alone_stands pieces may.1 none)
  alone_stands (Orderly ∷ pieces) may none = (tt, alone_stands pieces may.1 none)

  -- without the orderly way the words are those of `macek`, without workers those of `macek_alone`
  pub to_macek : (pieces : List Piece) → IsCommand StandsAtEither words pieces → ¬ (Contains pieces Orderly) → IsCommand StandsAtMacek words pieces
  to_macek pieces command none = record { may = macek_stands pieces command.may none; spelled = command.spelled; once = command.once }

  pub to_alone : (pieces : List Piece) → IsCommand StandsAtEither words pieces → NamesNone pieces → IsCommand StandsAtAlone words pieces
  to_alone pieces command none = record { may = alone_stands pieces command.may none; spelled = command.spelled; once = command.once }

pub macek_no_orderly : (pieces : List Piece) → AllByRecursion StandsAtMacek pieces → ¬ (Contains pieces Orderly)
macek_no_orderly [] may (at, below, is) = absurd (omega arith)
macek_no_orderly (Workers n ∷ pieces) may among =
    elim (no_head Orderly (Workers n) pieces among) [ inl bad ↦ cc | inr rest ↦ macek_no_orderly pieces may.1 rest ]
macek_no_orderly (Sample k ∷ pieces) may among =
    elim (no_head Orderly (Sample k) pieces among) [ inl bad ↦ cc | inr rest ↦ macek_no_orderly pieces may.1 rest ]
macek_no_orderly (Orderly ∷ pieces) may among = absurd may.0

pub alone_no_workers : (pieces : List Piece) → AllByRecursion StandsAtAlone pieces → NamesNone pieces
alone_no_workers [] may = refl
alone_no_workers (Workers n ∷ pieces) may = absurd may.0
alone_no_workers (Sample k ∷ pieces) may = alone_no_workers pieces may.1
alone_no_workers (Orderly ∷ pieces) may = alone_no_workers pieces may.1
