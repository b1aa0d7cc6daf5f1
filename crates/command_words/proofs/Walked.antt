-- What `clap` makes of the words, one word after another.
use Rattle.std.proofs.Common.{◌≡◌, ◌∙◌, ℕ, ◌||◌, ◌&&◌, Bool, true, false, cond, List, [], ◌∷◌, ◌++◌, map, codes, Option, Some, None, refl, sym, ap, ap₂}
use Rattle.std.proofs.Common.{subst, option_map, append-nil}
use Rattle.std.specs.Prelude.{if◌then◌else◌, slice_get, length}
use Rattle.std.specs.Option.{option_map_or}
use Rattle.std.proofs.lemmas.List.{map-append}
use Rattle.clap.specs.declared.parser.matches.ValueSource.TheVariants.{CommandLine}
use Rattle.std.specs.Str.{bytes_eq, chars}
use Rattle.std.proofs.lemmas.Bool.{or_parts}
use Rattle.clap.specs.Lexer.{long_of, short_of}
use Rattle.clap.specs.Walk.{Row, Rule, Text, Held, Walk, Waiting, idle, option, trailing, Step, at_row, more_values, has_row, settled, used, arg_by_long}
use Rattle.clap.specs.Walk.{walked, after_step, after_flag, long_met, long_or_other, plain_word, short_or_plain, bundle_step, bundle_met, plain}
use Rattle.clap.specs.Simple.{Shape, built}
use Rattle.clap.specs.Kinds.{Kinds, or_else}
use Rattle.clap.specs.Faults.{settle_fault, use_fault, turn_fault, long_fault, flag_word_fault, step_fault, bundle_fault, bundle_step_fault, flags_fault}
use Rattle.clap.specs.declared.error.kind.ErrorKind.TheVariants as kind
use Rattle.command_words.specs.Command.{macek_app}
use Rattle.command_words.proofs.Uses.{Valued, Wide, Sampled, Which, Takes, Flag, Use, Given, Flagged, Pend, Resting, Asking, Holding}
use Rattle.command_words.proofs.Uses.{name_of, rule_for, same, option_of, has, row_for, waiting_for, held, stands}

abbrev pub shape : Shape
shape = (built macek_app).top

abbrev pub rules : List Rule
rules = rule_for (Takes Wide) ∷ rule_for (Takes Sampled) ∷ rule_for Flag ∷ []

rules_are : shape.rules ≡ rules
rules_are = refl

-- the names tell the options apart
pub names_same : (i j : Which) → bytes_eq (name_of i) (name_of j) ≡ same i j
names_same (Takes Wide) (Takes Wide) = refl
names_same (Takes Wide) (Takes Sampled) = refl
names_same (Takes Wide) Flag = refl
names_same (Takes Sampled) (Takes Wide) = refl
names_same (Takes Sampled) (Takes Sampled) = refl
names_same (Takes Sampled) Flag = refl
names_same Flag (Takes Wide) = refl
names_same Flag (Takes Sampled) = refl
names_same Flag Flag = refl

pub has_row_is : (i : Which) (us : List Use) → has_row (name_of i) (map row_for us) ≡ has i us
has_row_is i [] = refl
has_row_is i (u ∷ us) = ap₂ (λ (a b : Bool). a || b) (names_same (option_of u) i) (has_row_is i us)

-- where an option was not used, its row is added at the end
pub absent_at : (i : Which) (change : Row → List Row) (missing : List Row) (us : List Use) → has i us ≡ false
    → at_row (name_of i) change missing (map row_for us) ≡ map row_for us ++ missing
absent_at i change missing [] none = refl
absent_at i change missing (u ∷ us) none =
    let both = or_parts (same (option_of u) i) (has i us) none in
    let other : bytes_eq (name_of (option_of u)) (name_of i) ≡ false = names_same (option_of u) i ∙ both.0 in
    ap (λ b. if b then change (row_for u) ++ map row_for us else row_for u ∷ at_row (name_of i) change missing (map row_for us)) other
    ∙ ap (λ rs. row_for u ∷ rs) (absent_at i change missing us both.1)

put_last : (u : Use) (change : Row → List Row) (us : List Use) → has (option_of u) us ≡ false
    → at_row (name_of (option_of u)) change (row_for u ∷ []) (at_row (name_of (option_of u)) (λ _. []) [] (map row_for us)) ≡ map row_for (us ++ u ∷ [])
put_last u change us none =
    ap (at_row (name_of (option_of u)) change (row_for u ∷ [])) (absent_at (option_of u) (λ _. []) [] us none ∙ append-nil (map row_for us))
    ∙ absent_at (option_of u) change (row_for u ∷ []) us none ∙ sym (map-append row_for us (u ∷ []))

-- a new use goes last
used_is : (i : Valued) (v : Text) (us : List Use) → has (Takes i) us ≡ false
    → used (rule_for (Takes i)) (v ∷ []) (map row_for us) ≡ map row_for (us ++ Given i v ∷ [])
used_is Wide v us none = put_last (Given Wide v) (more_values CommandLine (v ∷ [])) us none
used_is Sampled v us none = put_last (Given Sampled v) (more_values CommandLine (v ∷ [])) us none

flag_is : (us : List Use) → has Flag us ≡ false → used (rule_for Flag) [] (map row_for us) ≡ map row_for (us ++ Flagged ∷ [])
flag_is us none = put_last Flagged (more_values CommandLine (codes "true" ∷ [])) us none

abbrev pub clash : Bool → Kinds
clash b = cond b (kind.ArgumentConflict ∷ []) []

abbrev pub settle_kinds : List Use → Pend → Kinds
settle_kinds us Resting = []
settle_kinds us (Asking i) = kind.InvalidValue ∷ []
settle_kinds us (Holding i v) = clash (has (Takes i) us)

abbrev pub settle_uses : List Use → Pend → List Use
settle_uses us (Holding i v) = us ++ Given i v ∷ []
settle_uses us _ = us

clash_is : (b : Bool) → or_else (if b && true then kind.ArgumentConflict ∷ [] else []) [] ≡ clash b
clash_is true = refl
clash_is false = refl

pub no_clash : (b : Bool) → clash b ≡ [] → b ≡ false
no_clash true none = cc
no_clash false none = refl

-- a use is refused where the option was used before
abbrev Clashes : Which → List Text → Type 0
Clashes i values = (us : List Use) → use_fault false (rule_for i) values (map row_for us) ≡ clash (has i us)

use_kinds : (i : Valued) (v : Text) → Clashes (Takes i) (v ∷ [])
use_kinds Wide v us =
    ap (λ b. or_else (if b && true then kind.ArgumentConflict ∷ [] else []) []) (has_row_is (Takes Wide) us) ∙ clash_is (has (Takes Wide) us)
use_kinds Sampled v us =
    ap (λ b. or_else (if b && true then kind.ArgumentConflict ∷ [] else []) []) (has_row_is (Takes Sampled) us) ∙ clash_is (has (Takes Sampled) us)

flag_kinds : Clashes Flag []
flag_kinds us = ap (λ b. or_else (if b && true then kind.ArgumentConflict ∷ [] else []) []) (has_row_is Flag us) ∙ clash_is (has Flag us)

pub settle_is : (us : List Use) (pend : Pend) → settle_fault rules false (held us pend) ≡ settle_kinds us pend
settle_is us Resting = refl
settle_is us (Asking Wide) = refl
settle_is us (Asking Sampled) = refl
settle_is us (Holding Wide v) = use_kinds Wide v us
settle_is us (Holding Sampled v) = use_kinds Sampled v us

abbrev rows_only : List Row → Held
rows_only rs = record { rows = rs; pending = None; skip = 0 }

pub settled_is : (us : List Use) (pend : Pend) → settle_kinds us pend ≡ [] → settled rules (held us pend) ≡ held (settle_uses us pend) Resting
settled_is us Resting none = refl
settled_is us (Asking i) none = cc
settled_is us (Holding Wide v) none = ap rows_only (used_is Wide v us (no_clash (has (Takes Wide) us) none))
settled_is us (Holding Sampled v) none = ap rows_only (used_is Sampled v us (no_clash (has (Takes Sampled) us) none))

or_same : (k x y : Kinds) → (k ≡ [] → x ≡ y) → or_else k x ≡ or_else k y
or_same [] x y e = e refl
or_same (a ∷ k) x y e = refl

or_nil : (k : Kinds) → or_else k [] ≡ k
or_nil [] = refl
or_nil (a ∷ k) = refl

pub or_first : (k x : Kinds) → or_else k x ≡ [] → k ≡ []
or_first [] x e = refl
or_first (a ∷ k) x e = cc

pub or_second : (k x : Kinds) → or_else k x ≡ [] → x ≡ []
or_second [] x e = e
or_second (a ∷ k) x e = cc

-- ---- a word with two hyphens

abbrev pub which : Text → Option Which
which name =
    if bytes_eq (name_of (Takes Wide)) name then Some (Takes Wide)
    else (if bytes_eq (name_of (Takes Sampled)) name then Some (Takes Sampled)
    else (if bytes_eq (name_of Flag) name then Some Flag else None))

by_long : (name : Text) → arg_by_long rules name ≡ option_map rule_for (which name)
by_long name = go (bytes_eq (name_of (Takes Wide)) name) (bytes_eq (name_of (Takes Sampled)) name) (bytes_eq (name_of Flag) name)
  where
    go : (b c d : Bool)
        → cond (b || false) (Some (rule_for (Takes Wide)))
        (cond (c || false) (Some (rule_for (Takes Sampled))) (cond (d || false) (Some (rule_for Flag)) None))
        ≡ option_map rule_for (if b then Some (Takes Wide) else (if c then Some (Takes Sampled) else (if d then Some Flag else None)))
    go true c d = refl
    go false true d = refl
    go false false true = refl
    go false false false = refl

abbrev pub long_kinds : List Use → Pend → Option Which → Option Text → Kinds
long_kinds us pend None value = kind.UnknownArgument ∷ []
long_kinds us pend (Some (Takes i)) None = settle_kinds us pend
long_kinds us pend (Some (Takes i)) (Some v) = or_else (settle_kinds us pend) (clash (has (Takes i) (settle_uses us pend)))
long_kinds us pend (Some Flag) None = or_else (settle_kinds us pend) (clash (has Flag (settle_uses us pend)))
long_kinds us pend (Some Flag) (Some v) = kind.TooManyValues ∷ []

abbrev pub long_uses : List Use → Pend → Option Which → Option Text → List Use
long_uses us pend (Some (Takes i)) (Some v) = settle_uses us pend ++ Given i v ∷ []
long_uses us pend (Some Flag) None = settle_uses us pend ++ Flagged ∷ []
long_uses us pend _ _ = settle_uses us pend

abbrev pub long_pend : Option Which → Option Text → Pend
long_pend (Some (Takes i)) None = Asking i
long_pend _ _ = Resting

uses_after : (i : Which) (values : List Text) → Clashes i values → (us : List Use) (pend : Pend)
    → or_else (settle_fault rules false (held us pend)) (use_fault false (rule_for i) values (settled rules (held us pend)).rows)
    ≡ or_else (settle_kinds us pend) (clash (has i (settle_uses us pend)))
uses_after i values clashes us pend =
    ap (λ k. or_else k (use_fault false (rule_for i) values (settled rules (held us pend)).rows)) (settle_is us pend)
    ∙ or_same (settle_kinds us pend) _ (clash (has i (settle_uses us pend)))
    (λ none. ap (λ (h : Held). use_fault false (rule_for i) values h.rows) (settled_is us pend none) ∙ clashes (settle_uses us pend))

abbrev long_turn : Option Rule → Option Text → List Use → Pend → Text → Kinds
long_turn o value us pend word = or_else (long_fault rules false o value (held us pend))
    (step_fault shape 1 (after_flag rules (waiting_for pend) word (long_met rules o value (held us pend)).0 (long_met rules o value (held us pend)).1).0
    (after_flag rules (waiting_for pend) word (long_met rules o value (held us pend)).0 (long_met rules o value (held us pend)).1).1)

use_turn : (i : Which) (values : List Text) → Clashes i values → (us : List Use) (pend : Pend)
    → or_else (or_else (settle_fault rules false (held us pend)) (use_fault false (rule_for i) values (settled rules (held us pend)).rows)) []
    ≡ or_else (settle_kinds us pend) (clash (has i (settle_uses us pend)))
use_turn i values clashes us pend =
    or_nil (or_else (settle_fault rules false (held us pend)) (use_fault false (rule_for i) values (settled rules (held us pend)).rows))
    ∙ uses_after i values clashes us pend

long_turn_is : (w : Option Which) (value : Option Text) (us : List Use) (pend : Pend) (word : Text)
    → long_turn (option_map rule_for w) value us pend word ≡ long_kinds us pend w value
long_turn_is None value us pend word = refl
long_turn_is (Some (Takes Wide)) None us pend word = or_nil (settle_fault rules false (held us pend)) ∙ settle_is us pend
long_turn_is (Some (Takes Sampled)) None us pend word = or_nil (settle_fault rules false (held us pend)) ∙ settle_is us pend
long_turn_is (Some (Takes Wide)) (Some v) us pend word = use_turn (Takes Wide) (v ∷ []) (use_kinds Wide v) us pend
long_turn_is (Some (Takes Sampled)) (Some v) us pend word = use_turn (Takes Sampled) (v ∷ []) (use_kinds Sampled v) us pend
long_turn_is (Some Flag) None us pend word = use_turn Flag [] flag_kinds us pend
long_turn_is (Some Flag) (Some v) us pend word = refl

abbrev long_after : Option Rule → Option Text → List Use → Pend → Text → Walk
long_after o value us pend word =
    let met = long_met rules o value (held us pend) in
    after_step rules word (stands us pend) (after_flag rules (waiting_for pend) word met.0 met.1).0 (after_flag rules (waiting_for pend) word met.0 met.1).1

abbrev stand_by : Waiting → Held → Walk
stand_by waiting h = record { held = h; waiting = waiting; position = 1; is_trailing = false; stopped = None }

-- the use is put last, after what stood open
use_after : (u : Use) (values : List Text) (us : List Use) (pend : Pend)
    → ((before : List Use) → has (option_of u) before ≡ false
    → used (rule_for (option_of u)) values (map row_for before) ≡ map row_for (before ++ u ∷ []))
    → or_else (settle_kinds us pend) (clash (has (option_of u) (settle_uses us pend))) ≡ []
    → stand_by idle (rows_only (used (rule_for (option_of u)) values (settled rules (held us pend)).rows))
    ≡ stands (settle_uses us pend ++ u ∷ []) Resting
use_after u values us pend last none =
    ap (λ (h : Held). stand_by idle (rows_only (used (rule_for (option_of u)) values h.rows))) (settled_is us pend (or_first (settle_kinds us pend) _ none))
    ∙ ap (λ rs. stand_by idle (rows_only rs))
    (last (settle_uses us pend) (no_clash (has (option_of u) (settle_uses us pend)) (or_second (settle_kinds us pend) _ none)))

long_after_is : (w : Option Which) (value : Option Text) (us : List Use) (pend : Pend) (word : Text) → long_kinds us pend w value ≡ []
    → long_after (option_map rule_for w) value us pend word ≡ stands (long_uses us pend w value) (long_pend w value)
long_after_is None value us pend word none = cc
long_after_is (Some (Takes Wide)) None us pend word none =
    ap (λ (h : Held). stand_by (option (name_of (Takes Wide))) (record h { pending = Some (name_of (Takes Wide), []) })) (settled_is us pend none)
long_after_is (Some (Takes Sampled)) None us pend word none =
    ap (λ (h : Held). stand_by (option (name_of (Takes Sampled))) (record h { pending = Some (name_of (Takes Sampled), []) })) (settled_is us pend none)
long_after_is (Some (Takes Wide)) (Some v) us pend word none = use_after (Given Wide v) (v ∷ []) us pend (used_is Wide v) none
long_after_is (Some (Takes Sampled)) (Some v) us pend word none = use_after (Given Sampled v) (v ∷ []) us pend (used_is Sampled v) none
long_after_is (Some Flag) None us pend word none = use_after Flagged [] us pend flag_is none
long_after_is (Some Flag) (Some v) us pend word none = let bad : kind.TooManyValues ∷ [] ≡ [] = none in absurd (cc)

-- ---- another word

plain_kinds : List Use → Pend → Text → Kinds
plain_kinds us pend word =
    step_fault shape 1 (plain_word rules (waiting_for pend) word (held us pend)).0 (plain_word rules (waiting_for pend) word (held us pend)).1

abbrev plain_after : List Use → Pend → Text → Walk
plain_after us pend word =
    let met = plain_word rules (waiting_for pend) word (held us pend) in after_step rules word (stands us pend) met.0 met.1

-- the word is the text of the option that waits
abbrev pub IsText : List Use → Pend → Text → Walk → Type 0
IsText us pend word after = (i : Valued) × (pend ≡ Asking i) × (after ≡ stands us (Holding i word))

plain_back : (us : List Use) (pend : Pend) (word : Text) → plain_kinds us pend word ≡ [] → IsText us pend word (plain_after us pend word)
unfolding plain_kinds
plain_back us Resting word none = cc
plain_back us (Holding i v) word none = cc
plain_back us (Asking Wide) word none = (Wide, refl, refl)
plain_back us (Asking Sampled) word none = (Sampled, refl, refl)

plain_on : (i : Valued) (us : List Use) (word : Text) → (plain_kinds us (Asking i) word ≡ []) × (plain_after us (Asking i) word ≡ stands us (Holding i word))
unfolding plain_kinds
plain_on Wide us word = (refl, refl)
plain_on Sampled us word = (refl, refl)

abbrev short_turn : Option Text → List Use → Pend → Text → Kinds
short_turn o us pend word = or_else (option_map_or (λ flags. bundle_fault rules false flags (held us pend)) o [])
    (step_fault shape 1 (short_or_plain rules (waiting_for pend) word o (held us pend)).0 (short_or_plain rules (waiting_for pend) word o (held us pend)).1)

abbrev short_after : Option Text → List Use → Pend → Text → Walk
short_after o us pend word =
    let met = short_or_plain rules (waiting_for pend) word o (held us pend) in after_step rules word (stands us pend) met.0 met.1

abbrev letter_turn : Option ℕ → ℕ → Text → List Use → Pend → Text → Kinds
letter_turn q k flags us pend word =
    let met = bundle_step rules q flags 0 plain (held us pend) (bundle_met rules k) in
    or_else (bundle_step_fault rules false q flags 0 (held us pend) (flags_fault rules false k))
    (step_fault shape 1 (after_flag rules (waiting_for pend) word met.0 met.1).0 (after_flag rules (waiting_for pend) word met.0 met.1).1)

abbrev letter_after : Option ℕ → ℕ → Text → List Use → Pend → Text → Walk
letter_after q k flags us pend word =
    let met = bundle_step rules q flags 0 plain (held us pend) (bundle_met rules k) in
    after_step rules word (stands us pend) (after_flag rules (waiting_for pend) word met.0 met.1).0 (after_flag rules (waiting_for pend) word met.0 met.1).1

letter_back : (q : Option ℕ) (k : ℕ) (flags : Text) (us : List Use) (pend : Pend) (word : Text) → letter_turn q k flags us pend word ≡ []
    → IsText us pend word (letter_after q k flags us pend word)
unfolding plain_kinds
letter_back None k flags us pend word none = plain_back us pend word none
letter_back (Some x) k flags us pend word none = cc

short_back : (o : Option Text) (us : List Use) (pend : Pend) (word : Text) → short_turn o us pend word ≡ [] → IsText us pend word (short_after o us pend word)
unfolding plain_kinds bundle_met flags_fault
short_back None us pend word none = plain_back us pend word none
short_back (Some []) us pend word none = plain_back us pend word none
short_back (Some (x ∷ xs)) us pend word none = letter_back (slice_get (chars (x ∷ xs)) 0) (length xs) (x ∷ xs) us pend word none

-- ---- one word

abbrev met_by : Bool → Option (Text × Option Text) → List Use → Pend → Text → Held × Step
met_by b o us pend word = cond b (held us pend, trailing 1) (long_or_other rules (waiting_for pend) word o (held us pend))

abbrev turn_by : Bool → Option (Text × Option Text) → List Use → Pend → Text → Kinds
turn_by b o us pend word =
    or_else (cond b [] (flag_word_fault rules false o word (held us pend))) (step_fault shape 1 (met_by b o us pend word).0 (met_by b o us pend word).1)

abbrev after_by : Bool → Option (Text × Option Text) → List Use → Pend → Text → Walk
after_by b o us pend word = after_step rules word (stands us pend) (met_by b o us pend word).0 (met_by b o us pend word).1

turn_is : (us : List Use) (pend : Pend) (word : Text)
    → turn_fault shape [] (stands us pend) word ≡ turn_by (bytes_eq word (codes "--")) (long_of word) us pend word
turn_is us Resting word = refl
turn_is us (Asking i) word = refl
turn_is us (Holding i v) word = refl

after_is : (us : List Use) (pend : Pend) (word : Text)
    → walked rules [] (stands us pend) word ≡ after_by (bytes_eq word (codes "--")) (long_of word) us pend word
unfolding walked
after_is us Resting word = refl
after_is us (Asking i) word = refl
after_is us (Holding i v) word = refl

-- what a word comes to: a use that is spelled in one word, the name of an option, or the text of the option that waits
pub data Turns (us : List Use) (pend : Pend) (word : Text) (after : Walk) : Type 0 where
  Names : (i : Which) (value : Option Text) (name : Text) → long_of word ≡ Some (name, value) → which name ≡ Some i → long_kinds us pend (Some i) value ≡ []
      → after ≡ stands (long_uses us pend (Some i) value) (long_pend (Some i) value) → Turns us pend word after
  Texts : (i : Valued) → pend ≡ Asking i → after ≡ stands us (Holding i word) → Turns us pend word after

module _ (us : List Use) (pend : Pend) (word : Text) where
  long_back : (name : Text) (value : Option Text) (w : Option Which) → which name ≡ w → long_of word ≡ Some (name, value)
      → long_turn (option_map rule_for w) value us pend word ≡ []
      → Turns us pend word (long_after (option_map rule_for w) value us pend word)
  long_back name value None is long none = let bad : kind.UnknownArgument ∷ [] ≡ [] = none in absurd (cc)
  long_back name value (Some i) is long none =
      let kinds : long_kinds us pend (Some i) value ≡ [] = sym (long_turn_is (Some i) value us pend word) ∙ none in
      Names i value name long is kinds (long_after_is (Some i) value us pend word kinds)

  turn_back_by : (b : Bool) (o : Option (Text × Option Text)) → b ≡ false → long_of word ≡ o → turn_by b o us pend word ≡ []
      → Turns us pend word (after_by b o us pend word)
  turn_back_by true o other long none = let bad : ◌≡◌ {A = Bool} true false = other in absurd (cc)
  turn_back_by false None other long none = let t = short_back (short_of word) us pend word none in Texts t.0 t.1 t.2
  turn_back_by false (Some (name, value)) other long none =
      let P : Option Rule → Type 0 = λ r. long_turn r value us pend word ≡ [] → Turns us pend word (long_after r value us pend word) in
      subst P (sym (by_long name)) (long_back name value (which name) refl long) none

  -- a word that isn't refused
  pub turn_back : bytes_eq word (codes "--") ≡ false → turn_fault shape [] (stands us pend) word ≡ []
      → Turns us pend word (walked rules [] (stands us pend) word)
  turn_back other none =
      subst (Turns us pend word) (sym (after_is us pend word))
      (turn_back_by (bytes_eq word (codes "--")) (long_of word) other refl (sym (turn_is us pend word) ∙ none))

  -- a word that names an option
  pub names_on : (name : Text) (value : Option Text) (i : Which) → bytes_eq word (codes "--") ≡ false → long_of word ≡ Some (name, value)
      → which name ≡ Some i → long_kinds us pend (Some i) value ≡ []
      → (turn_fault shape [] (stands us pend) word ≡ [])
      × (walked rules [] (stands us pend) word ≡ stands (long_uses us pend (Some i) value) (long_pend (Some i) value))
  names_on name value i other long is kinds =
      let rule : arg_by_long rules name ≡ option_map rule_for (Some i) = by_long name ∙ ap (option_map rule_for) is in (
        turn_is us pend word ∙ ap₂ (λ (b : Bool) (o : Option (Text × Option Text)). turn_by b o us pend word) other long
            ∙ ap (λ r. long_turn r value us pend word) rule ∙ long_turn_is (Some i) value us pend word ∙ kinds,
        after_is us pend word ∙ ap₂ (λ (b : Bool) (o : Option (Text × Option Text)). after_by b o us pend word) other long
            ∙ ap (λ r. long_after r value us pend word) rule ∙ long_after_is (Some i) value us pend word kinds,
      )

-- the text of an option
pub text_on : (us : List Use) (i : Valued) (word : Text) → bytes_eq word (codes "--") ≡ false → long_of word ≡ None → short_of word ≡ None
    → (turn_fault shape [] (stands us (Asking i)) word ≡ []) × (walked rules [] (stands us (Asking i)) word ≡ stands us (Holding i word))
unfolding plain_kinds
text_on us i word other long short = (
  turn_is us (Asking i) word ∙ ap₂ (λ (b : Bool) (o : Option (Text × Option Text)). turn_by b o us (Asking i) word) other long
      ∙ ap (λ o. short_turn o us (Asking i) word) short ∙ (plain_on i us word).0,
  after_is us (Asking i) word ∙ ap₂ (λ (b : Bool) (o : Option (Text × Option Text)). after_by b o us (Asking i) word) other long
      ∙ ap (λ o. short_after o us (Asking i) word) short ∙ (plain_on i us word).1,
)
