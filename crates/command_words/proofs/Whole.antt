-- What `clap` makes of all the words.
use Rattle.std.proofs.Common.{◌≡◌, ◌∙◌, ◌||◌, Bool, true, false, List, [], ◌∷◌, ◌++◌, map, codes, Some, None, refl, sym, ap, ap₂, subst, inl, inr}
use Rattle.std.proofs.Common.{append-nil, append_assoc}
use Rattle.std.specs.Prelude.{if◌then◌else◌, is_some}
use Rattle.std.specs.List.{fold, list_any}
use Rattle.std.specs.Str.{bytes_eq}
use Rattle.std.proofs.lemmas.Bool.{or_parts}
use Rattle.clap.specs.Lexer.{long_of, short_of}
use Rattle.clap.specs.Walk.{Row, Text, Held, Walk, at_row, has_row, more_values, settled, walked, finished, with_default}
use Rattle.clap.specs.declared.parser.matches.ValueSource.TheVariants.{DefaultValue}
use Rattle.clap.specs.Simple.{App, built, entered, matches_of}
use Rattle.clap.specs.Kinds.{Kinds, or_else}
use Rattle.clap.specs.Faults.{fault_of, settle_fault, turn_fault, walk_fault, defaults_fault, check_fault, entered_fault}
use Rattle.clap.specs.declared.error.kind.ErrorKind.TheVariants as kind
use Rattle.command_words.specs.Command.{macek_app}
use Rattle.command_words.proofs.Uses.{Valued, Wide, Sampled, Which, Takes, Flag, Use, Given, Flagged, Pend, Resting, Asking, Holding}
use Rattle.command_words.proofs.Uses.{name_of, rule_for, option_of, text_of, has, AreOnce, IsUse, SpellsUses, row_for, unused_row, rest_for, rows_for, held, stands}
use Rattle.command_words.proofs.Walked.{shape, rules, which, settle_kinds, settle_uses, settle_is, settled_is, no_clash, clash, or_first, or_second}
use Rattle.command_words.proofs.Walked.{has_row_is, absent_at}
use Rattle.command_words.proofs.Walked.{Turns, Names, Texts, turn_back, names_on, text_on}
use Rattle.command_words.proofs.Texts.{word_is, once_last, once_mid}

-- a word is `--` alone
abbrev pub has_dashes : List Text → Bool
has_dashes words = list_any (λ word. bytes_eq word (codes "--")) words

-- what the words spell, with what stands open before them
abbrev pub OpenSpells : Pend → List Text → List Use → Type 0
OpenSpells Resting words more = SpellsUses words more
OpenSpells (Asking i) words more =
    (v : Text) × (rest : List Text) × (others : List Use) × (words ≡ v ∷ rest) × (more ≡ Given i v ∷ others) × SpellsUses rest others
OpenSpells (Holding i v) words more = (others : List Use) × (more ≡ Given i v ∷ others) × SpellsUses words others

abbrev open_use : Pend → List Use → List Use
open_use (Holding i v) more = Given i v ∷ more
open_use _ more = more

opened : (us : List Use) (pend : Pend) (words : List Text) (more : List Use) → settle_kinds us pend ≡ [] → SpellsUses words more
    → OpenSpells pend words (open_use pend more)
opened us Resting words more none spells = spells
opened us (Asking i) words more none spells = cc
opened us (Holding i v) words more none spells = (more, refl, spells)

open_uses : (us : List Use) (pend : Pend) (more : List Use) → settle_uses us pend ++ more ≡ us ++ open_use pend more
open_uses us Resting more = refl
open_uses us (Asking i) more = refl
open_uses us (Holding i v) more = append_assoc us (Given i v ∷ []) more

once_settled : (us : List Use) (pend : Pend) → settle_kinds us pend ≡ [] → AreOnce us → AreOnce (settle_uses us pend)
once_settled us Resting none once = once
once_settled us (Asking i) none once = cc
once_settled us (Holding i v) none once = once_last (Given i v) us once (no_clash (has (Takes i) us) none)

-- where the walk ends, and what it has
pub record Ends (us : List Use) (pend : Pend) (words : List Text) : Type 0 where
  pub uses : List Use
  pub «open» : Pend
  pub is : fold (walked rules []) (stands us pend) words ≡ stands uses «open»
  pub more : settle_kinds uses «open» ≡ []
      → (all : List Use) × OpenSpells pend words all × (settle_uses uses «open» ≡ us ++ all) × (AreOnce us → AreOnce (us ++ all))

module _ (us : List Use) (pend : Pend) (word : Text) (words : List Text) where
  -- a use in one word
  end_one : (u : Use) → IsUse u (word ∷ [])
      → or_else (settle_kinds us pend) (clash (has (option_of u) (settle_uses us pend))) ≡ [] →
      walked rules [] (stands us pend) word ≡ stands (settle_uses us pend ++ u ∷ []) Resting →
      Ends (settle_uses us pend ++ u ∷ []) Resting words
      → Ends us pend (word ∷ words)
  end_one u one kinds after e =
      let settles : settle_kinds us pend ≡ [] = or_first (settle_kinds us pend) _ kinds in
      let fresh : has (option_of u) (settle_uses us pend) ≡ false =
      no_clash (has (option_of u) (settle_uses us pend)) (or_second (settle_kinds us pend) _ kinds) in
      record {
        uses = e.uses;
        «open» = e.«open»;
        is = ap (λ w. fold (walked rules []) w words) after ∙ e.is;
        more = λ ends.
            let m = e.more ends in
            let eq : (settle_uses us pend ++ u ∷ []) ++ m.0 ≡ us ++ open_use pend (u ∷ m.0) =
            append_assoc (settle_uses us pend) (u ∷ []) m.0 ∙ open_uses us pend (u ∷ m.0) in (
              open_use pend (u ∷ m.0),
              opened us pend (word ∷ words) (u ∷ m.0) settles (word ∷ [], words, refl, one, m.1),
              m.2 ∙ eq,
              (λ once. subst AreOnce eq (m.3 (once_last u (settle_uses us pend) (once_settled us pend settles once) fresh))),
            );
      }

  -- the name of an option alone
  name_alone : (i : Which) (name : Text) → long_of word ≡ Some (name, None) → which name ≡ Some i → word ≡ codes "--" ++ name_of i
  name_alone i name long is = word_is word name None i long is ∙ ap (λ (t : Text). 45 ∷ 45 ∷ t) (append-nil (name_of i))

  end_name : (i : Valued) (name : Text) → long_of word ≡ Some (name, None) → which name ≡ Some (Takes i) → settle_kinds us pend ≡ []
      → walked rules [] (stands us pend) word ≡ stands (settle_uses us pend) (Asking i) → Ends (settle_uses us pend) (Asking i) words
      → Ends us pend (word ∷ words)
  end_name i name long is settles after e = record {
    uses = e.uses;
    «open» = e.«open»;
    is = ap (λ w. fold (walked rules []) w words) after ∙ e.is;
    more = λ ends.
        let m = e.more ends in
        let v = m.1.0 in
        let spelled = name_alone (Takes i) name long is in
        let two : IsUse (Given i v) (word ∷ v ∷ []) = inl (ap (λ w. w ∷ v ∷ []) spelled) in
        let spells : SpellsUses (word ∷ words) m.0 =
        subst (SpellsUses (word ∷ words)) (sym m.1.4) (word ∷ v ∷ [], m.1.1, ap (λ (l : List Text). word ∷ l) m.1.3, two, m.1.5) in (
          open_use pend m.0,
          opened us pend (word ∷ words) m.0 settles spells,
          m.2 ∙ open_uses us pend m.0,
          (λ once. subst AreOnce (open_uses us pend m.0) (m.3 (once_settled us pend settles once))),
        );
  }

  -- the text of the option that waits
  end_text : (i : Valued) → walked rules [] (stands us (Asking i)) word ≡ stands us (Holding i word) → Ends us (Holding i word) words
      → Ends us (Asking i) (word ∷ words)
  end_text i after e = record {
    uses = e.uses;
    «open» = e.«open»;
    is = ap (λ w. fold (walked rules []) w words) after ∙ e.is;
    more = λ ends. let m = e.more ends in (m.0, (word, words, m.1.0, refl, m.1.1, m.1.2), m.2, m.3);
  }

  end_turn : ((us' : List Use) (pend' : Pend) → walk_fault shape [] (stands us' pend') words ≡ [] → Ends us' pend' words)
      → walk_fault shape [] (walked rules [] (stands us pend) word) words ≡ []
      → Turns us pend word (walked rules [] (stands us pend) word) → Ends us pend (word ∷ words)
  end_turn next rest turn = elim turn [
    | Names (Takes i) (Some v) name long is kinds after ↦
        let spelled : IsUse (Given i v) (word ∷ []) = inr (ap (λ w. w ∷ []) (word_is word name (Some v) (Takes i) long is)) in
        end_one (Given i v) spelled kinds after (next _ _ (subst (λ w. walk_fault shape [] w words ≡ []) after rest))
    | Names (Takes i) None name long is kinds after ↦
        end_name i name long is kinds after (next _ _ (subst (λ w. walk_fault shape [] w words ≡ []) after rest))
    | Names Flag None name long is kinds after ↦
        let spelled : IsUse Flagged (word ∷ []) = ap (λ w. w ∷ []) (name_alone Flag name long is) in
        end_one Flagged spelled kinds after (next _ _ (subst (λ w. walk_fault shape [] w words ≡ []) after rest))
    | Names Flag (Some v) name long is kinds after ↦ let bad : kind.TooManyValues ∷ [] ≡ [] = kinds in absurd (cc)
    | Texts i asks after ↦
        let P : Pend → Type 0 = λ p. Ends us p (word ∷ words) in
        let asked = subst (λ p. walked rules [] (stands us p) word ≡ stands us (Holding i word)) asks after in
        subst P (sym asks) (end_text i asked (next _ _ (subst (λ w. walk_fault shape [] w words ≡ []) after rest)))
  ]

pub walk_back : (words : List Text) (us : List Use) (pend : Pend) → has_dashes words ≡ false → walk_fault shape [] (stands us pend) words ≡ []
    → Ends us pend words
unfolding walk_fault
walk_back [] us pend plain none = record {
  uses = us;
  «open» = pend;
  is = refl;
  more = λ kinds. (
    open_use pend [],
    opened us pend [] [] kinds refl,
    sym (append-nil (settle_uses us pend)) ∙ open_uses us pend [],
    λ once. subst AreOnce (sym (append-nil (settle_uses us pend)) ∙ open_uses us pend []) (once_settled us pend kinds once),
  );
}
walk_back (word ∷ words) us pend plain none =
    let words_plain = or_parts (bytes_eq word (codes "--")) (has_dashes words) plain in
    let turn = turn_back us pend word words_plain.0 (or_first (turn_fault shape [] (stands us pend) word) _ none) in
    end_turn us pend word words (λ us' pend' h. walk_back words us' pend' words_plain.1 h) (or_second (turn_fault shape [] (stands us pend) word) _ none) turn

-- ---- words that spell uses pass

-- the text can stand as a word of its own
abbrev pub IsGood : Text → Type 0
IsGood word = (bytes_eq word (codes "--") ≡ false) × (long_of word ≡ None) × (short_of word ≡ None)

abbrev pub AreGood : List Use → Type 0
AreGood [] = Unit {0}
AreGood (u ∷ us) = IsGood (text_of u) × AreGood us

-- the walk passes, and ends with these uses
pub record Passes (us : List Use) (pend : Pend) (words : List Text) (all : List Use) : Type 0 where
  pub fault : walk_fault shape [] (stands us pend) words ≡ []
  pub uses : List Use
  pub «open» : Pend
  pub is : fold (walked rules []) (stands us pend) words ≡ stands uses «open»
  pub settles : settle_kinds uses «open» ≡ []
  pub all_is : settle_uses uses «open» ≡ all

name_word : (i : Valued) (us : List Use) (pend : Pend) → settle_kinds us pend ≡ []
    → (turn_fault shape [] (stands us pend) (codes "--" ++ name_of (Takes i)) ≡ [])
    × (walked rules [] (stands us pend) (codes "--" ++ name_of (Takes i)) ≡ stands (settle_uses us pend) (Asking i))
name_word Wide us pend settles = names_on us pend (codes "--workers") (codes "workers") None (Takes Wide) refl refl refl settles
name_word Sampled us pend settles = names_on us pend (codes "--sample") (codes "sample") None (Takes Sampled) refl refl refl settles

-- the word isn't refused, and the use is then the last one
abbrev Turned : List Use → Pend → Use → Text → Type 0
Turned us pend u word =
    (turn_fault shape [] (stands us pend) word ≡ []) × (walked rules [] (stands us pend) word ≡ stands (settle_uses us pend ++ u ∷ []) Resting)

-- a use that is spelled in one word
one_word : (u : Use) (word : Text) (us : List Use) (pend : Pend) → IsUse u (word ∷ [])
    → or_else (settle_kinds us pend) (clash (has (option_of u) (settle_uses us pend))) ≡ [] → Turned us pend u word
one_word (Given i v) word us pend (inl two) kinds = cc (two)
one_word (Given i v) word us pend (inr one) kinds =
    let P : Text → Type 0 = Turned us pend (Given i v) in
    let is : word ≡ codes "--" ++ (name_of (Takes i) ++ 61 ∷ v) = cc (one) in
    subst P (sym is) (valued i kinds)
  where
    valued : (j : Valued) → or_else (settle_kinds us pend) (clash (has (Takes j) (settle_uses us pend))) ≡ []
        → Turned us pend (Given j v) (codes "--" ++ (name_of (Takes j) ++ 61 ∷ v))
    valued Wide kinds = names_on us pend (codes "--workers=" ++ v) (codes "workers") (Some v) (Takes Wide) refl refl refl kinds
    valued Sampled kinds = names_on us pend (codes "--sample=" ++ v) (codes "sample") (Some v) (Takes Sampled) refl refl refl kinds
one_word Flagged word us pend one kinds =
    let P : Text → Type 0 = Turned us pend Flagged in
    let is : word ≡ codes "--orderly" = cc (one) in
    subst P (sym is) (names_on us pend (codes "--orderly") (codes "orderly") None Flag refl refl refl kinds)

both_nil : (k x : Kinds) → k ≡ [] → x ≡ [] → or_else k x ≡ []
both_nil [] x e f = f
both_nil (a ∷ k) x e f = cc

one_pass : (word : Text) (words : List Text) (us us' : List Use) (pend pend' : Pend) (all : List Use) → turn_fault shape [] (stands us pend) word ≡ []
    → walked rules [] (stands us pend) word ≡ stands us' pend' → Passes us' pend' words all → Passes us pend (word ∷ words) all
unfolding walk_fault
one_pass word words us us' pend pend' all turn after p = record {
  fault =
      both_nil (turn_fault shape [] (stands us pend) word) (walk_fault shape [] (walked rules [] (stands us pend) word) words) turn
      (subst (λ w. walk_fault shape [] w words ≡ []) (sym after) p.fault);
  uses = p.uses;
  «open» = p.«open»;
  is = ap (λ w. fold (walked rules []) w words) after ∙ p.is;
  settles = p.settles;
  all_is = p.all_is;
}

module _ (rest : List Text) (us : List Use) (pend : Pend) (more : List Use) (settles : settle_kinds us pend ≡ []) where
  -- a use in one word
  pass_one : (u : Use) (word : Text) → IsUse u (word ∷ []) → has (option_of u) (settle_uses us pend) ≡ false
      → Passes (settle_uses us pend ++ u ∷ []) Resting rest ((settle_uses us pend ++ u ∷ []) ++ more)
      → Passes us pend (word ∷ rest) (settle_uses us pend ++ u ∷ more)
  pass_one u word spelled fresh after =
      let turn = one_word u word us pend spelled (both_nil (settle_kinds us pend) _ settles (ap clash fresh)) in
      subst (λ all. Passes us pend (word ∷ rest) all) (append_assoc (settle_uses us pend) (u ∷ []) more)
      (one_pass word rest us (settle_uses us pend ++ u ∷ []) pend Resting _ turn.0 turn.1 after)

  -- a use in two words
  pass_two : (i : Valued) (v : Text) → IsGood v → Passes (settle_uses us pend) (Holding i v) rest ((settle_uses us pend ++ Given i v ∷ []) ++ more)
      → Passes us pend ((codes "--" ++ name_of (Takes i)) ∷ v ∷ rest) (settle_uses us pend ++ Given i v ∷ more)
  pass_two i v good after =
      let now : List Use = settle_uses us pend in
      let name = name_word i us pend settles in
      let text = text_on now i v good.0 good.1 good.2 in
      subst (λ all. Passes us pend ((codes "--" ++ name_of (Takes i)) ∷ v ∷ rest) all) (append_assoc now (Given i v ∷ []) more)
      (one_pass (codes "--" ++ name_of (Takes i)) (v ∷ rest) us now pend (Asking i) _ name.0 name.1
      (one_pass v rest now now (Asking i) (Holding i v) _ text.0 text.1 after))

pub walk_on : (more : List Use) (words : List Text) (us : List Use) (pend : Pend) → SpellsUses words more → AreGood more → settle_kinds us pend ≡ []
    → AreOnce (settle_uses us pend ++ more) → Passes us pend words (settle_uses us pend ++ more)
unfolding walk_fault
walk_on [] words us pend spells good settles once =
    let P : List Text → Type 0 = λ w. Passes us pend w (settle_uses us pend ++ []) in
    subst P (sym spells) (record { fault = refl; uses = us; «open» = pend; is = refl; settles = settles; all_is = sym (append-nil (settle_uses us pend)) })
walk_on (Given i v ∷ more) words us pend spells good settles once =
    let now : List Use = settle_uses us pend in
    let rest : List Text = spells.1 in
    let fresh : has (Takes i) now ≡ false = once_mid (Given i v) now more once in
    let once' : AreOnce ((now ++ Given i v ∷ []) ++ more) = subst AreOnce (sym (append_assoc now (Given i v ∷ []) more)) once in
    let P : List Text → Type 0 = λ w. Passes us pend w (now ++ Given i v ∷ more) in
    elim spells.3 [
      | inl two ↦
          let after : Passes now (Holding i v) rest ((now ++ Given i v ∷ []) ++ more) =
          walk_on more rest now (Holding i v) spells.4 good.1 (ap clash fresh) once' in
          subst P (sym (spells.2 ∙ ap (λ f. f ++ rest) two)) (pass_two rest us pend more settles i v good.0 after)
      | inr one ↦
          let after : Passes (now ++ Given i v ∷ []) Resting rest ((now ++ Given i v ∷ []) ++ more) =
          walk_on more rest (now ++ Given i v ∷ []) Resting spells.4 good.1 refl once' in
          subst P (sym (spells.2 ∙ ap (λ f. f ++ rest) one)) (pass_one rest us pend more settles (Given i v) _ (inr refl) fresh after)
    ]
walk_on (Flagged ∷ more) words us pend spells good settles once =
    let now : List Use = settle_uses us pend in
    let rest : List Text = spells.1 in
    let fresh : has Flag now ≡ false = once_mid Flagged now more once in
    let once' : AreOnce ((now ++ Flagged ∷ []) ++ more) = subst AreOnce (sym (append_assoc now (Flagged ∷ []) more)) once in
    let P : List Text → Type 0 = λ w. Passes us pend w (now ++ Flagged ∷ more) in
    let after : Passes (now ++ Flagged ∷ []) Resting rest ((now ++ Flagged ∷ []) ++ more) =
    walk_on more rest (now ++ Flagged ∷ []) Resting spells.4 good.1 refl once' in
    subst P (sym (spells.2 ∙ ap (λ f. f ++ rest) spells.3)) (pass_one rest us pend more settles Flagged (codes "--orderly") refl fresh after)

-- ---- after the walk

abbrev built_app : App
built_app = built macek_app

abbrev by_end : Kinds → Walk → Kinds
by_end k e = or_else k
    (or_else (entered_fault built_app e.stopped)
    (or_else (settle_fault rules false e.held)
    (or_else (defaults_fault (settled rules e.held).rows rules) (check_fault shape (finished rules e.held) (is_some (entered built_app e.stopped))))))

fault_is : (words : List Text)
    → fault_of macek_app words ≡ by_end (walk_fault shape [] (stands [] Resting) words) (fold (walked rules []) (stands [] Resting) words)
fault_is words = refl

matches_are : (words : List Text) → matches_of macek_app words ≡ finished rules (fold (walked rules []) (stands [] Resting) words).held
matches_are words = refl

or_true : {X : Type 0} (b : Bool) (x y : X) → (if b || true then x else y) ≡ x
or_true true x y = refl
or_true false x y = refl

or_false : {X : Type 0} (b : Bool) (x : X) → (if b || false then x else x) ≡ x
or_false true x = refl
or_false false x = refl

defaults_none : (rows : List Row) → defaults_fault rows rules ≡ []
unfolding defaults_fault
defaults_none rows =
    let rows' = with_default rows (rule_for (Takes Wide)) in
    both_nil _ _ (or_true (has_row (codes "workers") rows) [] _)
    (both_nil _ _ (or_true (has_row (codes "sample") rows') [] _)
    (both_nil _ _ (or_false (has_row (codes "orderly") (with_default rows' (rule_for (Takes Sampled)))) []) refl))

check_none : (rows : List Row) → check_fault shape rows false ≡ []
check_none rows = refl

either_same : {X : Type 0} (b : Bool) (x : X) → (if b then x else x) ≡ x
either_same true x = refl
either_same false x = refl

default_is : (rows : List Row) → fold with_default rows rules ≡ with_default rows (rule_for Flag)
default_is rows = ap (λ rs. with_default rs (rule_for Flag))
    (ap (λ rs. with_default rs (rule_for (Takes Sampled))) (either_same (has_row (codes "workers") rows) rows)
    ∙ either_same (has_row (codes "sample") rows) rows)

-- a flag that isn't used is there at the end
flag_default : (us : List Use) → with_default (map row_for us) (rule_for Flag) ≡ rows_for us
flag_default us =
    ap (λ b. if b then map row_for us else at_row (codes "orderly") (more_values DefaultValue (codes "false" ∷ [])) (unused_row ∷ []) (map row_for us))
    (has_row_is Flag us) ∙ go (has Flag us) refl
  where
    go : (b : Bool) → has Flag us ≡ b
        → (if b then map row_for us else at_row (codes "orderly") (more_values DefaultValue (codes "false" ∷ [])) (unused_row ∷ []) (map row_for us))
        ≡ map row_for us ++ rest_for b
    go true is = sym (append-nil (map row_for us))
    go false is = absent_at Flag (more_values DefaultValue (codes "false" ∷ [])) (unused_row ∷ []) us is

or_empty : (k x : Kinds) → x ≡ [] → or_else k x ≡ k
or_empty [] x e = e
or_empty (a ∷ k) x e = refl

end_is : (k : Kinds) (us : List Use) (pend : Pend) → by_end k (stands us pend) ≡ or_else k (settle_kinds us pend)
end_is k us pend = ap (or_else k)
    (or_empty (settle_fault rules false (held us pend)) _
    (both_nil _ _ (defaults_none (settled rules (held us pend)).rows) (check_none (finished rules (held us pend)))) ∙ settle_is us pend)

rows_are : (us : List Use) (pend : Pend) → settle_kinds us pend ≡ [] → finished rules (held us pend) ≡ rows_for (settle_uses us pend)
rows_are us pend settles =
    default_is (settled rules (held us pend)).rows
    ∙ ap (λ (h : Held). with_default h.rows (rule_for Flag)) (settled_is us pend settles) ∙ flag_default (settle_uses us pend)

-- words that `clap` takes spell uses, each option once at most, and these are its matches
pub words_back : (words : List Text) → has_dashes words ≡ false → fault_of macek_app words ≡ []
    → (all : List Use) × SpellsUses words all × AreOnce all × (matches_of macek_app words ≡ rows_for all)
words_back words plain none =
    let k : Kinds = walk_fault shape [] (stands [] Resting) words in
    let walks : k ≡ [] = or_first k _ (sym (fault_is words) ∙ none) in
    let ends = walk_back words [] Resting plain walks in
    let settles : settle_kinds ends.uses ends.«open» ≡ [] =
    or_second k _ (sym (end_is k ends.uses ends.«open») ∙ ap (by_end k) (sym ends.is) ∙ sym (fault_is words) ∙ none) in
    let m = ends.more settles in (
      m.0,
      m.1,
      m.3 tt,
      matches_are words ∙ ap (λ (w : Walk). finished rules w.held) ends.is ∙ rows_are ends.uses ends.«open» settles ∙ ap rows_for m.2,
    )

-- words that spell uses, each option once at most, with texts that can stand alone, are taken by `clap`
pub words_on : (words : List Text) (all : List Use) → SpellsUses words all → AreGood all → AreOnce all
    → (fault_of macek_app words ≡ []) × (matches_of macek_app words ≡ rows_for all)
words_on words all spells good once =
    let p : Passes [] Resting words all = walk_on all words [] Resting spells good refl once in (
      fault_is words ∙ ap₂ by_end p.fault p.is ∙ end_is [] p.uses p.«open» ∙ p.settles,
      matches_are words ∙ ap (λ (w : Walk). finished rules w.held) p.is ∙ rows_are p.uses p.«open» p.settles ∙ ap rows_for p.all_is,
    )
