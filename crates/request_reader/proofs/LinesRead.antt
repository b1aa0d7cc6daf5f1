-- The lines of a text that were read so far, and one line more.
use Rattle.std.proofs.Common.{◌≡◌, ◌∙◌, ℕ, ◌+◌, ◌<◌, ◌≤◌, Bool, true, false, not, cond, List, [], ◌∷◌, ◌++◌, length, refl, sym, ap, subst, arith, append_assoc, length-append}
use Rattle.std.proofs.lemmas.List.{append-nil, map-append}
use Rattle.list_lemmas.proofs.Lists.{all_push}
use Rattle.formats.specs.Lines.{lines_of, words_of, is_skipped, statements_of}
use Rattle.formats.specs.Statement.{Statement, Says, IsStatement, IsOfVersion, spelling}
use Rattle.formats.specs.Request.{version_of, SayInTurn}
use Rattle.formats.specs.Refusal.{Fault, Again, NinthForbid, TooBig, HasFault, FirstFault, HasRefusal}
use Rattle.formats.proofs.Unique.{statements_split}
use Rattle.request_reader.specs.declared.values.Values.{Values}
use Rattle.request_reader.specs.declared.values.Wrong.{Wrong}
use Rattle.request_reader.specs.declared.values.Wrong.TheVariants as wrong
use Rattle.request_reader.specs.Wrongs.{IsWrong, refusal_at}
use Rattle.request_reader.specs.Values.{Holds, AreSaid}

-- so many lines were read, they say entries with these values, and the rest is left
pub record HasRead (version : ℕ) (text : List ℕ) (values : Values) (number : ℕ) (rest : List ℕ) : Type 0 where
  pub short : length text ≤ 65536
  pub is_version : version ≡ version_of text
  pub before : List (List ℕ)
  pub entries : List Statement
  pub split : lines_of text ≡ before ++ lines_of rest
  pub says : SayInTurn version before entries
  pub holds : Holds entries values
  pub place : number ≡ length before
  pub few : number + length rest ≤ 65536

-- the next line, and what follows it
pub record IsNext (rest line after : List ℕ) : Type 0 where
  pub lines : lines_of rest ≡ line ∷ lines_of after
  pub shorter : length after < length rest

-- nothing was read at the start
pub start_read : (version : ℕ) (text : List ℕ) (values : Values) → length text ≤ 65536 → version ≡ version_of text →
    Holds [] values → HasRead version text values 0 text
start_read version text values short is_version none = record {
  short = short;
  is_version = is_version;
  before = [];
  entries = [];
  split = refl;
  says = record { may = tt; of_version = tt; spelled = refl };
  holds = none;
  place = refl;
  few = omega arith;
}

-- a skipped line says nothing
statements_skipped : (before : List (List ℕ)) (line : List ℕ) → is_skipped (words_of line) ≡ true → statements_of (before ++ line ∷ []) ≡ statements_of before
statements_skipped [] line skip = ap (λ (b : Bool). cond (not b) (words_of line ∷ []) []) skip
statements_skipped (x ∷ before) line skip =
    ap (λ (l : List (List (List ℕ))). cond (not (is_skipped (words_of x))) (words_of x ∷ l) l) (statements_skipped before line skip)

-- what was read, and its number, after one line more
split_next : (text : List ℕ) (before : List (List ℕ)) (rest line after : List ℕ) → lines_of text ≡ before ++ lines_of rest →
    lines_of rest ≡ line ∷ lines_of after → lines_of text ≡ (before ++ line ∷ []) ++ lines_of after
split_next text before rest line after e f = e ∙ ap (λ (l : List (List ℕ)). before ++ l) f ∙ sym (append_assoc before (line ∷ []) (lines_of after))

place_next : (before : List (List ℕ)) (line : List ℕ) (number : ℕ) → number ≡ length before → number + 1 ≡ length (before ++ line ∷ [])
place_next before line number e = let l : length (before ++ line ∷ []) ≡ length before + 1 = length-append before (line ∷ []) in omega arith

-- after a line that is skipped, and one that says something new
pub skip_line : (version : ℕ) (text : List ℕ) (values : Values) (number : ℕ) (rest line after : List ℕ) →
    HasRead version text values number rest → IsNext rest line after → is_skipped (words_of line) ≡ true →
    HasRead version text values (number + 1) after
skip_line version text values number rest line after h n skip = record {
  short = h.short;
  is_version = h.is_version;
  before = h.before ++ line ∷ [];
  entries = h.entries;
  split = split_next text h.before rest line after h.split n.lines;
  says = record { may = h.says.may; of_version = h.says.of_version; spelled = statements_skipped h.before line skip ∙ h.says.spelled };
  holds = h.holds;
  place = place_next h.before line number h.place;
  few = omega (arith, h.few, n.shorter);
}

pub say_line : (version : ℕ) (text : List ℕ) (values more : Values) (number : ℕ) (rest line after : List ℕ) (e : Statement) →
    HasRead version text values number rest → IsNext rest line after → is_skipped (words_of line) ≡ false →
    Says version (words_of line) e → ((entries : List Statement) → Holds entries values → Holds (entries ++ e ∷ []) more) →
    HasRead version text more (number + 1) after
say_line version text values more number rest line after e h n counts says with_it = record {
  short = h.short;
  is_version = h.is_version;
  before = h.before ++ line ∷ [];
  entries = h.entries ++ e ∷ [];
  split = split_next text h.before rest line after h.split n.lines;
  says = record {
    may = all_push IsStatement h.entries e h.says.may says.may;
    of_version = all_push (IsOfVersion version) h.entries e h.says.of_version says.of_version;
    spelled = statements_split h.before line [] counts ∙ (λ i. h.says.spelled i ++ says.spelled i ∷ []) ∙ sym (map-append spelling h.entries (e ∷ []));
  };
  holds = with_it h.entries h.holds;
  place = place_next h.before line number h.place;
  few = omega (arith, h.few, n.shorter);
}

-- the next line is the first at fault
fault_here : (version : ℕ) (text : List ℕ) (values : Values) (number : ℕ) (rest line after : List ℕ)
    (h : HasRead version text values number rest) → IsNext rest line after → is_skipped (words_of line) ≡ false → (fault : Fault) →
    HasFault version h.entries (words_of line) fault → FirstFault text (number + 1) fault
fault_here version text values number rest line after h n counts fault wrong = record {
  short = h.short;
  before = h.before;
  line = line;
  after = lines_of after;
  split = h.split ∙ ap (λ (l : List (List ℕ)). h.before ++ l) n.lines;
  place = ap (λ (k : ℕ). k + 1) h.place;
  said = h.entries;
  says = subst (λ (v : ℕ). SayInTurn v h.before h.entries) h.is_version h.says;
  in_order = h.holds.in_order;
  counts = counts;
  wrong = subst (λ (v : ℕ). HasFault v h.entries (words_of line) fault) h.is_version wrong;
}

-- the text is refused for the next line
pub wrong_line : (version : ℕ) (text : List ℕ) (values : Values) (number : ℕ) (rest line after : List ℕ) (e : Statement)
    (w : Wrong) → HasRead version text values number rest → IsNext rest line after → is_skipped (words_of line) ≡ false →
    Says version (words_of line) e → ((entries : List Statement) → Holds entries values → IsWrong entries e w) →
    HasRefusal text (refusal_at w (number + 1))
wrong_line version text values number rest line after e w h n counts says is = by w (is h.entries h.holds)
  where
    by : (w : Wrong) → IsWrong h.entries e w → HasRefusal text (refusal_at w (number + 1))
    by wrong.Again i = fault_here version text values number rest line after h n counts Again (e, says, i.0, i.1)
    by wrong.NinthForbid i = fault_here version text values number rest line after h n counts NinthForbid (e, says, i.0, i.1)
    by wrong.TooBig i = fault_here version text values number rest line after h n counts TooBig (e, says, i.0, i.1)

-- where nothing is left, all lines were read
pub all_read : (version : ℕ) (text : List ℕ) (values : Values) (number : ℕ) (rest : List ℕ) → HasRead version text values number rest → length rest ≡ 0
    → AreSaid text values
all_read version text values number [] h none =
    let all : lines_of text ≡ h.before = h.split ∙ append-nil h.before in
    record {
      entries = h.entries;
      none = record {
        short = h.short;
        said = subst (λ (v : ℕ). SayInTurn v (lines_of text) h.entries) h.is_version
            (subst (λ (ls : List (List ℕ)). SayInTurn version ls h.entries) (sym all) h.says);
        in_order = h.holds.in_order;
      };
      holds = h.holds;
    }
all_read version text values number (b ∷ rest) h none = absurd (omega arith)
