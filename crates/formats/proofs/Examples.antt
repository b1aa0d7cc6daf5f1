-- Worked examples, computed by the checker.
use Rattle.std.proofs.Common.{◌≡◌, ℕ, List, [], ◌∷◌, true, false, None, refl}
use Rattle.std.specs.Prelude.{codes}
use Rattle.std.specs.Fmt.{digits}
use Rattle.matroid_theory.specs.declared.Mode.TheVariants.{Semilinear}
use Rattle.formats.specs.declared.refusal.PrintMode.TheVariants.{Counts}
use Rattle.formats.specs.declared.refusal.Refusal.TheVariants.{Twice}
use Rattle.formats.specs.declared.refusal.Status.TheVariants.{Refused}
use Rattle.formats.specs.Lines.{lines_of, statements_of}
use Rattle.formats.specs.Statement.{Uniform, Fano}
use Rattle.formats.specs.Request.{Request, version_of, column_count}
use Rattle.formats.specs.Listing.{Form, head_text, level_text, form_text}
use Rattle.formats.specs.Words.{sample_text}
use Rattle.formats.specs.Status.{refusal_text, refused_text}

-- the head of a listing
request : Request
request = record {
  factors = 2 ∷ 3 ∷ [];
  rank = 4;
  size = 11;
  forbid = Uniform 2 5 ∷ Fano ∷ [];
  connected = false;
  three_connected = true;
  cosimple = false;
  distinct = false;
  has = None;
  print = Counts;
  mode = Semilinear;
  version = 1;
}

head : head_text request ≡ codes "macek listing 1\nversion 1\nfield 2 x 3\nrank 4\nsize 11\nequivalence semilinear\nforbid U2,5\nforbid F7\nfilter 3conn\nprint counts\n"
unfolding head_text request digits
head = refl

-- the line of a level
level : level_text 4 2 1 13 ≡ codes "level 4 classes 2 listed 1 tried 13\n"
unfolding level_text digits
level = refl

-- the form with the columns 10 01 11 over GF(2) and 10 01 12 over GF(3)
form : Form
form = ((1 ∷ 0 ∷ []) ∷ (0 ∷ 1 ∷ []) ∷ (1 ∷ 1 ∷ []) ∷ []) ∷ ((1 ∷ 0 ∷ []) ∷ (0 ∷ 1 ∷ []) ∷ (1 ∷ 2 ∷ []) ∷ []) ∷ []

form_line : form_text form ≡ codes "10 01 11 | 10 01 12\n"
unfolding form_text form
form_line = refl

-- the sample that forbids F7 and K4
sample : sample_text 5 ≡ codes "version 1\nfield 2\nrank 4\nsize 15\nforbid F7\nforbid K4\nprint counts\n"
unfolding digits
sample = refl

-- a text with a carriage return, a comment, an empty line, a tab and no line feed at its end
text : List ℕ
text = codes "field 2\r\n# why\n\n rank\t3"

lines : lines_of text ≡ codes "field 2" ∷ codes "# why" ∷ [] ∷ codes " rank\t3" ∷ []
unfolding text
lines = refl

statements : statements_of (lines_of text) ≡ (codes "field" ∷ codes "2" ∷ []) ∷ (codes "rank" ∷ codes "3" ∷ []) ∷ []
unfolding text
statements = refl

-- a line feed at the end begins no line
last_line : lines_of (codes "size 4\n") ≡ codes "size 4" ∷ []
last_line = refl

-- `version 2` counts where no other line stands before it
second : version_of (codes "# why\n version 2\nrank 3\n") ≡ 2
second = refl

too_late : version_of (codes "rank 2\nversion 2\n") ≡ 1
too_late = refl

-- the columns of rank 6 over three factors of order 9, and over one
columns_of_three : column_count 6 (9 ∷ 9 ∷ 9 ∷ []) ≡ 35598707465734
columns_of_three = refl

columns_of_one : column_count 6 (9 ∷ []) ≡ 66430
columns_of_one = refl

-- a request that says a thing twice in its line 4
twice : refusal_text (Refused (Twice 4)) ≡ codes "macek: refused 3: line 4 says a thing twice\n"
unfolding refusal_text refused_text digits
twice = refl
