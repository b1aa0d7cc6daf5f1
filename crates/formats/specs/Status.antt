-- The numbers and the texts of the statuses.
use Rattle.std.specs.Prelude.{ℕ, List, [], ◌++◌, codes, decimal}
use Rattle.formats.specs.declared.refusal.Word.{Word}
use Rattle.formats.specs.declared.refusal.Word.TheVariants.{Rank, Field, Size}
use Rattle.formats.specs.declared.refusal.Refusal.{Refusal}
use Rattle.formats.specs.declared.refusal.Refusal.TheVariants as refusal
use Rattle.formats.specs.declared.refusal.Status.{Status}
use Rattle.formats.specs.declared.refusal.Status.TheVariants.{Done, Usage, Refused, ReadFault, WriteFault, NoMemory}

abbrev pub status_number : Status → ℕ
status_number Done = 0
status_number Usage = 2
status_number (Refused why) = 3
status_number ReadFault = 4
status_number WriteFault = 5
status_number NoMemory = 6

abbrev pub word_text : Word → List ℕ
word_text Rank = codes "macek: refused 4: no line rank\n"
word_text Field = codes "macek: refused 4: no line field\n"
word_text Size = codes "macek: refused 4: no line size\n"

unfoldable pub refused_text : Refusal → List ℕ
refused_text refusal.TooLong = codes "macek: refused 1: longer than 65536 bytes\n"
refused_text (refusal.BadLine n) = codes "macek: refused 2: line " ++ decimal n ++ codes " is not a request line\n"
refused_text (refusal.Twice n) = codes "macek: refused 3: line " ++ decimal n ++ codes " says a thing twice\n"
refused_text (refusal.Missing word) = word_text word
refused_text (refusal.Rank v) = codes "macek: refused 5: rank " ++ decimal v ++ codes " is not from 1 to 6\n"
refused_text (refusal.Size v) = codes "macek: refused 6: size " ++ decimal v ++ codes " is not from the rank to 16\n"
refused_text (refusal.TooWide c) = codes "macek: refused 7: " ++ decimal c ++ codes " columns are more than 1000000\n"
refused_text (refusal.TooManyForbidden n) = codes "macek: refused 8: line " ++ decimal n ++ codes " is the ninth forbid line\n"
refused_text (refusal.ForbidTooBig n) = codes "macek: refused 9: line " ++ decimal n ++ codes " has more than 10 elements\n"

unfoldable pub refusal_text : Status → List ℕ
refusal_text Done = []
refusal_text Usage = codes "macek: usage: [--workers N] [--sample K]\n"
refusal_text (Refused why) = refused_text why
refusal_text ReadFault = codes "macek: the input could not be read\n"
refusal_text WriteFault = codes "macek: the listing could not be written\n"
refusal_text NoMemory = codes "macek: out of memory\n"
