use Rattle.std.proofs.Common.{◌≡◌, ◌++◌, ℕ, List, ◌-◌, ◌<◌, length, slice_index}
use Rattle.formats.specs.Lines.{words_of}
use Rattle.request_lines.specs.Spellings.{factor_words}
use Rattle.request_lines.specs.Versions.{version_number, IsOrderIn, AreFactorsIn}
use Rattle.request_lines.proofs.FieldLines.{begun, AreLeft}
use Rattle.request_lines.proofs.field_line.factors_of.Given as goal

abbrev pub invariant-loop-word : goal.invariant-loop-word
invariant-loop-word l =
    record {
      fields : (f : ℕ) → f < length l.orders.items → IsOrderIn (version_number l.version) (slice_index l.orders.items f);
      spelled : words_of l.fn.rest ≡ begun l.orders.items ++ words_of l.left;
      others : (factors : List ℕ) → AreFactorsIn (version_number l.version) factors → words_of l.fn.rest ≡ factor_words factors →
          AreLeft (version_number l.version) (length l.orders.items) factors (words_of l.left);
    }

abbrev pub decreases-loop-word : goal.decreases-loop-word
decreases-loop-word l = 3 - length l.orders.items
