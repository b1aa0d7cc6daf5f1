use Rattle.std.proofs.Common.{◌≡◌, ◌<◌, ◌/◌, ◌%◌, ℕ, length, slice_index}
use Rattle.ask_run.specs.Layouts.{HasEntry}
use Rattle.ask_run.specs.Texts.{texts_of}
use Rattle.ask_run.proofs.entry.column_in.Given as goal

abbrev pub invariant-loop-at : goal.invariant-loop-at
invariant-loop-at l =
    record {
      rows : length l.column.items ≡ l.at;
      entries : (k : ℕ) → k < l.at → (slice_index l.column.items k < slice_index l.factors (k % l.layout.factors))
          × HasEntry (texts_of l.words) l.layout (k % l.layout.factors) (k / l.layout.factors) l.j (slice_index l.column.items k);
    }
