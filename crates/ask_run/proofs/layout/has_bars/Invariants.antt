use Rattle.std.proofs.Common.{◌≡◌, ◌<◌, ℕ}
use Rattle.std.specs.Prelude.{codes}
use Rattle.ask_formats.specs.Places.{word_at, column_place}
use Rattle.ask_run.specs.Texts.{texts_of}
use Rattle.ask_run.proofs.layout.has_bars.Given as goal

abbrev pub invariant-loop-factor : goal.invariant-loop-factor
invariant-loop-factor l = (f : ℕ) → f < l.factor → word_at (texts_of l.words) (column_place l.factors l.columns f l.columns) ≡ codes "|"
