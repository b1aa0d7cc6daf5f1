use Rattle.std.proofs.Common.{◌≡◌, ◌*◌, ◌≤◌, length, map, codes}
use Rattle.std.specs.List.{range_with_len}
use Rattle.formats.specs.Lines.{joined}
use Rattle.formats.specs.Levels.{columns_of_factor}
use Rattle.formats.specs.Listing.{factor_text}
use Rattle.lister.proofs.form.form_text.Given as goal

abbrev pub invariant-loop-factor : goal.invariant-loop-factor
invariant-loop-factor l = record {
  so_far : l.line.items ≡ joined (codes " | ") (map (λ f. factor_text (columns_of_factor l.rep f)) (range_with_len 0 l.factor));
  room : length l.line.items ≤ 115 * l.factor;
}
