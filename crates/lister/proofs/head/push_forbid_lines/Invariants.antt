use Rattle.std.proofs.Common.{◌≡◌, ◌+◌, ◌*◌, ◌≤◌, ◌++◌, length, map, take}
use Rattle.formats.specs.Statement.{Forbids}
use Rattle.formats.specs.Listing.{text_of_statements}
use Rattle.request_reader.specs.Requested.{minors_of}
use Rattle.lister.proofs.head.push_forbid_lines.Given as goal

abbrev pub invariant-loop-item : goal.invariant-loop-item
invariant-loop-item l = record {
  so_far : l.head.items ≡ l.initial.head.items ++ text_of_statements (map Forbids (minors_of (take l.item-index l.items)));
  room : length l.head.items ≤ length l.initial.head.items + 88 * l.item-index;
}
