use Rattle.std.proofs.Common.{◌≡◌, ◌≤◌, ◌^◌, ◌-◌, map, take}
use Rattle.formats.specs.Request.{product_of}
use Rattle.request_reader.proofs.columns.entry_count.Given as goal

abbrev pub invariant-loop-i : goal.invariant-loop-i
invariant-loop-i l =
    record {
      value : l.entries ≡ product_of (map (λ q. q - 1) (take l.i l.factors));
      few : l.entries ≤ 12 ^ l.i;
    }
