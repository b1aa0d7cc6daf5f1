use Rattle.std.proofs.Common.{take}
use Rattle.std.specs.List.{All}
use Rattle.extension.specs.Planes.{IsAlikeAt}
use Rattle.extension.proofs.agreement.refusing_rows.Given as goal

-- the planes before this one
abbrev pub invariant-loop-plane : goal.invariant-loop-plane
invariant-loop-plane l = All (IsAlikeAt l.rep l.new.items) (take l.plane-index l.planes)
