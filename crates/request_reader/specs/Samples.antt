-- The minors of a sample.
use Rattle.std.specs.Prelude.{List, [], ◌∷◌, Bool, true, false}
use Rattle.formats.specs.Statement.{MinorName}

-- the minor where it is asked for
abbrev pub where_named : Bool → MinorName → List MinorName
where_named true minor = minor ∷ []
where_named false minor = []
