-- The bytes of a level where all its forms are listed.
use Rattle.std.specs.Prelude.{ℕ, List, ◌++◌, map, length}
use Rattle.std.specs.List.{concat}
use Rattle.matroid_theory.specs.Rep.{Rep}
use Rattle.formats.specs.Listing.{level_text, form_text}
use Rattle.formats.specs.Levels.{columns_of}
use Rattle.level_driver.specs.declared.level.Level.{Level}

-- the line of a form
abbrev pub form_line : Rep → List ℕ
form_line form = form_text (columns_of form)

abbrev pub form_lines : List Rep → List ℕ
form_lines forms = concat (map form_line forms)

-- the bytes of the level of a size, where all its forms are listed
abbrev pub level_bytes : ℕ → Level → List ℕ
level_bytes n level = level_text n (length level.forms) (length level.forms) level.tried ++ form_lines level.forms
