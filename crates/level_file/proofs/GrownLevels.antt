-- What the listing tells of a level that was grown, where there is no filter and forms are printed.
use Rattle.std.proofs.Common.{◌≡◌, ◌∙◌, ℕ, List, [], ◌∷◌, ◌++◌, map, length, false, Bool, Option, None, Some, refl, ap}
use Rattle.std.specs.Prelude.{option_to_list, IsTrue, IfSome}
use Rattle.std.specs.List.{concat}
use Rattle.std.proofs.lemmas.List.{length-map}
use Rattle.matroid_theory.specs.Rep.{Rep}
use Rattle.matroid_theory.specs.Minor.{Matroid, IsMinor}
use Rattle.matroid_theory.specs.Level.{Family, Filters, IsLevel, IsListed, Passes}
use Rattle.formats.specs.declared.refusal.PrintMode.{PrintMode}
use Rattle.formats.specs.Statement.{MinorName}
use Rattle.formats.specs.Request.{Request, StandsFor}
use Rattle.formats.specs.Minors.{given_as}
use Rattle.formats.specs.Listing.{LevelEntry, level_text, form_text, level_pieces}
use Rattle.formats.specs.Levels.{columns_of, AreGivenBy, Keeps, IsLevelEntry}
use Rattle.request_laws.proofs.Listings.{stands_names, family_exists, filters_exist}
use Rattle.level_driver.specs.declared.level.Level.{Level}
use Rattle.resume_formats.specs.Cut.{ListsAllForms}
use Rattle.level_driver.specs.Grown.{IsGrown}
use Rattle.level_file.specs.Grown.{form_line, level_bytes}

-- what the listing tells of it
abbrev pub entry_of : ℕ → Level → LevelEntry
entry_of n level = record { size = n; classes = length level.forms; listed = map columns_of level.forms; tried = level.tried }

not_asked : (b c : Bool) → b ≡ c → c ≡ false → IsTrue b → ⊥
not_asked b c same off on = let e : b ≡ false = same ∙ off in cc (e, on)

none_wanted : (M : Rep) (wanted : Option MinorName) (has : Option Matroid) →
    AreGivenBy (map given_as (option_to_list wanted)) (option_to_list has) → wanted ≡ None
    → IfSome has (λ N. IsMinor N M)
none_wanted M None None given none = tt
none_wanted M None (Some N) given none = absurd given
none_wanted M (Some name) has given none = cc (none)

module _ (q : Request) (all : ListsAllForms q) where
  -- each form passes
  all_pass : (family : Family) (filters : Filters) (n : ℕ) (M : Rep) → Keeps q filters → Passes family n filters M
  all_pass family filters n M keeps = record {
    connected = λ on. absurd (not_asked filters.connected q.connected keeps.connected all.connected on);
    three = λ on. absurd (not_asked filters.three q.three_connected keeps.three all.three_connected on);
    cosimple = λ on. absurd (not_asked filters.cosimple q.cosimple keeps.cosimple all.cosimple on);
    has = none_wanted M q.has filters.has keeps.has all.has;
    distinct = λ on. absurd (not_asked filters.distinct q.distinct keeps.distinct all.distinct on);
  }

  all_listed : (family : Family) (filters : Filters) (n : ℕ) (forms : List Rep) → Keeps q filters → IsLevel family n forms → IsListed family n filters forms
  all_listed family filters n forms keeps level = record {
    rising = level.rising;
    exact = λ M. let e = level.exact M in (λ at. (e.0 at, all_pass family filters n M keeps), λ both. e.1 both.0);
  }

  lines_of_columns : (forms : List Rep) → map form_text (map columns_of forms) ≡ map form_line forms
  lines_of_columns [] = refl
  lines_of_columns (form ∷ forms) = ap (λ (lines : List (List ℕ)). form_line form ∷ lines) (lines_of_columns forms)

  -- its pieces are its bytes
  pub entry_bytes : (n : ℕ) (level : Level) → concat (level_pieces q.print (entry_of n level)) ≡ level_bytes n level
  entry_bytes n level =
      let count : length (map columns_of level.forms) ≡ length level.forms = length-map level.forms columns_of in
      ap (λ (print : PrintMode). concat (level_pieces print (entry_of n level))) all.print
      ∙ (λ i. level_text n (length level.forms) (count i) level.tried ++ concat (lines_of_columns level.forms i))

  pub grown_entry : (text : List ℕ) (n : ℕ) (level : Level) → StandsFor text q → IsGrown q n level → IsLevelEntry q (entry_of n level)
  grown_entry text n level stands grown =
      let names = stands_names text q stands in
      let family = family_exists q names in
      let filters = filters_exist q names in
      record {
        family = family.0;
        grows = family.1;
        filters = filters.0;
        keeps = filters.1;
        forms = level.forms;
        are_level = grown.forms family.0 family.1;
        classes_are = refl;
        shown = level.forms;
        are_listed = all_listed family.0 filters.0 n level.forms filters.1 (grown.forms family.0 family.1);
        listed_are = refl;
        tries = grown.tried family.0 family.1;
      }
