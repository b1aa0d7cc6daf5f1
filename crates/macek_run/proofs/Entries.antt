-- What the listing tells of a level.
use Rattle.std.proofs.Common.{◌≡◌, ◌∙◌, ℕ, List, [], ◌∷◌, ◌++◌, map, length, refl, ap, subst, arith, Bor}
use Rattle.std.specs.Prelude.{option_to_list, Option}
use Rattle.std.specs.List.{concat}
use Rattle.std.proofs.lemmas.List.{length-map}
use Rattle.matroid_theory.specs.Rep.{Rep}
use Rattle.matroid_theory.specs.Minor.{Matroid}
use Rattle.matroid_theory.specs.Level.{Family, Filters}
use Rattle.formats.specs.declared.refusal.PrintMode.{PrintMode}
use Rattle.formats.specs.declared.refusal.PrintMode.TheVariants.{Forms, Counts}
use Rattle.formats.specs.Minors.{given_as}
use Rattle.formats.specs.Request.{Request}
use Rattle.formats.specs.Listing.{LevelEntry, level_text, form_text, form_pieces, level_pieces}
use Rattle.formats.specs.Levels.{columns_of, AreGivenBy, Grows, Keeps, IsLevelEntry}
use Rattle.level_driver.specs.Grown.{IsLevelOf, AreTriesOf}
use Rattle.level_driver.specs.Listed.{AreListed}
use Rattle.macek_run.specs.Steps.{TellsLevel}

-- what the listing tells of a level
abbrev pub entry_of : ℕ → List Rep → List Rep → ℕ → LevelEntry
entry_of n forms shown tried = record { size = n; classes = length forms; listed = map columns_of shown; tried = tried }

-- a request that forbids these matroids, and wants this one
module _ (q : Request) (forbidden : List Matroid) (given : AreGivenBy (map given_as q.forbid) forbidden) (wanted : Option Matroid)
    (is_wanted : AreGivenBy (map given_as (option_to_list q.has)) (option_to_list wanted)) where
  grown : Family
  grown = record { factors = q.factors; rank = q.rank; mode = q.mode; forbidden = forbidden }

  grows : Grows q grown
  unfolding grown
  grows = record {
    factors_are = refl;
    rank_is = refl;
    mode_is = refl;
    forbids = given;
  }

  kept : Filters
  kept = record { connected = q.connected; three = q.three_connected; cosimple = q.cosimple; distinct = q.distinct; has = wanted }

  keeps : Keeps q kept
  unfolding kept
  keeps = record {
    connected = refl;
    three = refl;
    cosimple = refl;
    distinct = refl;
    has = is_wanted;
  }

  -- a level that was grown, the forms that are listed and its tries are such an entry
  is_entry : (n : ℕ) (forms shown : List Rep) (tried : ℕ) → IsLevelOf q n forms → AreTriesOf q n tried → AreListed q forms shown →
      IsLevelEntry q (entry_of n forms shown tried)
  is_entry n forms shown tried level tries listed = record {
    family = grown;
    grows = grows;
    filters = kept;
    keeps = keeps;
    forms = forms;
    are_level = level grown grows;
    classes_are = refl;
    shown = shown;
    are_listed = listed n grown kept grows keeps (level grown grows);
    listed_are = refl;
    tries = tries grown grows;
  }

  lines_same : (shown : List (Bor Rep)) → map (λ form. form_text (columns_of form.now)) shown ≡ map form_text (map columns_of (map (λ form. form.now) shown))
  lines_same [] = refl
  lines_same (form ∷ shown) = ap (λ (lines : List (List ℕ)). form_text (columns_of form.now) ∷ lines) (lines_same shown)

  -- the lines of the forms that are printed
  printed_lines : (print : PrintMode) (shown printed : List (Bor Rep)) → (print ≡ Forms → printed ≡ shown) → (print ≡ Counts → printed ≡ [])
      → map (λ form. form_text (columns_of form.now)) printed ≡ form_pieces print (map columns_of (map (λ form. form.now) shown))
  printed_lines Forms shown printed all none = ap (map (λ form. form_text (columns_of form.now))) (all refl) ∙ lines_same shown
  printed_lines Counts shown printed all none = ap (map (λ form. form_text (columns_of form.now))) (none refl)

  -- the bytes of its pieces
  entry_bytes : (n : ℕ) (forms : List Rep) (shown printed : List (Bor Rep)) (tried : ℕ) → (q.print ≡ Forms → printed ≡ shown)
      → (q.print ≡ Counts → printed ≡ [])
      → level_text n (length forms) (length shown) tried ++ concat (map (λ form. form_text (columns_of form.now)) printed)
      ≡ concat (level_pieces q.print (entry_of n forms (map (λ form. form.now) shown) tried))
  entry_bytes n forms shown printed tried all none =
      let count : length shown ≡ length (map columns_of (map (λ form. form.now) shown)) =
      omega (arith, length-map shown (λ form. form.now), length-map (map (λ form. form.now) shown) columns_of) in
      λ i. level_text n (length forms) (count i) tried ++ concat (printed_lines q.print shown printed all none i)

  -- what was written tells of the level
  pub tells : (Part : List ℕ → Type 0) (n : ℕ) (front line : List ℕ) (forms : List Rep) (shown given printed : List (Bor Rep))
      (classes count tried : ℕ) → IsLevelOf q n forms → AreTriesOf q n tried → AreListed q forms (map (λ form. form.now) shown)
      → line ≡ level_text n classes count tried → classes ≡ length forms → count ≡ length shown → given ≡ shown
      → (q.print ≡ Forms → printed ≡ given) → (q.print ≡ Counts → printed ≡ [])
      → Part (front ++ (line ++ concat (map (λ form. form_text (columns_of form.now)) printed))) → TellsLevel q n front Part
  tells Part n front line forms shown given printed classes count tried level tries listed line_is classes_are count_is same all none part =
      let bytes : line ++ concat (map (λ form. form_text (columns_of form.now)) printed)
      ≡ level_text n (length forms) (length shown) tried ++ concat (map (λ form. form_text (columns_of form.now)) printed) =
      ap (λ (l : List ℕ). l ++ concat (map (λ form. form_text (columns_of form.now)) printed))
      (line_is ∙ (λ i. level_text n (classes_are i) (count_is i) tried)) in
      record {
        entry = entry_of n forms (map (λ form. form.now) shown) tried;
        is_entry = is_entry n forms (map (λ form. form.now) shown) tried level tries listed;
        at = refl;
        part = subst (λ (bs : List ℕ). Part (front ++ bs)) (bytes ∙ entry_bytes n forms shown printed tried (λ e. all e ∙ same) none) part;
      }
