-- How many statements tell what is printed and which mode is asked for, and one matroid more.
use Rattle.std.proofs.Common.{◌≡◌, Bool, false, List, [], ◌∷◌, ◌++◌, length, Option, None, Some, refl, ap, arith}
use Rattle.std.specs.Prelude.{filter_map, option_to_list, unwrap_or, if◌then◌else◌}
use Rattle.std.specs.List.{list_any}
use Rattle.matroid_theory.specs.declared.Mode.{Mode}
use Rattle.matroid_theory.specs.declared.Mode.TheVariants.{Linear, Semilinear}
use Rattle.matroid_theory.specs.Given.{IsGivenBy}
use Rattle.named_matroids.specs.Names.{NamedMatroid, named_by}
use Rattle.formats.specs.declared.refusal.PrintMode.{PrintMode}
use Rattle.formats.specs.declared.refusal.PrintMode.TheVariants.{Forms, Counts}
use Rattle.formats.specs.Statement.{Statement, EquivalenceIs, Prints}
use Rattle.formats.specs.Minors.{given_as}
use Rattle.formats.specs.Request.{count_of_kind, prints_counts, asks_semilinear}
use Rattle.formats.proofs.KindCounts.{count_cons}
use Rattle.request_reader.specs.Requested.{AreGiven}
use Rattle.request_reader.specs.Values.{print_in, mode_in}

-- as many statements of a kind as values of it
pub print_count : (es : List Statement) → count_of_kind 10 es ≡ length (filter_map print_in es)
print_count [] = refl
print_count (Prints print ∷ es) = omega (arith, count_cons 10 (Prints print) es, print_count es)
print_count (e ∷ es) = omega (arith, count_cons 10 e es, print_count es)

pub mode_count : (es : List Statement) → count_of_kind 11 es ≡ length (filter_map mode_in es)
mode_count [] = refl
mode_count (EquivalenceIs mode ∷ es) = omega (arith, count_cons 11 (EquivalenceIs mode) es, mode_count es)
mode_count (e ∷ es) = omega (arith, count_cons 11 e es, mode_count es)

-- statements that tell nothing of it ask for no counts, and for no other mode
silent_print : (es : List Statement) → filter_map print_in es ≡ [] → list_any prints_counts es ≡ false
silent_print [] none = refl
silent_print (Prints print ∷ es) none = cc (none)
silent_print (e ∷ es) none = silent_print es none

silent_mode : (es : List Statement) → filter_map mode_in es ≡ [] → list_any asks_semilinear es ≡ false
silent_mode [] none = refl
silent_mode (EquivalenceIs mode ∷ es) none = cc (none)
silent_mode (e ∷ es) none = silent_mode es none

-- what is printed, and the mode
pub print_asked : (es : List Statement) (o : Option PrintMode) → filter_map print_in es ≡ option_to_list o
    → (if list_any prints_counts es then Counts else Forms) ≡ unwrap_or o Forms
print_asked [] None is = refl
print_asked [] (Some print) is = cc (is)
print_asked (Prints print ∷ es) None is = cc (is)
print_asked (Prints Forms ∷ es) (Some Forms) is = ap (λ (b : Bool). if b then Counts else Forms) (silent_print es (cc (is)))
print_asked (Prints Forms ∷ es) (Some Counts) is = cc (is)
print_asked (Prints Counts ∷ es) (Some Forms) is = cc (is)
print_asked (Prints Counts ∷ es) (Some Counts) is = refl
print_asked (e ∷ es) o is = print_asked es o is

pub mode_asked : (es : List Statement) (o : Option Mode) → filter_map mode_in es ≡ option_to_list o
    → (if list_any asks_semilinear es then Semilinear else Linear) ≡ unwrap_or o Linear
mode_asked [] None is = refl
mode_asked [] (Some mode) is = cc (is)
mode_asked (EquivalenceIs mode ∷ es) None is = cc (is)
mode_asked (EquivalenceIs Linear ∷ es) (Some Linear) is = ap (λ (b : Bool). if b then Semilinear else Linear) (silent_mode es (cc (is)))
mode_asked (EquivalenceIs Linear ∷ es) (Some Semilinear) is = cc (is)
mode_asked (EquivalenceIs Semilinear ∷ es) (Some Linear) is = cc (is)
mode_asked (EquivalenceIs Semilinear ∷ es) (Some Semilinear) is = refl
mode_asked (e ∷ es) o is = mode_asked es o is

-- one matroid more
pub given_end : (items : List NamedMatroid) (item : NamedMatroid) → AreGiven items →
    IsGivenBy (given_as (named_by item.spelling)) item.matroid → AreGiven (items ++ item ∷ [])
given_end [] item all given = (given, tt)
given_end (x ∷ items) item all given = (all.0, given_end items item all.1 given)
