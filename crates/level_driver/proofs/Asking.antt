-- The filters of a request are those that are asked for.
use Rattle.std.proofs.Common.{◌≡◌, ◌∙◌, ℕ, ◌<◌, List, map, length, get_or, Some, refl, sym, ap, subst, Bool, IsTrue}
use Rattle.std.specs.Prelude.{◌↔◌, slice_get, option_to_list}
use Rattle.std.proofs.lemmas.Option.{slice_get_within, get_or_from_slice_get, slice_get_read}
use Rattle.matroid_theory.specs.Rep.{Rep}
use Rattle.matroid_theory.specs.Matroid.{Agrees}
use Rattle.matroid_theory.specs.Minor.{Matroid}
use Rattle.matroid_theory.specs.Level.{Family, IsLevel, Passes}
use Rattle.matroid_theory.specs.Level as theory
use Rattle.formats.specs.Request.{Request}
use Rattle.formats.specs.Minors.{given_as}
use Rattle.formats.specs.Levels.{AreGivenBy, Keeps}
use Rattle.request_reader.specs.declared.filters.Filters.{Filters}
use Rattle.request_reader.specs.Filters.{wanted_matroid}
use Rattle.level_driver.specs.Asked.{filters_of}
use Rattle.level_driver.specs.Grown.{IsLevelOf, TellsPassing}
use Rattle.level_driver.specs.Listed.{PassesAlone, AreMatroidsOf, IsFirst}
use Rattle.level_driver.proofs.Earlier.{IsEarliest, earliest, first, passes_all, passes_alone, is_earliest}
use Rattle.formats.proofs.OneListing.{given_same, matroid_same}

-- these are the filters of the request, and the wanted minor is that of its name
pub record AreAsked (q : Request) (f : Filters) : Type 0 where
  pub connected : f.connected ≡ q.connected
  pub three : f.three ≡ q.three_connected
  pub cosimple : f.cosimple ≡ q.cosimple
  pub distinct : f.distinct ≡ q.distinct
  pub given : AreGivenBy (map given_as (option_to_list q.has)) (option_to_list (wanted_matroid f))

pub same_filters : (q : Request) (f : Filters) (filters : theory.Filters) → AreAsked q f → Keeps q filters → filters ≡ filters_of f
same_filters q f filters asked keeps = λ i. record {
  connected = (keeps.connected ∙ sym asked.connected) i;
  three = (keeps.three ∙ sym asked.three) i;
  cosimple = (keeps.cosimple ∙ sym asked.cosimple) i;
  distinct = (keeps.distinct ∙ sym asked.distinct) i;
  has = has i;
}
  where
    has : filters.has ≡ wanted_matroid f
    has = matroid_same filters.has (wanted_matroid f)
        (given_same (map given_as (option_to_list q.has)) (option_to_list filters.has) (option_to_list (wanted_matroid f)) keeps.has asked.given)

-- the form passes alone, and none before it has its matroid, where that is asked
pub record PassesAt (f : Filters) (forms : List Rep) (i : ℕ) (M : Rep) : Type 0 where
  pub alone : PassesAlone (filters_of f) M
  pub distinct : IsTrue f.distinct → IsEarliest forms i M

pub passing_is : (q : Request) (f : Filters) → AreAsked q f → (forms : List Rep) (i : ℕ) (M : Rep) → slice_get forms i ≡ Some M
    → (n : ℕ) (family : Family) (filters : theory.Filters) → Keeps q filters → IsLevel family n forms → PassesAt f forms i M ↔ Passes family n filters M
passing_is q f asked forms i M at n family filters keeps level =
    subst (λ (fs : theory.Filters). PassesAt f forms i M ↔ Passes family n fs M) (sym (same_filters q f filters asked keeps)) (
      (λ p. passes_all family n (filters_of f) forms i M level at p.alone p.distinct),
      (λ p. record { alone = passes_alone family n (filters_of f) forms i M level at p; distinct = is_earliest family n (filters_of f) forms i M level at p }),
    )

-- what tells that tells whether the form is listed
pub tells : (q : Request) (f : Filters) → AreAsked q f → (forms : List Rep) (i : ℕ) (M : Rep) → slice_get forms i ≡ Some M
    → (listed : Bool) → IsTrue listed ↔ PassesAt f forms i M → TellsPassing q forms i listed
tells q f asked forms i M at listed told n family filters N grows keeps level at_N =
    let same : M ≡ N = cc (at, at_N) in
    let is = passing_is q f asked forms i M at n family filters keeps level in
    subst (λ (L : Rep). IsTrue listed ↔ Passes family n filters L) same ((λ t. is.0 (told.0 t)), (λ p. told.1 (is.1 p)))

-- so do filters that are asked of the form, and of the matroids where forms are compared
pub told_by : (f : Filters) (forms : List Rep) (matroids : List Matroid) → (IsTrue f.distinct → AreMatroidsOf forms matroids) →
    (i : ℕ) (M : Rep) → slice_get forms i ≡ Some M
    → (listed : Bool) → IsTrue listed ↔ (PassesAlone (filters_of f) M × (IsTrue f.distinct → IsFirst matroids i)) → IsTrue listed ↔ PassesAt f forms i M
told_by f forms matroids h i M at listed told = (
  (λ t. let both = told.0 t in record { alone = both.0; distinct = λ compared. earliest forms matroids (h compared) i M at (both.1 compared) }),
  (λ p. told.1 (p.alone, λ compared. first forms matroids (h compared) i M at (p.distinct compared))),
)

-- an element that was read
pub stands_at : (forms items : List Rep) (i : ℕ) (M : Rep) → items ≡ forms → i < length items → M ≡ get_or items i M → slice_get forms i ≡ Some M
stands_at forms items i M same l e = ap (λ (fs : List Rep). slice_get fs i) (sym same) ∙ slice_get_read items (length items) i M refl l e

-- each form of a level agrees
pub form_agrees : (q : Request) (forbidden : List Matroid) → AreGivenBy (map given_as q.forbid) forbidden →
    (n : ℕ) (forms : List Rep) → IsLevelOf q n forms → (i : ℕ) (M : Rep) → slice_get forms i ≡ Some M → Agrees M
form_agrees q forbidden given n forms level i M at =
    let family : Family = record { factors = q.factors; rank = q.rank; mode = q.mode; forbidden = forbidden } in
    let rising : IsLevel family n forms = level family (record { factors_are = refl; rank_is = refl; mode_is = refl; forbids = given }) in
    let form = (rising.exact M).0 (i, slice_get_within forms i M at, get_or_from_slice_get forms i M M at) in
    let member = form.member in
    let w = member.representation in
    w.agrees
