-- What one more entry does to the filters.
use Rattle.std.proofs.Common.{◌≡◌, ◌∙◌, ℕ, ◌<◌, Bool, true, false, cond, List, [], ◌∷◌, ◌++◌, length, Option, None, Some, refl, sym, ap, subst, arith}
use Rattle.std.specs.Option.{is_some, option_map}
use Rattle.std.specs.Prelude.{filter_map, option_to_list, Result, Ok, Err, MatchResult}
use Rattle.matroid_theory.specs.Given.{IsGivenBy}
use Rattle.named_matroids.specs.Names.{NamedMatroid, named_by, IsSmallName}
use Rattle.formats.specs.Statement.{Statement, ListsConnected, ListsThreeConnected, ListsCosimple, ListsDistinct, ListsWith}
use Rattle.formats.specs.Minors.{given_as}
use Rattle.formats.specs.Request.{count_of_kind, wanted_in}
use Rattle.request_lines.specs.declared.flags.Flag.{Flag}
use Rattle.request_lines.specs.declared.flags.Flag.TheVariants as flag
use Rattle.request_lines.specs.declared.flags.Filter.{Filter}
use Rattle.request_lines.specs.declared.flags.Filter.TheVariants as filter
use Rattle.request_reader.specs.declared.filters.Filters.{Filters}
use Rattle.request_lines.specs.declared.line.NamedMinor.{NamedMinor}
use Rattle.request_lines.specs.declared.line.NamedMinor.TheVariants as minor
use Rattle.request_reader.specs.declared.values.Wrong.{Wrong}
use Rattle.request_reader.specs.declared.values.Wrong.TheVariants as wrong
use Rattle.request_reader.specs.Filters.{wanted_of, HoldsFilters, IsNewFilter}
use Rattle.request_lines.specs.Said.{flag_entry, IsFilter}
use Rattle.request_reader.specs.Wrongs.{IsWrong}
use Rattle.formats.proofs.KindCounts.{of_kind, count_end, count_kept, wanted_count, values_end, values_kept, flag_again, value_again, none_there}

-- an entry that is no filter changes none
pub filters_kept : (es : List Statement) (e : Statement) (filters : Filters) → HoldsFilters es filters → of_kind 5 e ≡ 0 →
    of_kind 6 e ≡ 0 → of_kind 7 e ≡ 0 → of_kind 8 e ≡ 0 → wanted_in e ≡ None → HoldsFilters (es ++ e ∷ []) filters
filters_kept es e filters h a b c d w = record {
  connected = count_kept 5 es e _ h.connected a;
  three = count_kept 6 es e _ h.three b;
  cosimple = count_kept 7 es e _ h.cosimple c;
  distinct = count_kept 8 es e _ h.distinct d;
  has = values_kept wanted_in es e _ h.has w;
  given = h.given;
}

-- a flag that isn't set counts none
unset : (n : ℕ) (flag : Bool) → n ≡ cond flag 1 0 → flag ≡ false → n ≡ 0
unset n flag e off = e ∙ ap (λ (b : Bool). cond b 1 0) off

-- a filter that was not there
pub connected_new : (es : List Statement) (filters : Filters) (f : Flag) → HoldsFilters es filters → f ≡ flag.Connected →
    filters.connected ≡ false → IsNewFilter es (flag_entry f) (record filters { connected = true })
connected_new es filters f h is new =
    let none : count_of_kind 5 es ≡ 0 = unset _ filters.connected h.connected new in
    subst (λ (f : Flag). IsNewFilter es (flag_entry f) (record filters { connected = true })) (sym is) (record {
      not_big = omega arith;
      new = none;
      holds = record {
        connected = omega (arith, count_end 5 es ListsConnected, none);
        three = count_kept 6 es ListsConnected _ h.three refl;
        cosimple = count_kept 7 es ListsConnected _ h.cosimple refl;
        distinct = count_kept 8 es ListsConnected _ h.distinct refl;
        has = values_kept wanted_in es ListsConnected _ h.has refl;
        given = h.given;
      };
    })

pub three_new : (es : List Statement) (filters : Filters) (f : Flag) → HoldsFilters es filters → f ≡ flag.Three →
    filters.three ≡ false → IsNewFilter es (flag_entry f) (record filters { three = true })
three_new es filters f h is new =
    let none : count_of_kind 6 es ≡ 0 = unset _ filters.three h.three new in
    subst (λ (f : Flag). IsNewFilter es (flag_entry f) (record filters { three = true })) (sym is) (record {
      not_big = omega arith;
      new = none;
      holds = record {
        connected = count_kept 5 es ListsThreeConnected _ h.connected refl;
        three = omega (arith, count_end 6 es ListsThreeConnected, none);
        cosimple = count_kept 7 es ListsThreeConnected _ h.cosimple refl;
        distinct = count_kept 8 es ListsThreeConnected _ h.distinct refl;
        has = values_kept wanted_in es ListsThreeConnected _ h.has refl;
        given = h.given;
      };
    })

pub cosimple_new : (es : List Statement) (filters : Filters) (f : Flag) → HoldsFilters es filters → f ≡ flag.Cosimple →
    filters.cosimple ≡ false → IsNewFilter es (flag_entry f) (record filters { cosimple = true })
cosimple_new es filters f h is new =
    let none : count_of_kind 7 es ≡ 0 = unset _ filters.cosimple h.cosimple new in
    subst (λ (f : Flag). IsNewFilter es (flag_entry f) (record filters { cosimple = true })) (sym is) (record {
      not_big = omega arith;
      new = none;
      holds = record {
        connected = count_kept 5 es ListsCosimple _ h.connected refl;
        three = count_kept 6 es ListsCosimple _ h.three refl;
        cosimple = omega (arith, count_end 7 es ListsCosimple, none);
        distinct = count_kept 8 es ListsCosimple _ h.distinct refl;
        has = values_kept wanted_in es ListsCosimple _ h.has refl;
        given = h.given;
      };
    })

pub distinct_new : (es : List Statement) (filters : Filters) (f : Flag) → HoldsFilters es filters → f ≡ flag.Distinct →
    filters.distinct ≡ false → IsNewFilter es (flag_entry f) (record filters { distinct = true })
distinct_new es filters f h is new =
    let none : count_of_kind 8 es ≡ 0 = unset _ filters.distinct h.distinct new in
    subst (λ (f : Flag). IsNewFilter es (flag_entry f) (record filters { distinct = true })) (sym is) (record {
      not_big = omega arith;
      new = none;
      holds = record {
        connected = count_kept 5 es ListsDistinct _ h.connected refl;
        three = count_kept 6 es ListsDistinct _ h.three refl;
        cosimple = count_kept 7 es ListsDistinct _ h.cosimple refl;
        distinct = omega (arith, count_end 8 es ListsDistinct, none);
        has = values_kept wanted_in es ListsDistinct _ h.has refl;
        given = h.given;
      };
    })

-- a filter that was there
pub connected_again : (es : List Statement) (filters : Filters) (f : Flag) → HoldsFilters es filters → f ≡ flag.Connected →
    filters.connected ≡ true → IsWrong es (flag_entry f) wrong.Again
connected_again es filters f h is set = subst (λ (f : Flag). IsWrong es (flag_entry f) wrong.Again) (sym is)
    (λ k. omega (arith, k), flag_again es 5 filters.connected h.connected set)

pub three_again : (es : List Statement) (filters : Filters) (f : Flag) → HoldsFilters es filters → f ≡ flag.Three →
    filters.three ≡ true → IsWrong es (flag_entry f) wrong.Again
three_again es filters f h is set = subst (λ (f : Flag). IsWrong es (flag_entry f) wrong.Again) (sym is)
    (λ k. omega (arith, k), flag_again es 6 filters.three h.three set)

pub cosimple_again : (es : List Statement) (filters : Filters) (f : Flag) → HoldsFilters es filters → f ≡ flag.Cosimple →
    filters.cosimple ≡ true → IsWrong es (flag_entry f) wrong.Again
cosimple_again es filters f h is set = subst (λ (f : Flag). IsWrong es (flag_entry f) wrong.Again) (sym is)
    (λ k. omega (arith, k), flag_again es 7 filters.cosimple h.cosimple set)

pub distinct_again : (es : List Statement) (filters : Filters) (f : Flag) → HoldsFilters es filters → f ≡ flag.Distinct →
    filters.distinct ≡ true → IsWrong es (flag_entry f) wrong.Again
distinct_again es filters f h is set = subst (λ (f : Flag). IsWrong es (flag_entry f) wrong.Again) (sym is)
    (λ k. omega (arith, k), flag_again es 8 filters.distinct h.distinct set)

-- no minor was wanted
none_wanted : (es : List Statement) (filters : Filters) → HoldsFilters es filters → filters.has ≡ None → filter_map wanted_in es ≡ []
none_wanted es filters h none = h.has ∙ ap (λ (o : Option NamedMatroid). option_to_list (option_map (λ item. named_by item.spelling) o)) none

wanted_new : (es : List Statement) (filters more : Filters) (f : Filter) (e : Statement) (named : NamedMinor)
    (item : NamedMatroid) → HoldsFilters es filters → IsFilter f e → f ≡ filter.Has named → is_some filters.has ≡ false →
    named ≡ minor.Small item → more ≡ record filters { has = Some item } →
    IsGivenBy (given_as (named_by item.spelling)) item.matroid → IsNewFilter es e more
wanted_new es filters more f e named item h said is new small made given =
    let at = subst (λ (f : Filter). IsFilter f e) (is ∙ ap filter.Has small) said in
    let name : IsSmallName (named_by item.spelling) = subst IsSmallName at.2.0 at.2.1 in
    let same : e ≡ ListsWith (named_by item.spelling) = at.1 ∙ ap ListsWith at.2.0 in
    let none : filter_map wanted_in es ≡ [] = none_wanted es filters h (none_there filters.has new) in
    let entry : Statement = ListsWith (named_by item.spelling) in
    subst (λ (m : Filters). IsNewFilter es e m) (sym made)
    (subst (λ (e : Statement). IsNewFilter es e (record filters { has = Some item })) (sym same) (record {
      not_big = name.few;
      new = wanted_count es ∙ ap length none;
      holds = record {
        connected = count_kept 5 es entry _ h.connected refl;
        three = count_kept 6 es entry _ h.three refl;
        cosimple = count_kept 7 es entry _ h.cosimple refl;
        distinct = count_kept 8 es entry _ h.distinct refl;
        has = values_end wanted_in es entry (Some (named_by item.spelling)) none refl;
        given = (given, tt);
      };
    }))

wanted_big : (es : List Statement) (filters : Filters) (f : Filter) (e : Statement) (named : NamedMinor) → HoldsFilters es filters →
    IsFilter f e → f ≡ filter.Has named → is_some filters.has ≡ false → named ≡ minor.TooBig → IsWrong es e wrong.TooBig
wanted_big es filters f e named h said is new big =
    let at = subst (λ (f : Filter). IsFilter f e) (is ∙ ap filter.Has big) said in
    let none : count_of_kind 9 es ≡ 0 = wanted_count es ∙ ap length (none_wanted es filters h (none_there filters.has new)) in
    let fewer : count_of_kind 9 es < 1 = omega arith in
    subst (λ (e : Statement). IsWrong es e wrong.TooBig) (sym at.1) (fewer, at.2)

-- the minor is there exactly where the matroid is
mapped_some : {X Y : Type 0} (f : X → Y) (o : Option X) → is_some o ≡ true → is_some (option_map f o) ≡ true
mapped_some f None is = is
mapped_some f (Some x) is = refl

pub wanted_again : (es : List Statement) (filters : Filters) (f : Filter) (e : Statement) (named : NamedMinor) →
    HoldsFilters es filters → IsFilter f e → f ≡ filter.Has named → is_some filters.has ≡ true → IsWrong es e wrong.Again
wanted_again es filters f e named h said is set =
    let at = subst (λ (f : Filter). IsFilter f e) is said in
    let some : is_some (wanted_of filters) ≡ true = mapped_some (λ item. named_by item.spelling) filters.has set in
    subst (λ (e : Statement). IsWrong es e wrong.Again) (sym at.1) (λ k. omega (arith, k), value_again (wanted_of filters) _ _ (wanted_count es) h.has some)

-- what is found of a flag or of a minor is found of the filter
pub flag_result : (filters : Filters) (f : Filter) (flag : Flag) (result : Result Filters Wrong) → f ≡ filter.Flag flag →
    MatchResult result (λ more. (es : List Statement) → HoldsFilters es filters → IsNewFilter es (flag_entry flag) more)
    (λ w. (es : List Statement) → HoldsFilters es filters → IsWrong es (flag_entry flag) w) →
    MatchResult result (λ more. (es : List Statement) → (e : Statement) → HoldsFilters es filters → IsFilter f e →
    IsNewFilter es e more) (λ w. (es : List Statement) → (e : Statement) → HoldsFilters es filters → IsFilter f e → IsWrong es e w)
flag_result filters f flag (Ok more) is found = λ es e h said. subst (λ (e : Statement). IsNewFilter es e more)
    (sym (subst (λ (f : Filter). IsFilter f e) is said)) (found es h)
flag_result filters f flag (Err w) is found = λ es e h said. subst (λ (e : Statement). IsWrong es e w)
    (sym (subst (λ (f : Filter). IsFilter f e) is said)) (found es h)

pub wanted_result : (filters : Filters) (f : Filter) (named : NamedMinor) (result : Result Filters Wrong) → f ≡ filter.Has named →
    is_some filters.has ≡ false →
    MatchResult result (λ more. (item : NamedMatroid) × (named ≡ minor.Small item) × (more ≡ record filters { has = Some item })
    × IsGivenBy (given_as (named_by item.spelling)) item.matroid) (λ w. (named ≡ minor.TooBig) × (w ≡ wrong.TooBig)) →
    MatchResult result (λ more. (es : List Statement) → (e : Statement) → HoldsFilters es filters → IsFilter f e →
    IsNewFilter es e more) (λ w. (es : List Statement) → (e : Statement) → HoldsFilters es filters → IsFilter f e → IsWrong es e w)
wanted_result filters f named (Ok more) is new found = λ es e h said. wanted_new es filters more f e named found.0 h said is new found.1 found.2 found.3
wanted_result filters f named (Err w) is new found = λ es e h said. subst (λ (w : Wrong). IsWrong es e w) (sym found.1)
    (wanted_big es filters f e named h said is new found.0)
