-- What one more entry does to the values.
use Rattle.std.proofs.Common.{◌≡◌, ◌∙◌, ℕ, ◌<◌, Bool, true, false, cond, List, [], ◌∷◌, ◌++◌, length, None, Some, refl, sym, ap, subst, arith, add-zero}
use Rattle.std.specs.Option.{is_some}
use Rattle.std.proofs.lemmas.List.{map-append, length-map}
use Rattle.std.specs.Prelude.{filter_map, option_to_list}
use Rattle.matroid_theory.specs.Given.{IsGivenBy}
use Rattle.named_matroids.specs.Names.{NamedMatroid, named_by, IsSmallName}
use Rattle.matroid_theory.specs.declared.Mode.{Mode}
use Rattle.formats.specs.declared.refusal.PrintMode.{PrintMode}
use Rattle.formats.specs.Statement.{Statement, VersionIs, RankIs, FieldIs, SizeIs, EquivalenceIs, Forbids, Prints, kind_number}
use Rattle.formats.specs.Minors.{given_as}
use Rattle.formats.specs.Request.{count_of_kind, rank_in, field_in, size_in, forbidden_in}
use Rattle.request_lines.specs.declared.flags.Flag.{Flag}
use Rattle.request_lines.specs.declared.flags.Flag.TheVariants as flag
use Rattle.request_lines.specs.declared.flags.Filter.{Filter}
use Rattle.request_lines.specs.declared.flags.Filter.TheVariants as filter
use Rattle.request_reader.specs.declared.filters.Filters.{Filters}
use Rattle.request_reader.specs.declared.values.Values.{Values}
use Rattle.request_reader.specs.declared.values.Wrong.{Wrong}
use Rattle.request_reader.specs.declared.values.Wrong.TheVariants as wrong
use Rattle.request_lines.specs.declared.line.NamedMinor.{NamedMinor}
use Rattle.request_lines.specs.declared.line.NamedMinor.TheVariants as minor
use Rattle.request_lines.specs.declared.line.Said.{Said}
use Rattle.request_lines.specs.declared.line.Said.TheVariants as said
use Rattle.request_reader.specs.Filters.{HoldsFilters, IsNewFilter}
use Rattle.request_lines.specs.Said.{flag_entry, IsFilter, IsSaid}
use Rattle.request_reader.specs.Wrongs.{IsWrong}
use Rattle.request_reader.specs.Values.{Holds, print_in, mode_in}
use Rattle.request_reader.proofs.EntryCounts.{print_count, mode_count, given_end}
use Rattle.request_reader.proofs.FilterValues.{filters_kept}
use Rattle.formats.proofs.KindCounts.{of_kind, count_end, count_kept, order_end, order_new, rank_count, field_count, size_count, forbid_count, values_end, values_kept, values_more, flag_again, value_again, none_there}

-- one entry more, of a kind that wasn't there
pub version_end : (es : List Statement) (values : Values) (n : ℕ) → Holds es values → values.version ≡ false →
    Holds (es ++ VersionIs n ∷ []) (record values { version = true })
version_end es values n h new =
    let none : count_of_kind 0 es ≡ 0 = h.version ∙ ap (λ (b : Bool). cond b 1 0) new in
    record {
      in_order = order_new es (VersionIs n) h.in_order (omega arith) none;
      version = omega (arith, count_end 0 es (VersionIs n), none);
      rank = values_kept rank_in es (VersionIs n) _ h.rank refl;
      field = values_kept field_in es (VersionIs n) _ h.field refl;
      size = values_kept size_in es (VersionIs n) _ h.size refl;
      forbid = values_kept forbidden_in es (VersionIs n) _ h.forbid refl;
      given = h.given;
      filters = filters_kept es (VersionIs n) values.filters h.filters refl refl refl refl refl;
      print = values_kept print_in es (VersionIs n) _ h.print refl;
      mode = values_kept mode_in es (VersionIs n) _ h.mode refl;
    }

pub rank_end : (es : List Statement) (values : Values) (n : ℕ) → Holds es values → values.rank ≡ None →
    Holds (es ++ RankIs n ∷ []) (record values { rank = Some n })
rank_end es values n h new =
    let none : filter_map rank_in es ≡ [] = h.rank ∙ ap option_to_list new in
    record {
      in_order = order_new es (RankIs n) h.in_order (omega arith) (rank_count es ∙ ap length none);
      version = count_end 0 es (RankIs n) ∙ add-zero _ ∙ h.version;
      rank = values_end rank_in es (RankIs n) (Some n) none refl;
      field = values_kept field_in es (RankIs n) _ h.field refl;
      size = values_kept size_in es (RankIs n) _ h.size refl;
      forbid = values_kept forbidden_in es (RankIs n) _ h.forbid refl;
      given = h.given;
      filters = filters_kept es (RankIs n) values.filters h.filters refl refl refl refl refl;
      print = values_kept print_in es (RankIs n) _ h.print refl;
      mode = values_kept mode_in es (RankIs n) _ h.mode refl;
    }

pub field_end : (es : List Statement) (values : Values) (fs : List ℕ) → Holds es values → values.factors ≡ None →
    Holds (es ++ FieldIs fs ∷ []) (record values { factors = Some fs })
field_end es values fs h new =
    let none : filter_map field_in es ≡ [] = h.field ∙ ap option_to_list new in
    record {
      in_order = order_new es (FieldIs fs) h.in_order (omega arith) (field_count es ∙ ap length none);
      version = count_end 0 es (FieldIs fs) ∙ add-zero _ ∙ h.version;
      rank = values_kept rank_in es (FieldIs fs) _ h.rank refl;
      field = values_end field_in es (FieldIs fs) (Some fs) none refl;
      size = values_kept size_in es (FieldIs fs) _ h.size refl;
      forbid = values_kept forbidden_in es (FieldIs fs) _ h.forbid refl;
      given = h.given;
      filters = filters_kept es (FieldIs fs) values.filters h.filters refl refl refl refl refl;
      print = values_kept print_in es (FieldIs fs) _ h.print refl;
      mode = values_kept mode_in es (FieldIs fs) _ h.mode refl;
    }

pub size_end : (es : List Statement) (values : Values) (n : ℕ) → Holds es values → values.size ≡ None →
    Holds (es ++ SizeIs n ∷ []) (record values { size = Some n })
size_end es values n h new =
    let none : filter_map size_in es ≡ [] = h.size ∙ ap option_to_list new in
    record {
      in_order = order_new es (SizeIs n) h.in_order (omega arith) (size_count es ∙ ap length none);
      version = count_end 0 es (SizeIs n) ∙ add-zero _ ∙ h.version;
      rank = values_kept rank_in es (SizeIs n) _ h.rank refl;
      field = values_kept field_in es (SizeIs n) _ h.field refl;
      size = values_end size_in es (SizeIs n) (Some n) none refl;
      forbid = values_kept forbidden_in es (SizeIs n) _ h.forbid refl;
      given = h.given;
      filters = filters_kept es (SizeIs n) values.filters h.filters refl refl refl refl refl;
      print = values_kept print_in es (SizeIs n) _ h.print refl;
      mode = values_kept mode_in es (SizeIs n) _ h.mode refl;
    }

pub print_end : (es : List Statement) (values : Values) (p : PrintMode) → Holds es values → values.print ≡ None →
    Holds (es ++ Prints p ∷ []) (record values { print = Some p })
print_end es values p h new =
    let none : filter_map print_in es ≡ [] = h.print ∙ ap option_to_list new in
    record {
      in_order = order_new es (Prints p) h.in_order (omega arith) (print_count es ∙ ap length none);
      version = count_end 0 es (Prints p) ∙ add-zero _ ∙ h.version;
      rank = values_kept rank_in es (Prints p) _ h.rank refl;
      field = values_kept field_in es (Prints p) _ h.field refl;
      size = values_kept size_in es (Prints p) _ h.size refl;
      forbid = values_kept forbidden_in es (Prints p) _ h.forbid refl;
      given = h.given;
      filters = filters_kept es (Prints p) values.filters h.filters refl refl refl refl refl;
      print = values_end print_in es (Prints p) (Some p) none refl;
      mode = values_kept mode_in es (Prints p) _ h.mode refl;
    }

pub mode_end : (es : List Statement) (values : Values) (m : Mode) → Holds es values → values.mode ≡ None →
    Holds (es ++ EquivalenceIs m ∷ []) (record values { mode = Some m })
mode_end es values m h new =
    let none : filter_map mode_in es ≡ [] = h.mode ∙ ap option_to_list new in
    record {
      in_order = order_new es (EquivalenceIs m) h.in_order (omega arith) (mode_count es ∙ ap length none);
      version = count_end 0 es (EquivalenceIs m) ∙ add-zero _ ∙ h.version;
      rank = values_kept rank_in es (EquivalenceIs m) _ h.rank refl;
      field = values_kept field_in es (EquivalenceIs m) _ h.field refl;
      size = values_kept size_in es (EquivalenceIs m) _ h.size refl;
      forbid = values_kept forbidden_in es (EquivalenceIs m) _ h.forbid refl;
      given = h.given;
      filters = filters_kept es (EquivalenceIs m) values.filters h.filters refl refl refl refl refl;
      print = values_kept print_in es (EquivalenceIs m) _ h.print refl;
      mode = values_end mode_in es (EquivalenceIs m) (Some m) none refl;
    }

-- as many are forbidden as there are lines that do so
pub forbids_held : (es : List Statement) (values : Values) → Holds es values → count_of_kind 4 es ≡ length values.forbid.items
forbids_held es values h = forbid_count es ∙ ap length h.forbid ∙ length-map values.forbid.items (λ item. named_by item.spelling)

pub forbid_end : (es : List Statement) (values : Values) (item : NamedMatroid) → Holds es values → length values.forbid.items < 8 →
    IsSmallName (named_by item.spelling) → IsGivenBy (given_as (named_by item.spelling)) item.matroid →
    Holds (es ++ Forbids (named_by item.spelling) ∷ []) (record values { forbid = record { items = values.forbid.items ++ item ∷ [] } })
forbid_end es values item h room small given =
    let e : Statement = Forbids (named_by item.spelling) in
    let fewer : count_of_kind 4 es < 8 = omega (arith, forbids_held es values h) in
    record {
      in_order = order_end es e h.in_order small.few fewer;
      version = count_end 0 es e ∙ add-zero _ ∙ h.version;
      rank = values_kept rank_in es e _ h.rank refl;
      field = values_kept field_in es e _ h.field refl;
      size = values_kept size_in es e _ h.size refl;
      forbid = values_more forbidden_in es e (named_by item.spelling) _ h.forbid refl
          ∙ sym (map-append (λ (x : NamedMatroid). named_by x.spelling) values.forbid.items (item ∷ []));
      given = given_end values.forbid.items item h.given given;
      filters = filters_kept es e values.filters h.filters refl refl refl refl refl;
      print = values_kept print_in es e _ h.print refl;
      mode = values_kept mode_in es e _ h.mode refl;
    }

-- an entry that is a filter tells nothing else
record TellsNoLine (e : Statement) : Type 0 where
  version : of_kind 0 e ≡ 0
  rank : rank_in e ≡ None
  field : field_in e ≡ None
  size : size_in e ≡ None
  forbid : forbidden_in e ≡ None
  print : print_in e ≡ None
  mode : mode_in e ≡ None

flag_tells : (flag : Flag) → TellsNoLine (flag_entry flag)
flag_tells flag.Connected = record { version = refl; rank = refl; field = refl; size = refl; forbid = refl; print = refl; mode = refl }
flag_tells flag.Three = record { version = refl; rank = refl; field = refl; size = refl; forbid = refl; print = refl; mode = refl }
flag_tells flag.Cosimple = record { version = refl; rank = refl; field = refl; size = refl; forbid = refl; print = refl; mode = refl }
flag_tells flag.Distinct = record { version = refl; rank = refl; field = refl; size = refl; forbid = refl; print = refl; mode = refl }

filter_tells : (filter : Filter) (e : Statement) → IsFilter filter e → TellsNoLine e
filter_tells (filter.Flag flag) e is = subst TellsNoLine (sym is) (flag_tells flag)
filter_tells (filter.Has item) e is = subst TellsNoLine (sym is.1)
    (record { version = refl; rank = refl; field = refl; size = refl; forbid = refl; print = refl; mode = refl })

pub filter_new : (es : List Statement) (values : Values) (s : Said) (e : Statement) (filter : Filter) (filters : Filters) →
    Holds es values → IsSaid s e → s ≡ said.Filter filter →
    (HoldsFilters es values.filters → IsFilter filter e → IsNewFilter es e filters) → Holds (es ++ e ∷ []) (record values { filters = filters })
filter_new es values s e filter filters h said is with_it =
    let at : IsFilter filter e = subst (λ (s : Said). IsSaid s e) is said in
    let new = with_it h.filters at in
    let tells = filter_tells filter e at in
    record {
      in_order = order_new es e h.in_order new.not_big new.new;
      version = count_kept 0 es e _ h.version tells.version;
      rank = values_kept rank_in es e _ h.rank tells.rank;
      field = values_kept field_in es e _ h.field tells.field;
      size = values_kept size_in es e _ h.size tells.size;
      forbid = values_kept forbidden_in es e _ h.forbid tells.forbid;
      given = h.given;
      filters = new.holds;
      print = values_kept print_in es e _ h.print tells.print;
      mode = values_kept mode_in es e _ h.mode tells.mode;
    }

pub filter_wrong : (es : List Statement) (values : Values) (s : Said) (e : Statement) (filter : Filter) (w : Wrong) →
    Holds es values → IsSaid s e → s ≡ said.Filter filter → (HoldsFilters es values.filters → IsFilter filter e → IsWrong es e w) → IsWrong es e w
filter_wrong es values s e filter w h said is with_it = with_it h.filters (subst (λ (s : Said). IsSaid s e) is said)

-- what is said was not said before, or was
pub version_new : (es : List Statement) (values : Values) (s : Said) (e : Statement) → Holds es values → IsSaid s e →
    s ≡ said.Version → values.version ≡ false → Holds (es ++ e ∷ []) (record values { version = true })
version_new es values s e h said is new =
    let at = subst (λ (s : Said). IsSaid s e) is said in
    subst (λ (e : Statement). Holds (es ++ e ∷ []) (record values { version = true })) (sym at.1) (version_end es values at.0 h new)

pub rank_new : (es : List Statement) (values : Values) (s : Said) (e : Statement) (n : ℕ) → Holds es values → IsSaid s e →
    s ≡ said.Rank n → is_some values.rank ≡ false → Holds (es ++ e ∷ []) (record values { rank = Some n })
rank_new es values s e n h said is new =
    let at : e ≡ RankIs n = subst (λ (s : Said). IsSaid s e) is said in
    subst (λ (e : Statement). Holds (es ++ e ∷ []) (record values { rank = Some n })) (sym at) (rank_end es values n h (none_there values.rank new))

pub field_new : (es : List Statement) (values : Values) (s : Said) (e : Statement) (fs : List ℕ) → Holds es values → IsSaid s e →
    s ≡ said.Field fs → is_some values.factors ≡ false → Holds (es ++ e ∷ []) (record values { factors = Some fs })
field_new es values s e fs h said is new =
    let at : e ≡ FieldIs fs = subst (λ (s : Said). IsSaid s e) is said in
    subst (λ (e : Statement). Holds (es ++ e ∷ []) (record values { factors = Some fs })) (sym at) (field_end es values fs h (none_there values.factors new))

pub size_new : (es : List Statement) (values : Values) (s : Said) (e : Statement) (n : ℕ) → Holds es values → IsSaid s e →
    s ≡ said.Size n → is_some values.size ≡ false → Holds (es ++ e ∷ []) (record values { size = Some n })
size_new es values s e n h said is new =
    let at : e ≡ SizeIs n = subst (λ (s : Said). IsSaid s e) is said in
    subst (λ (e : Statement). Holds (es ++ e ∷ []) (record values { size = Some n })) (sym at) (size_end es values n h (none_there values.size new))

pub print_new : (es : List Statement) (values : Values) (s : Said) (e : Statement) (p : PrintMode) → Holds es values → IsSaid s e →
    s ≡ said.Print p → is_some values.print ≡ false → Holds (es ++ e ∷ []) (record values { print = Some p })
print_new es values s e p h said is new =
    let at : e ≡ Prints p = subst (λ (s : Said). IsSaid s e) is said in
    subst (λ (e : Statement). Holds (es ++ e ∷ []) (record values { print = Some p })) (sym at) (print_end es values p h (none_there values.print new))

pub mode_new : (es : List Statement) (values : Values) (s : Said) (e : Statement) (m : Mode) → Holds es values → IsSaid s e →
    s ≡ said.Equivalence m → is_some values.mode ≡ false → Holds (es ++ e ∷ []) (record values { mode = Some m })
mode_new es values s e m h said is new =
    let at : e ≡ EquivalenceIs m = subst (λ (s : Said). IsSaid s e) is said in
    subst (λ (e : Statement). Holds (es ++ e ∷ []) (record values { mode = Some m })) (sym at) (mode_end es values m h (none_there values.mode new))

pub forbid_new : (es : List Statement) (values : Values) (s : Said) (e : Statement) (item : NamedMatroid) → Holds es values →
    IsSaid s e → s ≡ said.Forbid (minor.Small item) → length values.forbid.items < 8 →
    IsGivenBy (given_as (named_by item.spelling)) item.matroid →
    Holds (es ++ e ∷ []) (record values { forbid = record { items = values.forbid.items ++ item ∷ [] } })
forbid_new es values s e item h said is room given =
    let at = subst (λ (s : Said). IsSaid s e) is said in
    let small : IsSmallName (named_by item.spelling) = subst IsSmallName at.2.0 at.2.1 in
    let same : e ≡ Forbids (named_by item.spelling) = at.1 ∙ ap Forbids at.2.0 in
    subst (λ (e : Statement). Holds (es ++ e ∷ []) (record values { forbid = record { items = values.forbid.items ++ item ∷ [] } }))
    (sym same) (forbid_end es values item h room small given)

pub version_again : (es : List Statement) (values : Values) (s : Said) (e : Statement) → Holds es values → IsSaid s e →
    s ≡ said.Version → values.version ≡ true → IsWrong es e wrong.Again
version_again es values s e h said is set =
    let at = subst (λ (s : Said). IsSaid s e) is said in
    subst (λ (e : Statement). IsWrong es e wrong.Again) (sym at.1) (λ k. omega (arith, k), flag_again es 0 values.version h.version set)

pub rank_again : (es : List Statement) (values : Values) (s : Said) (e : Statement) (n : ℕ) → Holds es values → IsSaid s e →
    s ≡ said.Rank n → is_some values.rank ≡ true → IsWrong es e wrong.Again
rank_again es values s e n h said is set =
    let at : e ≡ RankIs n = subst (λ (s : Said). IsSaid s e) is said in
    subst (λ (e : Statement). IsWrong es e wrong.Again) (sym at) (λ k. omega (arith, k), value_again values.rank _ _ (rank_count es) h.rank set)

pub field_again : (es : List Statement) (values : Values) (s : Said) (e : Statement) (fs : List ℕ) → Holds es values → IsSaid s e →
    s ≡ said.Field fs → is_some values.factors ≡ true → IsWrong es e wrong.Again
field_again es values s e fs h said is set =
    let at : e ≡ FieldIs fs = subst (λ (s : Said). IsSaid s e) is said in
    subst (λ (e : Statement). IsWrong es e wrong.Again) (sym at) (λ k. omega (arith, k), value_again values.factors _ _ (field_count es) h.field set)

pub size_again : (es : List Statement) (values : Values) (s : Said) (e : Statement) (n : ℕ) → Holds es values → IsSaid s e →
    s ≡ said.Size n → is_some values.size ≡ true → IsWrong es e wrong.Again
size_again es values s e n h said is set =
    let at : e ≡ SizeIs n = subst (λ (s : Said). IsSaid s e) is said in
    subst (λ (e : Statement). IsWrong es e wrong.Again) (sym at) (λ k. omega (arith, k), value_again values.size _ _ (size_count es) h.size set)

pub print_again : (es : List Statement) (values : Values) (s : Said) (e : Statement) (p : PrintMode) → Holds es values →
    IsSaid s e → s ≡ said.Print p → is_some values.print ≡ true → IsWrong es e wrong.Again
print_again es values s e p h said is set =
    let at : e ≡ Prints p = subst (λ (s : Said). IsSaid s e) is said in
    subst (λ (e : Statement). IsWrong es e wrong.Again) (sym at) (λ k. omega (arith, k), value_again values.print _ _ (print_count es) h.print set)

pub mode_again : (es : List Statement) (values : Values) (s : Said) (e : Statement) (m : Mode) → Holds es values → IsSaid s e →
    s ≡ said.Equivalence m → is_some values.mode ≡ true → IsWrong es e wrong.Again
mode_again es values s e m h said is set =
    let at : e ≡ EquivalenceIs m = subst (λ (s : Said). IsSaid s e) is said in
    subst (λ (e : Statement). IsWrong es e wrong.Again) (sym at) (λ k. omega (arith, k), value_again values.mode _ _ (mode_count es) h.mode set)

-- the ninth minor, and one that is too big
pub ninth : (es : List Statement) (values : Values) (s : Said) (e : Statement) (named : NamedMinor) → Holds es values → IsSaid s e →
    s ≡ said.Forbid named → length values.forbid.items ≡ 8 → IsWrong es e wrong.NinthForbid
ninth es values s e named h said is full =
    let at = subst (λ (s : Said). IsSaid s e) is said in
    (ap kind_number at.1, omega (arith, forbids_held es values h, full))

pub too_big : (es : List Statement) (values : Values) (s : Said) (e : Statement) → Holds es values → IsSaid s e →
    s ≡ said.Forbid minor.TooBig → length values.forbid.items < 8 → IsWrong es e wrong.TooBig
too_big es values s e h said is room =
    let at = subst (λ (s : Said). IsSaid s e) is said in
    let fewer : count_of_kind 4 es < 8 = omega (arith, forbids_held es values h) in
    subst (λ (e : Statement). IsWrong es e wrong.TooBig) (sym at.1) (fewer, at.2)
