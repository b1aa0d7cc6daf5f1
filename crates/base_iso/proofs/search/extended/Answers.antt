use Rattle.std.proofs.Common.{◌≡◌, ◌≤◌, ◌<◌, ℕ, length, List, [], ◌∷◌, ◌++◌, ◌∙◌, ap, subst, arith}
use Rattle.bases.specs.BaseLists.{IsBaseList}
use Rattle.base_iso.specs.Started.{NoneBegins, CarriesLast}
use Rattle.base_iso.proofs.Cuts.{is_new, is_old, more_labels, more_carried, no_label_twice}
use Rattle.base_iso.proofs.search.extended.Goals as goal

pub followed_by-longer-requires : goal.followed_by-longer-requires
followed_by-longer-requires c =
    let a : IsBaseList c.args.a.now = c.laws.ensures in
    let m : c.args.a.now.size ≤ 16 = a.size_most in
    let f : length c.args.labels.now.items < c.args.a.now.size = c.requires.few in
    let e : length c.as_slice-2.result.now ≡ length c.args.labels.now.items = ap (λ (xs : List ℕ). length xs) c.as_slice-2.ensures.value in
    omega arith

pub may_begin-requires-clause-labels : goal.may_begin-requires-clause-labels
may_begin-requires-clause-labels c =
    more_labels c.args.labels.now.items c.as_slice-3.result.now c.args.label
    (c.as_slice-3.ensures.value
    ∙ (c.followed_by-longer.ensures ∙ ap (λ (xs : List ℕ). xs ++ c.args.label ∷ []) c.as_slice-2.ensures.value)) c.args.a.now.size
    c.requires.labels c.requires.few c.requires.label
    (is_new c.args.labels.now.items c.as_slice.result.now c.args.label c.contains.result c.as_slice.ensures.value c.contains.ensures.cases c.if-contains.false)

pub returns-then-may_begin-clause-different : goal.returns-then-may_begin-clause-different
returns-then-may_begin-clause-different c =
    more_labels c.args.labels.now.items c.followed_by-longer.result.items c.args.label
    (c.followed_by-longer.ensures ∙ ap (λ (xs : List ℕ). xs ++ c.args.label ∷ []) c.as_slice-2.ensures.value) c.args.a.now.size
    c.requires.labels c.requires.few c.requires.label
    (is_new c.args.labels.now.items c.as_slice.result.now c.args.label c.contains.result c.as_slice.ensures.value c.contains.ensures.cases c.if-contains.false)

pub returns-then-may_begin-clause-bases : goal.returns-then-may_begin-clause-bases
returns-then-may_begin-clause-bases c =
    more_carried c.args.labels.now.items c.followed_by-longer.result.items c.args.label
    (c.followed_by-longer.ensures ∙ ap (λ (xs : List ℕ). xs ++ c.args.label ∷ []) c.as_slice-2.ensures.value) c.args.a.now
    c.args.b.now c.requires.bases
    (subst (CarriesLast c.args.a.now.bases c.args.b.now.bases) c.as_slice-3.ensures.value (c.may_begin.ensures.bases c.if-may_begin.true))

pub returns-else-may_begin-clause-none : goal.returns-else-may_begin-clause-none
returns-else-may_begin-clause-none c _ = subst (NoneBegins c.args.a.now c.args.b.now)
    (c.as_slice-3.ensures.value
    ∙ (c.followed_by-longer.ensures ∙ ap (λ (xs : List ℕ). xs ++ c.args.label ∷ []) c.as_slice-2.ensures.value))
    (c.may_begin.ensures.none c.if-may_begin.false)

pub returns-then-contains-clause-none : goal.returns-then-contains-clause-none
returns-then-contains-clause-none c _ =
    no_label_twice c.args.a.now c.args.b.now c.args.labels.now.items c.args.label c.requires.few
    (is_old c.args.labels.now.items c.as_slice.result.now c.args.label c.contains.result c.as_slice.ensures.value c.contains.ensures.cases c.if-contains.true)
