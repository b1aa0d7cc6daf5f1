use Rattle.std.proofs.Common.{◌≡◌, ℕ, ◌+◌, List, sym, subst}
use Rattle.std.specs.List.{AllZip}
use Rattle.matroid_theory.specs.Rep.{Rep, Shape}
use Rattle.matroid_theory.specs.Level.{Family}
use Rattle.matroid_theory.specs.Minor.{Matroid}
use Rattle.formats.specs.Request.{Request}
use Rattle.class_store.specs.Closed.{StoreSide}
use Rattle.class_store.specs.Seen.{AreOfCallersBelow}
use Rattle.form_key.specs.Packing.{IsPackedAs}
use Rattle.level_driver.proofs.NextLevel.{grown_by, grows_it}
use Rattle.level_driver.specs.Keys.{HavePacking}
use Rattle.workers.specs.Store.{HoldsTriesOf}
use Rattle.workers.proofs.FromKeys.{new_level, new_packing}
use Rattle.workers.proofs.growth.grow.Goals as goal

pub forms_of-requires-clause-packings : goal.forms_of-requires-clause-packings
forms_of-requires-clause-packings g c =
    let q : Request = c.args.request.now in
    let Ns : List Matroid = c.laws.ensures.forbidden.0 in
    let n : ℕ = c.requires.parents.0 in
    let h = c.requires.parents.1 in
    let family : Family = grown_by q Ns in
    let grows = grows_it q Ns c.laws.ensures.forbidden.1 in
    let same : ◌≡◌ {A = Shape} (record { factors = q.factors; rank = q.rank; size = c.next_size-size.result })
    (record { factors = c.factors.result; rank = c.rank.result; size = c.next_size-size.result }) =
    λ i. record { factors = sym c.factors.ensures i; rank = sym c.rank.ensures i; size = c.next_size-size.result } in
    subst (λ (s : Shape). HavePacking s c.in_ok-keys.keys) same
    (new_packing q family grows n c.args.parents.now h c.in_ok-closed.closed (c.in_ok-closed.ensures.holds n h family grows) c.next_size-size.result
    c.next_size-size.ensures.next c.in_ok-keys.keys c.in_ok-keys.ensures.rising c.in_ok-keys.ensures.keys)

pub returns-clause-forms : goal.returns-clause-forms
returns-clause-forms g c n h family grows =
    let q : Request = c.args.request.now in
    let same : ◌≡◌ {A = Shape} (record { factors = c.factors.result; rank = c.rank.result; size = c.next_size-size.result })
    (record { factors = q.factors; rank = q.rank; size = c.next_size-size.result }) =
    λ i. record { factors = c.factors.ensures i; rank = c.rank.ensures i; size = c.next_size-size.result } in
    new_level q family grows n c.args.parents.now h c.in_ok-closed.closed (c.in_ok-closed.ensures.holds n h family grows) c.next_size-size.result
    c.next_size-size.ensures.next c.in_ok-keys.keys c.in_ok-keys.ensures.rising c.in_ok-keys.ensures.keys c.in_ok-forms.forms
    (subst (λ (s : Shape). AllZip (λ (M : Rep) (key : List ℕ). IsPackedAs s key M) c.in_ok-forms.forms c.in_ok-keys.keys) same c.in_ok-forms.ensures)

pub returns-clause-holds : goal.returns-clause-holds
returns-clause-holds g c n h =
    subst (λ (s : StoreSide). HoldsTriesOf c.args.request.now (n + 1) s.last) (sym c.keep.ensures) (c.in_ok-closed.ensures.holds n h)

pub returns-clause-callers : goal.returns-clause-callers
returns-clause-callers g c =
    subst (λ (s : StoreSide). AreOfCallersBelow c.args.workers s.last) (sym c.keep.ensures) c.in_ok-closed.ensures.callers
