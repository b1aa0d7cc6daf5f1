use Rattle.std.proofs.Common.{◌≡◌, ◌<◌, List, ap, sym, ◌∙◌, subst, refl, length, ℕ}
use Rattle.std.specs.List.{AllByRecursion}
use Rattle.std.proofs.lemmas.List.{length-map}
use Rattle.std.proofs.lemmas.List.Elements.{recursion_from_All}
use Rattle.atomic_table.specs.Seated.{TableId}
use Rattle.link_set.specs.Hash.{stripe_of}
use Rattle.stripe_book.specs.Seen.{TableSide}
use Rattle.class_store.proofs.Offers.{stands, turn_back, pass_after, held_now}
use Rattle.class_store.proofs.Batching.{ready_after_all, told_tracks, refused_all, same_after}
use Rattle.class_store.proofs.level.OpenLevel.offer_some.Goals as goal

pub offered_batch-held-requires-clause-caller_table : goal.offered_batch-held-requires-clause-caller_table
offered_batch-held-requires-clause-caller_table g c =
    let level = ap (λ v. v.level.tables) c.pass.view_is ∙ (ap (λ v. v.tables) c.requires.level ∙ sym (ap (λ v. v.level.tables) c.self.view_is)) in
    let width : length c.self.inside.tables.items ≡ length c.args.self.now.level.tables = sym
    (length-map c.self.inside.tables.items (λ (t : TableSide). t.table))
    ∙ ap (λ (l : List TableId). length l) (c.self.invariant.0.same ∙ ap (λ v. v.level.tables) c.self.view_is) in
    let below = subst (λ (n : ℕ). c.args.stripe < n) (sym width) c.requires.stripe in
    let s = stands _ _ _ _ _ _ _ _ _ c.self.invariant.0 c.pass.invariant level below c.index.ensures c.index_mut.ensures.value in
    s.one_table

pub offered_batch-held-requires-clause-idle : goal.offered_batch-held-requires-clause-idle
offered_batch-held-requires-clause-idle g c =
    let level = ap (λ v. v.level.tables) c.pass.view_is ∙ (ap (λ v. v.tables) c.requires.level ∙ sym (ap (λ v. v.level.tables) c.self.view_is)) in
    let width : length c.self.inside.tables.items ≡ length c.args.self.now.level.tables = sym
    (length-map c.self.inside.tables.items (λ (t : TableSide). t.table))
    ∙ ap (λ (l : List TableId). length l) (c.self.invariant.0.same ∙ ap (λ v. v.level.tables) c.self.view_is) in
    let below = subst (λ (n : ℕ). c.args.stripe < n) (sym width) c.requires.stripe in
    let s = stands _ _ _ _ _ _ _ _ _ c.self.invariant.0 c.pass.invariant level below c.index.ensures c.index_mut.ensures.value in
    s.ready.idle

pub invariant_of-pass : goal.invariant_of-pass
invariant_of-pass g c =
    let level = ap (λ v. v.level.tables) c.pass.view_is ∙ (ap (λ v. v.tables) c.requires.level ∙ sym (ap (λ v. v.level.tables) c.self.view_is)) in
    let width : length c.self.inside.tables.items ≡ length c.args.self.now.level.tables = sym
    (length-map c.self.inside.tables.items (λ (t : TableSide). t.table))
    ∙ ap (λ (l : List TableId). length l) (c.self.invariant.0.same ∙ ap (λ v. v.level.tables) c.self.view_is) in
    let below = subst (λ (n : ℕ). c.args.stripe < n) (sym width) c.requires.stripe in
    let s = stands _ _ _ _ _ _ _ _ _ c.self.invariant.0 c.pass.invariant level below c.index.ensures c.index_mut.ensures.value in
    let count : length c.pass.inside.turn.tables ≡ length c.args.self.now.level.tables = ap (λ (l : List TableId). length l)
    (ap (λ v. v.level.tables) c.pass.view_is ∙ ap (λ v. v.tables) c.requires.level) in
    let names = subst (λ (n : ℕ). AllByRecursion (λ key. stripe_of n key ≡ c.args.stripe) c.args.keys) (sym count) (recursion_from_All _ _ c.requires.names) in
    let back = turn_back _ _ _ _ c.pass.invariant.free c.lock-held.ensures.held c.unlock.ensures in
    pass_after _ _ _ _ _ _ c.pass.invariant back
    (ready_after_all _ _ _ c.index_mut.result.now c.offered_batch-held.new.caller c.args.keys c.lock-held.result.book.history
    c.offered_batch-held.result.1 s.ready c.offered_batch-held.ensures.same names c.offered_batch-held.ensures.offered
    (same_after c.index_mut.result.now c.offered_batch-held.new.caller c.args.keys c.offered_batch-held.result.1 c.offered_batch-held.ensures.refused))

pub returns-clause-offered : goal.returns-clause-offered
returns-clause-offered g c =
    let level = ap (λ v. v.level.tables) c.pass.view_is ∙ (ap (λ v. v.tables) c.requires.level ∙ sym (ap (λ v. v.level.tables) c.self.view_is)) in
    let width : length c.self.inside.tables.items ≡ length c.args.self.now.level.tables = sym
    (length-map c.self.inside.tables.items (λ (t : TableSide). t.table))
    ∙ ap (λ (l : List TableId). length l) (c.self.invariant.0.same ∙ ap (λ v. v.level.tables) c.self.view_is) in
    let below = subst (λ (n : ℕ). c.args.stripe < n) (sym width) c.requires.stripe in
    let s = stands _ _ _ _ _ _ _ _ _ c.self.invariant.0 c.pass.invariant level below c.index.ensures c.index_mut.ensures.value in
    told_tracks c.pass.inside.callers.items c.args.stripe _ c.index_mut.result.now c.offered_batch-held.new.caller _ _ c.args.keys
    c.lock-held.result.book.history c.offered_batch-held.result.1 s.there (s.ready.named ∙ ap (λ v. v.number) c.pass.view_is)
    (ap (λ v. v.tracks) c.pass.view_is) refl c.offered_batch-held.ensures.offered

pub returns-clause-refused : goal.returns-clause-refused
returns-clause-refused g c =
    let level = ap (λ v. v.level.tables) c.pass.view_is ∙ (ap (λ v. v.tables) c.requires.level ∙ sym (ap (λ v. v.level.tables) c.self.view_is)) in
    let width : length c.self.inside.tables.items ≡ length c.args.self.now.level.tables = sym
    (length-map c.self.inside.tables.items (λ (t : TableSide). t.table))
    ∙ ap (λ (l : List TableId). length l) (c.self.invariant.0.same ∙ ap (λ v. v.level.tables) c.self.view_is) in
    let below = subst (λ (n : ℕ). c.args.stripe < n) (sym width) c.requires.stripe in
    let s = stands _ _ _ _ _ _ _ _ _ c.self.invariant.0 c.pass.invariant level below c.index.ensures c.index_mut.ensures.value in
    let back = turn_back _ _ _ _ c.pass.invariant.free c.lock-held.ensures.held c.unlock.ensures in
    refused_all c.pass.inside.callers.items c.args.stripe _ c.pass.inside.turn c.unlock.new.turn c.index_mut.result.now
    c.offered_batch-held.new.caller c.args.pass.now c.args.keys c.offered_batch-held.result.1 s.there back c.pass.view_is
    c.offered_batch-held.ensures.refused

pub unlock-requires-clause-held : goal.unlock-requires-clause-held
unlock-requires-clause-held g c = held_now _ _ _ c.lock-held.ensures.held
