use Rattle.std.proofs.Common.{◌<◌, List, ap, sym, ◌∙◌, subst, refl, length, ℕ}
use Rattle.std.proofs.lemmas.List.{length-map}
use Rattle.atomic_table.specs.Seated.{TableId}
use Rattle.link_set.specs.Hash.{stripe_of}
use Rattle.stripe_book.specs.Seen.{TableSide}
use Rattle.class_store.proofs.Offers.{stands, ready_after, turn_back, pass_after, told_track, refused_pass, same_caller, held_now}
use Rattle.class_store.proofs.level.OpenLevel.offer_at.Goals as goal

pub offered-stripe-requires-clause-caller_table : goal.offered-stripe-requires-clause-caller_table
offered-stripe-requires-clause-caller_table g c =
    let level = ap (λ v. v.level.tables) c.pass.view_is ∙ (ap (λ v. v.tables) c.requires ∙ sym (ap (λ v. v.level.tables) c.self.view_is)) in
    let below = subst (λ (n : ℕ). c.stripe-at.result < n) (c.len.ensures ∙ c.self.inside.tables.ok.0) c.stripe-at.ensures.within in
    (stands _ _ _ _ _ _ _ _ _ c.self.invariant.0 c.pass.invariant level below c.index.ensures c.index_mut.ensures.value).one_table

pub offered-stripe-requires-clause-idle : goal.offered-stripe-requires-clause-idle
offered-stripe-requires-clause-idle g c =
    let level = ap (λ v. v.level.tables) c.pass.view_is ∙ (ap (λ v. v.tables) c.requires ∙ sym (ap (λ v. v.level.tables) c.self.view_is)) in
    let below = subst (λ (n : ℕ). c.stripe-at.result < n) (c.len.ensures ∙ c.self.inside.tables.ok.0) c.stripe-at.ensures.within in
    (stands _ _ _ _ _ _ _ _ _ c.self.invariant.0 c.pass.invariant level below c.index.ensures c.index_mut.ensures.value).ready.idle

pub invariant_of-pass : goal.invariant_of-pass
invariant_of-pass g c =
    let level = ap (λ v. v.level.tables) c.pass.view_is ∙ (ap (λ v. v.tables) c.requires ∙ sym (ap (λ v. v.level.tables) c.self.view_is)) in
    let below = subst (λ (n : ℕ). c.stripe-at.result < n) (c.len.ensures ∙ c.self.inside.tables.ok.0) c.stripe-at.ensures.within in
    let s = stands _ _ _ _ _ _ _ _ _ c.self.invariant.0 c.pass.invariant level below c.index.ensures c.index_mut.ensures.value in
    let width = ap (λ (l : List TableId). length l) (level ∙ sym c.self.invariant.0.same)
    ∙ length-map c.self.inside.tables.items (λ (t : TableSide). t.table) in
    let names = ap (λ (n : ℕ). stripe_of n c.args.key) (width ∙ sym (c.len.ensures ∙ c.self.inside.tables.ok.0)) ∙ sym c.stripe-at.ensures.value in
    let back = turn_back _ _ _ _ c.pass.invariant.free c.lock-stripe.ensures.held c.unlock.ensures in
    pass_after _ _ _ _ _ _ c.pass.invariant back
    (ready_after _ _ _ c.index_mut.result.now c.offered-stripe.new.caller c.args.key c.offered-stripe.result.1 s.ready c.offered-stripe.ensures.same
    names c.offered-stripe.ensures.offered
    (same_caller c.index_mut.result.now c.offered-stripe.new.caller c.args.key c.offered-stripe.result.1 c.offered-stripe.ensures.refused))

pub returns-clause-offered : goal.returns-clause-offered
returns-clause-offered g c =
    let level = ap (λ v. v.level.tables) c.pass.view_is ∙ (ap (λ v. v.tables) c.requires ∙ sym (ap (λ v. v.level.tables) c.self.view_is)) in
    let below = subst (λ (n : ℕ). c.stripe-at.result < n) (c.len.ensures ∙ c.self.inside.tables.ok.0) c.stripe-at.ensures.within in
    let s = stands _ _ _ _ _ _ _ _ _ c.self.invariant.0 c.pass.invariant level below c.index.ensures c.index_mut.ensures.value in
    let width = c.len.ensures ∙ (c.self.inside.tables.ok.0
    ∙ (sym (length-map c.self.inside.tables.items (λ (t : TableSide). t.table))
    ∙ ap (λ (l : List TableId). length l) (c.self.invariant.0.same ∙ ap (λ v. v.level.tables) c.self.view_is))) in
    let here = c.stripe-at.ensures.value ∙ ap (λ (n : ℕ). stripe_of n c.args.key) width in
    told_track c.pass.inside.callers.items c.stripe-at.result _ _ c.index_mut.result.now c.offered-stripe.new.caller _ _ c.args.key
    c.offered-stripe.result.1 s.there here (s.ready.named ∙ ap (λ v. v.number) c.pass.view_is)
    (ap (λ v. v.tracks) c.pass.view_is) refl c.offered-stripe.ensures.offered

pub returns-clause-refused : goal.returns-clause-refused
returns-clause-refused g c =
    let level = ap (λ v. v.level.tables) c.pass.view_is ∙ (ap (λ v. v.tables) c.requires ∙ sym (ap (λ v. v.level.tables) c.self.view_is)) in
    let below = subst (λ (n : ℕ). c.stripe-at.result < n) (c.len.ensures ∙ c.self.inside.tables.ok.0) c.stripe-at.ensures.within in
    let s = stands _ _ _ _ _ _ _ _ _ c.self.invariant.0 c.pass.invariant level below c.index.ensures c.index_mut.ensures.value in
    let width = c.len.ensures ∙ (c.self.inside.tables.ok.0
    ∙ (sym (length-map c.self.inside.tables.items (λ (t : TableSide). t.table))
    ∙ ap (λ (l : List TableId). length l) (c.self.invariant.0.same ∙ ap (λ v. v.level.tables) c.self.view_is))) in
    let here = c.stripe-at.ensures.value ∙ ap (λ (n : ℕ). stripe_of n c.args.key) width in
    let back = turn_back _ _ _ _ c.pass.invariant.free c.lock-stripe.ensures.held c.unlock.ensures in
    refused_pass c.pass.inside.callers.items c.stripe-at.result _ _ c.pass.inside.turn c.unlock.new.turn c.index_mut.result.now
    c.offered-stripe.new.caller c.args.pass.now c.args.key c.offered-stripe.result.1 s.there here back c.pass.view_is
    c.offered-stripe.ensures.refused

pub unlock-requires-clause-held : goal.unlock-requires-clause-held
unlock-requires-clause-held g c = held_now _ _ _ c.lock-stripe.ensures.held
