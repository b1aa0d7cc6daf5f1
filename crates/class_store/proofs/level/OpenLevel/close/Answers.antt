use Rattle.std.proofs.Common.{rules, ◌≡◌, ◌∙◌, ap, sym, subst, refl, length, map, List, [], ◌∷◌, ℕ}
use Rattle.std.specs.List.{AllByRecursion}
use Rattle.std.proofs.lemmas.List.{length-map}
use Rattle.atomic_table.specs.Seated.{TableId}
use Rattle.stripe_book.specs.Seen.{TableSide}
use Rattle.stripe_turn.specs.Rule.{tables_in}
use Rattle.class_store.specs.Seen.{IsOpen}
use Rattle.class_store.specs.Closing.{MayLeave, books_in, left_all}
use Rattle.class_store.proofs.Ends.{may_leave, none_left, one_more_left, tables_of_books, may_end, is_closed, histories_closed, entries_are_calls, written, of_level, one_less, have_all}
use Rattle.class_store.proofs.Together.{closed_together}
use Rattle.class_store.proofs.level.OpenLevel.close.Goals as goal
use Rattle.stripe_turn.specs.declared.stripe.Stripe.{Stripe}

pub leave_all-requires-clause-callers : goal.leave_all-requires-clause-callers
leave_all-requires-clause-callers g c =
    subst (λ ts. MayLeave ts c.last.inside.callers.items) (sym (ap tables_in c.as_mut_slice.ensures.value ∙ c.take_all-taken.ensures))
    (may_leave _ _ _ _ c.last.invariant refl)

pub loop-pass-init : goal.loop-pass-init
loop-pass-init g c =
    let ts = c.args.self.level.tables in let turn = c.last.inside.turn in
    let level = of_level c.args.self c.args.passes.items c.pop.new.self.items [] c.in-Some.last c.requires c.in-Some.ensures.items in
    let tables = ap (λ v. v.level.tables) c.last.view_is ∙ ap (λ v. v.tables) level in
    let none = none_left turn c.take_all-taken.result.items ts c.take_all-taken.ensures tables in
    let same : length c.leave_all.new.taken ≡ length c.take_all-taken.result.items = search rules in
    let books = ap books_in (written c.take_all-taken.result.len c.leave_all.new.taken c.take_all-taken.result.items c.take_all-taken.result.ok.0
    same) ∙ (c.leave_all.ensures ∙ ap (λ l. left_all (books_in l) c.last.inside.callers.items) c.as_mut_slice.ensures.value) in
    (c.in-Some.last ∷ [], c.in-Some.ensures.items, one_more_left [] ts _ _ _ _ turn c.in-Some.last none c.last.invariant tables books c.last.view_is)

pub leave_all-requires-in-Some-pop-clause-tables : goal.leave_all-requires-in-Some-pop-clause-tables
leave_all-requires-in-Some-pop-clause-tables g c =
    let h = c.loop-pass.invariant.2 in
    ap (map (λ (t : TableSide). t.table)) c.as_slice-in-Some-pop.ensures.value ∙ (c.self.invariant.0.same ∙ (ap (λ v. v.level.tables) c.self.view_is
    ∙ (sym h.same ∙ (tables_of_books c.loop-pass.taken.items ∙ ap tables_in (sym c.as_mut_slice-in-Some-pop.ensures.value)))))

pub leave_all-requires-in-Some-pop-clause-callers : goal.leave_all-requires-in-Some-pop-clause-callers
leave_all-requires-in-Some-pop-clause-callers g c =
    let i = c.loop-pass.invariant in
    let level = of_level c.args.self c.args.passes.items c.pop-in-loop-pass.new.self.items i.0 c.in-Some-pop.pass c.requires
    (one_less _ _ _ _ _ i.1 c.in-Some-pop.ensures.items) in
    let tables = ap (λ v. v.level.tables) c.pass.view_is ∙ ap (λ v. v.tables) level in
    subst (λ ts. MayLeave ts c.pass.inside.callers.items)
    (sym (ap tables_in c.as_mut_slice-in-Some-pop.ensures.value ∙ (sym (tables_of_books c.loop-pass.taken.items) ∙ i.2.same)))
    (may_leave _ _ _ _ c.pass.invariant tables)

pub leave_all-requires-in-Some-pop-clause-width : goal.leave_all-requires-in-Some-pop-clause-width
leave_all-requires-in-Some-pop-clause-width g c =
    let i = c.loop-pass.invariant in
    let level = of_level c.args.self c.args.passes.items c.pop-in-loop-pass.new.self.items i.0 c.in-Some-pop.pass c.requires
    (one_less _ _ _ _ _ i.1 c.in-Some-pop.ensures.items) in
    let tables = ap (λ v. v.level.tables) c.pass.view_is ∙ ap (λ v. v.tables) level in
    ap (λ (l : List _). length l) c.as_mut_slice-in-Some-pop.ensures.value
    ∙ (sym (length-map c.loop-pass.taken.items (λ (s : Stripe). s.book.table))
    ∙ (ap (λ (l : List TableId). length l) (sym (tables_of_books c.loop-pass.taken.items) ∙ (i.2.same ∙ sym tables))
    ∙ (sym c.pass.invariant.width ∙ sym c.pass.inside.callers.ok.0)))

pub loop-pass-preserved : goal.loop-pass-preserved
loop-pass-preserved g c =
    let i = c.loop-pass.invariant in let ts = c.args.self.level.tables in let turn = c.pass.inside.turn in
    let items = one_less _ _ _ _ _ i.1 c.in-Some-pop.ensures.items in
    let level = of_level c.args.self c.args.passes.items c.pop-in-loop-pass.new.self.items i.0 c.in-Some-pop.pass c.requires items in
    let tables = ap (λ v. v.level.tables) c.pass.view_is ∙ ap (λ v. v.tables) level in
    let same : length c.leave_all-in-Some-pop.new.taken ≡ length c.loop-pass.taken.items = search rules in
    let books = ap books_in (written c.loop-pass.taken.len c.leave_all-in-Some-pop.new.taken c.loop-pass.taken.items c.loop-pass.taken.ok.0 same)
    ∙ (c.leave_all-in-Some-pop.ensures ∙ ap (λ l. left_all (books_in l) c.pass.inside.callers.items) c.as_mut_slice-in-Some-pop.ensures.value) in
    (c.in-Some-pop.pass ∷ i.0, items, one_more_left i.0 ts _ _ _ _ turn c.in-Some-pop.pass i.2 c.pass.invariant tables books c.pass.view_is)

pub end_all-stripes-requires-clause-left : goal.end_all-stripes-requires-clause-left
end_all-stripes-requires-clause-left g c =
    let i = c.loop-pass.invariant in
    let empty : c.loop-pass.passes.items ≡ [] = search rules in
    let h = have_all _ _ _ _ _ i.1 empty i.2 in
    let open_level = subst (λ (n : ℕ). IsOpen c.self.inside.tables.items c.self.inside.turns n) (ap (λ v. v.passes) c.self.view_is) c.self.invariant.0 in
    may_end c.args.self c.args.passes.items c.self.inside.tables.items c.self.inside.turns _ _ c.requires open_level (ap (λ v. v.level.tables) c.self.view_is) h

pub invariant_of-result : goal.invariant_of-result
invariant_of-result g c =
    let i = c.loop-pass.invariant in
    let empty : c.loop-pass.passes.items ≡ [] = search rules in
    let h = have_all _ _ _ _ _ i.1 empty i.2 in
    let callers = subst (λ (n : ℕ). AllByRecursion (λ (t : TableSide). t.callers ≡ n) c.self.inside.tables.items)
    (ap (λ v. v.passes) c.self.view_is) c.self.invariant.0.callers in
    is_closed c.args.self c.args.passes.items _ _ c.requires h c.end_all-stripes.ensures.ended (c.end_all-stripes.ensures.settled c.args.self.passes callers)

pub returns-clause-histories : goal.returns-clause-histories
returns-clause-histories g c =
    let i = c.loop-pass.invariant in
    let empty : c.loop-pass.passes.items ≡ [] = search rules in
    let h = have_all _ _ _ _ _ i.1 empty i.2 in
    let callers = subst (λ (n : ℕ). AllByRecursion (λ (t : TableSide). t.callers ≡ n) c.self.inside.tables.items)
    (ap (λ v. v.passes) c.self.view_is) c.self.invariant.0.callers in
    histories_closed c.args.self c.args.passes.items _ _ c.requires h c.end_all-stripes.ensures.ended
    (c.end_all-stripes.ensures.settled c.args.self.passes callers)

pub returns-clause-entries : goal.returns-clause-entries
returns-clause-entries g c =
    let i = c.loop-pass.invariant in
    let empty : c.loop-pass.passes.items ≡ [] = search rules in
    let h = have_all _ _ _ _ _ i.1 empty i.2 in
    let callers = subst (λ (n : ℕ). AllByRecursion (λ (t : TableSide). t.callers ≡ n) c.self.inside.tables.items)
    (ap (λ v. v.passes) c.self.view_is) c.self.invariant.0.callers in
    entries_are_calls c.args.self c.args.passes.items _ _ c.requires h c.end_all-stripes.ensures.ended
    (c.end_all-stripes.ensures.settled c.args.self.passes callers)

pub returns-clause-together : goal.returns-clause-together
returns-clause-together g c = closed_together c.args.self c.args.passes.items _ (returns-clause-histories g c)
