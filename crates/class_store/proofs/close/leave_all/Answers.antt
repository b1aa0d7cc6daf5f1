use Rattle.std.proofs.Common.{rules, ◌≡◌, ◌<◌, ◌+◌, ◌∙◌, ap, sym, subst, ℕ, length, slice_index_or, arith, List}
use Rattle.std.proofs.lemmas.List.{length-map}
use Rattle.atomic_table.specs.Seated.{TableId}
use Rattle.stripe_book.specs.Seen.{TableSide}
use Rattle.stripe_turn.specs.declared.stripe.Stripe.{Stripe}
use Rattle.stripe_turn.specs.Rule.{tables_in}
use Rattle.class_store.proofs.Closing.{may_next, one_at, books_next, tables_stay, map_at}
use Rattle.class_store.proofs.close.leave_all.Goals as goal

pub leave_one-requires-clause-stripe_table : goal.leave_one-requires-clause-stripe_table
leave_one-requires-clause-stripe_table c =
    let below : c.loop-at.at < length c.loop-at.taken = search rules in
    let is : c.index-tables-at.result ≡ slice_index_or c.args.tables.now c.loop-at.at c.index-tables-at.result = search rules in
    one_at (λ (s : Stripe). s.book.table) (λ (t : TableSide). t.table) c.loop-at.taken c.args.tables.now c.loop-at.at c.index-taken-at.result
    c.index-tables-at.result (c.loop-at.invariant.1 ∙ sym c.requires.tables) below
    ∙ ap (λ (t : TableSide). t.table) (sym is)

pub leave_one-requires-clause-caller_table : goal.leave_one-requires-clause-caller_table
leave_one-requires-clause-caller_table c =
    let below : c.loop-at.at < length c.args.taken.now = search rules in
    let below' : c.loop-at.at < length (tables_in c.args.taken.now) = subst (λ (n : ℕ). c.loop-at.at < n) (sym (length-map c.args.taken.now (λ (s : Stripe). s.book.table))) below in
    let is : c.index-tables-at.result ≡ slice_index_or c.args.tables.now c.loop-at.at c.index-tables-at.result = search rules in
    let t = c.index-tables-at.result in
    let may = may_next (tables_in c.args.taken.now) c.loop-at.at
    (c.loop-at.at + 1) _ c.in-Some.caller _ t.table c.loop-at.invariant.2 c.in-Some.ensures.items below' (omega arith) in
    may.0 ∙ (ap (λ (l : List TableId). slice_index_or l c.loop-at.at t.table) (sym c.requires.tables)
    ∙ (map_at (λ (t : TableSide). t.table) c.args.tables.now c.loop-at.at t ∙ ap (λ (t : TableSide). t.table) (sym is)))

pub leave_one-requires-clause-idle : goal.leave_one-requires-clause-idle
leave_one-requires-clause-idle c =
    let below : c.loop-at.at < length c.args.taken.now = search rules in
    let below' : c.loop-at.at < length (tables_in c.args.taken.now) = subst (λ (n : ℕ). c.loop-at.at < n) (sym (length-map c.args.taken.now (λ (s : Stripe). s.book.table))) below in
    (may_next (tables_in c.args.taken.now) c.loop-at.at
    (c.loop-at.at + 1) _ c.in-Some.caller _ c.index-tables-at.result.table c.loop-at.invariant.2 c.in-Some.ensures.items below' (omega arith)).1

pub loop-at-preserved : goal.loop-at-preserved
loop-at-preserved c =
    let i = c.loop-at.invariant in
    let below : c.loop-at.at < length c.loop-at.taken = search rules in
    let below' : c.loop-at.at < length c.args.taken.now = search rules in
    let below'' : c.loop-at.at < length (tables_in c.args.taken.now) = subst (λ (n : ℕ). c.loop-at.at < n) (sym (length-map c.args.taken.now (λ (s : Stripe). s.book.table))) below' in
    let y = c.index-taken-at.result in (
      books_next _ c.loop-at.taken c.loop-at.at
          (c.loop-at.at + 1) y c.leave_one.new.stripe _ c.in-Some.caller _ i.0 c.in-Some.ensures.items below c.leave_one.ensures (omega arith),
      tables_stay c.loop-at.taken c.loop-at.at y c.leave_one.new.stripe c.in-Some.caller c.leave_one.ensures ∙ i.1,
      (may_next (tables_in c.args.taken.now) c.loop-at.at
          (c.loop-at.at + 1) _ c.in-Some.caller _ c.index-tables-at.result.table i.2 c.in-Some.ensures.items below'' (omega arith)).2,
      search rules,
    )
