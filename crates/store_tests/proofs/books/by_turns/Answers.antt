use Rattle.std.proofs.Common.{[], ◌∷◌, ◌++◌, length, ap, sym, ◌∙◌}
use Rattle.histories.specs.declared.entry.Reply.TheVariants.{New, Again}
use Rattle.histories.specs.History.{entry}
use Rattle.stripe_book.specs.Seen.{BookSide, CallerSide}
use Rattle.store_tests.proofs.Calls.{both_callers, entered, first_told, one_entry, second_told, third_told, two_entries, two_left_by}
use Rattle.store_tests.proofs.books.by_turns.Goals as goal

pub call-requires-clause-reply : goal.call-requires-clause-reply
call-requires-clause-reply c = first_told c.args.key.now c.args.other.now _ (ap (λ (b : BookSide). b.history) c.in_ok-table.ensures.book)

pub call-requires-2-clause-reply : goal.call-requires-2-clause-reply
call-requires-2-clause-reply c =
    let key = c.args.key.now in let other = c.args.other.now in
    let both = both_callers _ _ _ _ _ (sym c.in_ok-table.ensures.callers ∙ c.in-Some.ensures.items) c.in-Some-pop.ensures.items in
    let one = entered key other _ _ _ _ 0 key New [] (ap (λ (b : BookSide). b.history) c.call.ensures.book)
    (ap (λ (b : BookSide). b.history) c.in_ok-table.ensures.book)
    (sym (ap (λ (k : CallerSide). k.number) both.0)) [] (sym (ap (λ (k : CallerSide). k.mine) both.0)) in
    second_told key other _ one

pub call-requires-3-clause-reply : goal.call-requires-3-clause-reply
call-requires-3-clause-reply c =
    let key = c.args.key.now in let other = c.args.other.now in
    let both = both_callers _ _ _ _ _ (sym c.in_ok-table.ensures.callers ∙ c.in-Some.ensures.items) c.in-Some-pop.ensures.items in
    let one = entered key other _ _ _ _ 0 key New [] (ap (λ (b : BookSide). b.history) c.call.ensures.book)
    (ap (λ (b : BookSide). b.history) c.in_ok-table.ensures.book)
    (sym (ap (λ (k : CallerSide). k.number) both.0)) [] (sym (ap (λ (k : CallerSide). k.mine) both.0)) in
    let two = entered key other _ _ _ _ 1 key Again (one_entry key other) (ap (λ (b : BookSide). b.history) c.call-2.ensures.book) one
    (sym (ap (λ (k : CallerSide). k.number) both.1)) [] (sym (ap (λ (k : CallerSide). k.mine) both.1)) in
    third_told key other c.requires _ two

pub end-requires-clause-left : goal.end-requires-clause-left
end-requires-clause-left c =
    let both = both_callers _ _ _ _ _ (sym c.in_ok-table.ensures.callers ∙ c.in-Some.ensures.items) c.in-Some-pop.ensures.items in
    let first = ap (λ (k : CallerSide). k.number) c.call-3.ensures.caller
    ∙ (ap (λ (k : CallerSide). k.number) c.call.ensures.caller ∙ sym (ap (λ (k : CallerSide). k.number) both.0)) in
    let second = ap (λ (k : CallerSide). k.number) c.call-2.ensures.caller ∙ sym (ap (λ (k : CallerSide). k.number) both.1) in
    two_left_by _ _ _ _ _ _ c.in_ok-table.ensures.table c.leave.ensures c.leave-2.ensures first second

pub returns : goal.returns
returns c =
    let key = c.args.key.now in let other = c.args.other.now in
    let both = both_callers _ _ _ _ _ (sym c.in_ok-table.ensures.callers ∙ c.in-Some.ensures.items) c.in-Some-pop.ensures.items in
    let one = entered key other _ _ _ _ 0 key New [] (ap (λ (b : BookSide). b.history) c.call.ensures.book)
    (ap (λ (b : BookSide). b.history) c.in_ok-table.ensures.book)
    (sym (ap (λ (k : CallerSide). k.number) both.0)) [] (sym (ap (λ (k : CallerSide). k.mine) both.0)) in
    let two = entered key other _ _ _ _ 1 key Again (one_entry key other) (ap (λ (b : BookSide). b.history) c.call-2.ensures.book) one
    (sym (ap (λ (k : CallerSide). k.number) both.1)) [] (sym (ap (λ (k : CallerSide). k.mine) both.1)) in
    let number = ap (λ (k : CallerSide). k.number) c.call.ensures.caller ∙ sym (ap (λ (k : CallerSide). k.number) both.0) in
    let mine = ap (λ (k : CallerSide). k.mine) c.call.ensures.caller
    ∙ ap (λ (k : CallerSide). k.mine ++ entry k.number (length k.mine) key New ∷ []) (sym both.0) in
    let three = entered key other _ _ _ _ 0 other New (two_entries key other) (ap (λ (b : BookSide). b.history) c.call-3.ensures.book) two number
    (one_entry key other) mine in
    ap (λ (b : BookSide). b.history) c.end.ensures.book
    ∙ (ap (λ (b : BookSide). b.history) c.leave-2.ensures ∙ (ap (λ (b : BookSide). b.history) c.leave.ensures ∙ three))

pub call-requires-clause-book_table : goal.call-requires-clause-book_table
call-requires-clause-book_table c =
    ap (λ (b : BookSide). b.table) c.in_ok-table.ensures.book

pub call-requires-clause-caller_table : goal.call-requires-clause-caller_table
call-requires-clause-caller_table c =
    let both = both_callers _ _ _ _ _ (sym c.in_ok-table.ensures.callers ∙ c.in-Some.ensures.items) c.in-Some-pop.ensures.items in
    sym (ap (λ (k : CallerSide). k.table) both.0)

pub call-requires-clause-idle : goal.call-requires-clause-idle
call-requires-clause-idle c =
    let both = both_callers _ _ _ _ _ (sym c.in_ok-table.ensures.callers ∙ c.in-Some.ensures.items) c.in-Some-pop.ensures.items in
    sym (ap (λ (k : CallerSide). k.phase) both.0)

pub call-requires-2-clause-book_table : goal.call-requires-2-clause-book_table
call-requires-2-clause-book_table c =
    ap (λ (b : BookSide). b.table) c.call.ensures.book ∙ (ap (λ (b : BookSide). b.table) c.in_ok-table.ensures.book)

pub call-requires-2-clause-caller_table : goal.call-requires-2-clause-caller_table
call-requires-2-clause-caller_table c =
    let both = both_callers _ _ _ _ _ (sym c.in_ok-table.ensures.callers ∙ c.in-Some.ensures.items) c.in-Some-pop.ensures.items in
    sym (ap (λ (k : CallerSide). k.table) both.1)

pub call-requires-2-clause-idle : goal.call-requires-2-clause-idle
call-requires-2-clause-idle c =
    let both = both_callers _ _ _ _ _ (sym c.in_ok-table.ensures.callers ∙ c.in-Some.ensures.items) c.in-Some-pop.ensures.items in
    sym (ap (λ (k : CallerSide). k.phase) both.1)

pub call-requires-3-clause-book_table : goal.call-requires-3-clause-book_table
call-requires-3-clause-book_table c =
    ap (λ (b : BookSide). b.table) c.call-2.ensures.book ∙ (ap (λ (b : BookSide). b.table) c.call.ensures.book ∙ (ap (λ (b : BookSide). b.table) c.in_ok-table.ensures.book))

pub call-requires-3-clause-caller_table : goal.call-requires-3-clause-caller_table
call-requires-3-clause-caller_table c =
    let both = both_callers _ _ _ _ _ (sym c.in_ok-table.ensures.callers ∙ c.in-Some.ensures.items) c.in-Some-pop.ensures.items in
    ap (λ (k : CallerSide). k.table) c.call.ensures.caller ∙ sym (ap (λ (k : CallerSide). k.table) both.0)

pub call-requires-3-clause-idle : goal.call-requires-3-clause-idle
call-requires-3-clause-idle c =
    ap (λ (k : CallerSide). k.phase) c.call.ensures.caller

pub leave-requires-clause-book_table : goal.leave-requires-clause-book_table
leave-requires-clause-book_table c =
    ap (λ (b : BookSide). b.table) c.call-3.ensures.book ∙ (ap (λ (b : BookSide). b.table) c.call-2.ensures.book ∙ (ap (λ (b : BookSide). b.table) c.call.ensures.book ∙ (ap (λ (b : BookSide). b.table) c.in_ok-table.ensures.book)))

pub leave-requires-clause-caller_table : goal.leave-requires-clause-caller_table
leave-requires-clause-caller_table c =
    let both = both_callers _ _ _ _ _ (sym c.in_ok-table.ensures.callers ∙ c.in-Some.ensures.items) c.in-Some-pop.ensures.items in
    ap (λ (k : CallerSide). k.table) c.call-3.ensures.caller ∙ (ap (λ (k : CallerSide). k.table) c.call.ensures.caller ∙ sym (ap (λ (k : CallerSide). k.table) both.0))

pub leave-requires-clause-idle : goal.leave-requires-clause-idle
leave-requires-clause-idle c =
    ap (λ (k : CallerSide). k.phase) c.call-3.ensures.caller

pub leave-requires-2-clause-book_table : goal.leave-requires-2-clause-book_table
leave-requires-2-clause-book_table c =
    ap (λ (b : BookSide). b.table) c.leave.ensures ∙ (ap (λ (b : BookSide). b.table) c.call-3.ensures.book ∙ (ap (λ (b : BookSide). b.table) c.call-2.ensures.book ∙ (ap (λ (b : BookSide). b.table) c.call.ensures.book ∙ (ap (λ (b : BookSide). b.table) c.in_ok-table.ensures.book))))

pub leave-requires-2-clause-caller_table : goal.leave-requires-2-clause-caller_table
leave-requires-2-clause-caller_table c =
    let both = both_callers _ _ _ _ _ (sym c.in_ok-table.ensures.callers ∙ c.in-Some.ensures.items) c.in-Some-pop.ensures.items in
    ap (λ (k : CallerSide). k.table) c.call-2.ensures.caller ∙ sym (ap (λ (k : CallerSide). k.table) both.1)

pub leave-requires-2-clause-idle : goal.leave-requires-2-clause-idle
leave-requires-2-clause-idle c =
    ap (λ (k : CallerSide). k.phase) c.call-2.ensures.caller

pub end-requires-clause-table : goal.end-requires-clause-table
end-requires-clause-table c =
    ap (λ (b : BookSide). b.table) c.leave-2.ensures ∙ (ap (λ (b : BookSide). b.table) c.leave.ensures ∙ (ap (λ (b : BookSide). b.table) c.call-3.ensures.book ∙ (ap (λ (b : BookSide). b.table) c.call-2.ensures.book ∙ (ap (λ (b : BookSide). b.table) c.call.ensures.book ∙ (ap (λ (b : BookSide). b.table) c.in_ok-table.ensures.book)))))
