use Rattle.std.proofs.Common.{[], ap, sym, ◌∙◌}
use Rattle.stripe_book.specs.Seen.{BookSide, CallerSide}
use Rattle.store_tests.proofs.Calls.{entered, first_told, only_caller}
use Rattle.store_tests.proofs.books.one_call.Goals as goal
use Rattle.class_store.proofs.Ends.{first_left}

pub call-requires-clause-reply : goal.call-requires-clause-reply
call-requires-clause-reply c = first_told c.args.key.now c.args.key.now _ (ap (λ (b : BookSide). b.history) c.in_ok-table.ensures.book)

pub end-requires-clause-left : goal.end-requires-clause-left
end-requires-clause-left c =
    let only = only_caller _ _ _ (sym c.in_ok-table.ensures.callers ∙ c.in-Some.ensures.items) in
    first_left _ _ _ _ c.in_ok-table.ensures.table (ap (λ (b : BookSide). b.left) c.leave.ensures)
    (ap (λ (k : CallerSide). k.number) c.call.ensures.caller ∙ sym (ap (λ (k : CallerSide). k.number) only))

pub returns : goal.returns
returns c =
    let only = only_caller _ _ _ (sym c.in_ok-table.ensures.callers ∙ c.in-Some.ensures.items) in
    ap (λ (b : BookSide). b.history) c.end.ensures.book ∙ (ap (λ (b : BookSide). b.history) c.leave.ensures
    ∙ entered c.args.key.now c.args.key.now _ _ _ _ _ _ _ [] (ap (λ (b : BookSide). b.history) c.call.ensures.book)
    (ap (λ (b : BookSide). b.history) c.in_ok-table.ensures.book)
    (sym (ap (λ (k : CallerSide). k.number) only)) [] (sym (ap (λ (k : CallerSide). k.mine) only)))

pub call-requires-clause-book_table : goal.call-requires-clause-book_table
call-requires-clause-book_table c = ap (λ (b : BookSide). b.table) c.in_ok-table.ensures.book

pub call-requires-clause-caller_table : goal.call-requires-clause-caller_table
call-requires-clause-caller_table c =
    let only = only_caller _ _ _ (sym c.in_ok-table.ensures.callers ∙ c.in-Some.ensures.items) in
    sym (ap (λ (k : CallerSide). k.table) only)

pub call-requires-clause-idle : goal.call-requires-clause-idle
call-requires-clause-idle c =
    let only = only_caller _ _ _ (sym c.in_ok-table.ensures.callers ∙ c.in-Some.ensures.items) in
    sym (ap (λ (k : CallerSide). k.phase) only)

pub leave-requires-clause-book_table : goal.leave-requires-clause-book_table
leave-requires-clause-book_table c =
    ap (λ (b : BookSide). b.table) c.call.ensures.book ∙ ap (λ (b : BookSide). b.table) c.in_ok-table.ensures.book

pub leave-requires-clause-caller_table : goal.leave-requires-clause-caller_table
leave-requires-clause-caller_table c =
    let only = only_caller _ _ _ (sym c.in_ok-table.ensures.callers ∙ c.in-Some.ensures.items) in
    ap (λ (k : CallerSide). k.table) c.call.ensures.caller ∙ sym (ap (λ (k : CallerSide). k.table) only)

pub leave-requires-clause-idle : goal.leave-requires-clause-idle
leave-requires-clause-idle c = ap (λ (k : CallerSide). k.phase) c.call.ensures.caller

pub end-requires-clause-table : goal.end-requires-clause-table
end-requires-clause-table c =
    ap (λ (b : BookSide). b.table) c.leave.ensures
    ∙ (ap (λ (b : BookSide). b.table) c.call.ensures.book ∙ ap (λ (b : BookSide). b.table) c.in_ok-table.ensures.book)
