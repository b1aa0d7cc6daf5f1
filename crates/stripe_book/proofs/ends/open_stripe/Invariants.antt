use Rattle.std.proofs.Common.{◌≡◌, ◌≤◌}
use Rattle.stripe_book.specs.Seen.{fresh_callers}
use Rattle.stripe_book.proofs.ends.open_stripe.Given as goal

abbrev pub invariant-loop-number : goal.invariant-loop-number
invariant-loop-number l = (l.book ≡ record l.initial.book { made = l.number }) × (l.all.items ≡ fresh_callers l.initial.book.table l.number)
    × (l.number ≤ l.number-end)
