use Rattle.std.proofs.Common.{◌≡◌, ◌≢◌, Option, Some, List, ℕ, subst}
use Rattle.std.specs.Cmp.Lexicographic.{slice_cmp}
use Rattle.std.specs.Ordering.{nat_cmp}
use Rattle.std.specs.declared.cmp.Ordering.TheVariants.{Greater}
use Rattle.form_search.specs.Search.{IsAtMost, numbers_of}
use Rattle.fast_form.proofs.form.decided.Goals as goal

at_most : (o : Option (List ℕ)) (least numbers : List ℕ) → o ≡ Some least → IsAtMost o numbers → slice_cmp nat_cmp least numbers ≢ Greater
at_most o least numbers e w = subst (λ (o : Option (List ℕ)). IsAtMost o numbers) e w

pub verdict-requires-clause-covers : goal.verdict-requires-clause-covers
verdict-requires-clause-covers c e m N r =
    at_most c.found-found.result.best c.in-Some.least (numbers_of c.args.rep.now N) c.in-Some.is (c.found-found.ensures.covers (λ _. e) m N r)
