use Rattle.std.proofs.Common.{◌≡◌, ◌∙◌, arith, sym}
use Rattle.std.proofs.lemmas.Fmt.{decimal_injective}
use Rattle.command_words.proofs.number.number_in.Goals as goal

pub returns-then-n-least : goal.returns-then-n-least
returns-then-n-least c = λ n low high is.
    let small = c.in-Some.ensures.0 in
    let same : c.in-Some.n ≡ n = decimal_injective c.in-Some.n n (omega arith) (omega arith) (sym c.in-Some.ensures.1 ∙ c.as_bytes.ensures.value ∙ is) in
    omega arith

pub returns-then-n-most : goal.returns-then-n-most
returns-then-n-most c = λ n low high is.
    let small = c.in-Some.ensures.0 in
    let same : c.in-Some.n ≡ n = decimal_injective c.in-Some.n n (omega arith) (omega arith) (sym c.in-Some.ensures.1 ∙ c.as_bytes.ensures.value ∙ is) in
    omega arith
