use Rattle.std.proofs.Common.{◌≡◌, ◌∙◌, ℕ, ◌≤◌, List, Option, map, string_bytes, true, false, Bool, sym, subst}
use Rattle.std.specs.Prelude.{IfSome}
use Rattle.clap.specs.Matches.{found_of}
use Rattle.clap.specs.Walk.{Text}
use Rattle.command_words.specs.Asking.{IsAsked, StandsAtEither}
use Rattle.command_words.proofs.Pieces.{accepted, uses_of, no_dashes}
use Rattle.command_words.proofs.Readings.{refused, wrong_workers, wrong_sample, asked, number_range, most_range}
use Rattle.command_words.proofs.read.read_either.Goals as goal

pub returns-then-has_dashes-clause-reads : goal.returns-then-has_dashes-clause-reads
returns-then-has_dashes-clause-reads c = λ pieces command.
    let words : List Text = map (λ s. string_bytes s) c.args.words.now in
    let a = accepted words pieces command in
    let plain = no_dashes words (uses_of pieces) a.0 a.1 in
    let bad : ◌≡◌ {A = Bool} true false = sym c.if-has_dashes.true ∙ c.has_dashes.ensures ∙ plain in cc

pub returns-in_default-clause-reads : goal.returns-in_default-clause-reads
returns-in_default-clause-reads c = refused (map (λ s. string_bytes s) c.args.words.now) (rw c.in_default.is at c.in_ok-matches.ensures)

pub returns-in_default-number_if-clause-reads : goal.returns-in_default-number_if-clause-reads
returns-in_default-number_if-clause-reads c =
    let parsed = rw c.in-Some.is at c.in_ok-matches.ensures in
    let text = c.in_default-number_if.ensures in
    wrong_workers (map (λ s. string_bytes s) c.args.words.now) (found_of c.in-Some.matches) parsed.1 text.0 (sym c.get_str.ensures ∙ text.1) text.2

pub returns-in_default-number_if-2-clause-reads : goal.returns-in_default-number_if-2-clause-reads
returns-in_default-number_if-2-clause-reads c =
    let parsed = rw c.in-Some.is at c.in_ok-matches.ensures in
    let text = c.in_default-number_if-2.ensures in
    wrong_sample (map (λ s. string_bytes s) c.args.words.now) (found_of c.in-Some.matches) parsed.1 text.0 (sym c.get_str-2.ensures ∙ text.1) text.2

pub returns-clause-reads : goal.returns-clause-reads
returns-clause-reads c =
    let parsed = rw c.in-Some.is at c.in_ok-matches.ensures in
    let words : List Text = map (λ s. string_bytes s) c.args.words.now in
    let read = asked words (found_of c.in-Some.matches) parsed.1
    (sym c.has_dashes.ensures ∙ c.if-has_dashes.false) parsed.0 c.in-Some-number_if.workers c.in-Some-number_if-2.sample
    (rw c.get_str.ensures at c.in-Some-number_if.ensures) (rw c.get_str-2.ensures at c.in-Some-number_if-2.ensures)
    c.get_flag.result (record { on = c.get_flag.ensures.value; off = c.get_flag.ensures.other }) in
    subst (λ (sample : Option ℕ). IsAsked StandsAtEither words c.in-Some-number_if.workers sample c.get_flag.result) (sym c.sample_number.ensures) read

pub returns-clause-ranges : goal.returns-clause-ranges
returns-clause-ranges c =
    let most = most_range _ 15 c.in-Some-number_if-2.sample c.in-Some-number_if-2.ensures in (
      number_range _ 1 64 c.in-Some-number_if.workers c.in-Some-number_if.ensures,
      subst (λ (sample : Option ℕ). IfSome sample (λ k. k ≤ 15)) (sym c.sample_number.ensures) most,
    )
