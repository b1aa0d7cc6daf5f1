use Rattle.std.proofs.Common.{◌≡◌, ◌∙◌, length, sym, subst, arith}
use Rattle.std.proofs.lemmas.Bool.Decides.{nat_tests}
use Rattle.formats.specs.Refusal.{HasRefusal}
use Rattle.request_lines.specs.Versions.{version_number}
use Rattle.request_reader.proofs.LinesRead.{start_read, skip_line, say_line, wrong_line, all_read}
use Rattle.request_reader.proofs.read.read_values.Goals as goal

pub loop-rest-init : goal.loop-rest-init
loop-rest-init c = start_read (version_number c.args.version) c.args.text.now c.new-values.result c.requires.short c.requires.version c.new-values.ensures

pub loop-rest-preserved-then-is_skipped_line : goal.loop-rest-preserved-then-is_skipped_line
loop-rest-preserved-then-is_skipped_line c =
    skip_line (version_number c.args.version) c.args.text.now c.loop-rest.values c.loop-rest.number c.loop-rest.rest.now
    c.next_line.result.0.now c.next_line.result.1.now c.loop-rest.invariant
    (record { lines = c.next_line.ensures.lines; shorter = c.next_line.ensures.shorter })
    (sym c.is_skipped_line.ensures ∙ c.if-is_skipped_line.true)

pub loop-rest-preserved : goal.loop-rest-preserved
loop-rest-preserved c = let said = c.in-Some.ensures in
    say_line (version_number c.args.version) c.args.text.now c.loop-rest.values c.in-Ok.more c.loop-rest.number c.loop-rest.rest.now
    c.next_line.result.0.now c.next_line.result.1.now said.0 c.loop-rest.invariant
    (record { lines = c.next_line.ensures.lines; shorter = c.next_line.ensures.shorter })
    (sym c.is_skipped_line.ensures ∙ c.if-is_skipped_line.false) said.1 (λ entries h. c.in-Ok.ensures entries said.0 h said.2)

pub returns-in-Err-clause-err : goal.returns-in-Err-clause-err
returns-in-Err-clause-err c =
    let said = c.in-Some.ensures in
    subst (λ why. HasRefusal c.args.text.now why) (sym c.refusal.ensures)
    (wrong_line (version_number c.args.version) c.args.text.now c.loop-rest.values c.loop-rest.number c.loop-rest.rest.now
    c.next_line.result.0.now c.next_line.result.1.now said.0 c.in-Err.wrong c.loop-rest.invariant
    (record { lines = c.next_line.ensures.lines; shorter = c.next_line.ensures.shorter })
    (sym c.is_skipped_line.ensures ∙ c.if-is_skipped_line.false) said.1 (λ entries h. c.in-Err.ensures entries said.0 h said.2))

pub returns-clause-ok : goal.returns-clause-ok
returns-clause-ok c =
    let none : length c.loop-rest.rest.now ≡ 0 = grind (arith, nat_tests) in
    all_read (version_number c.args.version) c.args.text.now c.loop-rest.values c.loop-rest.number c.loop-rest.rest.now c.loop-rest.invariant none
