use Rattle.std.proofs.Common.{◌<◌, ap, length, arith, lit<, sym, subst}
use Rattle.std.proofs.lemmas.List.{map_push, length-map}
use Rattle.std.proofs.lemmas.List.FromFn.{length-map-range_with_len, map-range_with_len_more}
use Rattle.matroid_theory.specs.Rep.{column_of}
use Rattle.formats.specs.Statement.{column_word}
use Rattle.lister.proofs.Forms.{HaveLetters, column_letters}
use Rattle.lister.proofs.form.factor_words.Goals as goal

pub column_word-requires : goal.column_word-requires
column_word-requires c =
    subst HaveLetters (sym c.factor_column.ensures)
    (column_letters c.args.rep.now c.size-size.ensures.is_rep c.args.factor c.loop-j.j c.requires
    (subst (λ n. c.loop-j.j < n) c.size-size.ensures.value c.loop-j-test.true))

pub push-requires : goal.push-requires
push-requires c =
    let most = c.size-size.ensures.is_rep.size_most in (
      lit< tt,
      omega (
        arith,
        length-map c.loop-j.words.items (λ word. word.items),
        ap length c.loop-j.invariant,
        length-map-range_with_len (λ j. column_word (column_of c.args.rep.now c.args.factor j)) 0 c.loop-j.j,
      ),
    )

pub loop-j-preserved : goal.loop-j-preserved
loop-j-preserved c =
    let more = map-range_with_len_more (λ j. column_word (column_of c.args.rep.now c.args.factor j)) 0 c.loop-j.j c.loop-j.j (omega arith) in
    let pushed = map_push (λ word. word.items) c.loop-j.words.items c.column_word.result in
    rw c.push.ensures.items (cc (more, pushed))

pub returns-clause-count : goal.returns-clause-count
returns-clause-count c =
    omega (
      arith,
      length-map c.loop-j.words.items (λ word. word.items),
      ap length c.loop-j.invariant,
      length-map-range_with_len (λ j. column_word (column_of c.args.rep.now c.args.factor j)) 0 c.loop-j.j,
    )
