use Rattle.std.proofs.Common.{◌≡◌, ◌∙◌, [], ◌∷◌, ◌++◌, length, sym, ap, arith, rules}
use Rattle.std.proofs.lemmas.Bool.Decides.{nat_tests}
use Rattle.std.proofs.lemmas.List.{length-map, map-append}
use Rattle.small_lists.specs.Lists.{lists}
use Rattle.formats.specs.Lines.{words_of}
use Rattle.request_lines.proofs.MatrixLines.{first_column, next_column, word_long, read_more, read_past, are_columns, words_all}
use Rattle.request_lines.proofs.matrix_line.columns_of.Goals as goal

pub returns-in_err-first : goal.returns-in_err-first
returns-in_err-first c = rw c.from_residual-in_err-first.ensures (λ columns are e.
    let next = first_column c.args.order columns _ (words_of c.in_ok-word.after.now) c.in_ok-word.word.now are e c.in_ok-word.ensures.words in
    c.in_err-first.ensures next.0 next.1 next.2)

pub returns-in_err-column : goal.returns-in_err-column
returns-in_err-column c = rw c.from_residual-in_err-column.ensures (λ columns are e.
    let next = next_column c.args.order c.len-rows.result c.loop-word.is_many (lists c.loop-word.columns.items) _ (words_of c.loop-word.left.now) columns
    (words_of c.in-Some.after.now) c.in-Some.word.now c.loop-word.invariant c.in-Some.ensures.words are e in
    c.in_err-column.ensures next.0 next.1 next.3)

pub returns-then-len-rows : goal.returns-then-len-rows
returns-then-len-rows c = λ columns are e.
    let next = next_column c.args.order c.len-rows.result c.loop-word.is_many (lists c.loop-word.columns.items) _ (words_of c.loop-word.left.now) columns
    (words_of c.in-Some.after.now) c.in-Some.word.now c.loop-word.invariant c.in-Some.ensures.words are e in
    let long : length c.in_ok-column.column.items ≡ length next.0 =
    sym (word_long c.in-Some.word.now c.in_ok-column.column.items c.in_ok-column.ensures.1) ∙ word_long c.in-Some.word.now next.0 next.3 in
    c.if-len-rows.true (c.len.ensures.value ∙ long ∙ next.2)

pub loop-word-preserved-then-is_err : goal.loop-word-preserved-then-is_err
loop-word-preserved-then-is_err c =
    let long : length c.in_ok-column.column.items ≡ c.len-rows.result = omega (arith, c.len.ensures.value, c.if-len-rows.false) in
    let full : length c.loop-word.columns.items ≡ 10 = first_of (search rules, grind (arith, nat_tests), omega arith) in
    read_past c.args.order c.len-rows.result c.loop-word.is_many (lists c.loop-word.columns.items) _ _ (words_of c.loop-word.left.now)
    (words_of c.in-Some.after.now) c.in-Some.word.now c.in_ok-column.column.items c.loop-word.invariant c.in-Some.ensures.words
    c.in_ok-column.ensures.0 c.in_ok-column.ensures.1
    long (length-map c.loop-word.columns.items (λ v. v.items) ∙ full)

pub loop-word-preserved : goal.loop-word-preserved
loop-word-preserved c =
    let long : length c.in_ok-column.column.items ≡ c.len-rows.result = omega (arith, c.len.ensures.value, c.if-len-rows.false) in
    let push : c.try_push.new.self.items ≡ c.loop-word.columns.items ++ c.in_ok-column.column ∷ [] = first_of (search rules, grind (arith, nat_tests), cc) in
    read_more c.args.order c.len-rows.result c.loop-word.is_many (lists c.loop-word.columns.items) _ _ (words_of c.loop-word.left.now)
    (words_of c.in-Some.after.now) c.in-Some.word.now c.in_ok-column.column.items c.loop-word.invariant c.in-Some.ensures.words
    c.in_ok-column.ensures.0 c.in_ok-column.ensures.1
    long (ap lists push ∙ map-append (λ v. v.items) c.loop-word.columns.items (c.in_ok-column.column ∷ []))

pub returns-else-is_many : goal.returns-else-is_many
returns-else-is_many c =
    let read = c.loop-word.invariant in
    let kept : lists c.loop-word.columns.items ≡ read.columns = rw c.if-is_many.false at read.kept_are in (
      read.columns,
      are_columns c.args.order c.len-rows.result read.columns read.are,
      words_all read.columns (words_of c.args.rest.now) (words_of c.loop-word.left.now) read.spelled c.in_default.ensures.words,
      kept,
    )
