use Rattle.std.proofs.Common.{◌≡◌, ◌∙◌, ℕ, List, [], ◌∷◌, ◌++◌, length, slice_index_or, sym, ap, subst, arith, append_assoc, length-append}
use Rattle.std.specs.Prelude.{codes, decimal}
use Rattle.formats.specs.Statement.{column_word, IsMatrix}
use Rattle.lister.proofs.Forms.{HaveLetters}
use Rattle.lister.proofs.Names.{column_more, matrix_letters}
use Rattle.lister.proofs.name.matrix_words.Goals as goal

pub column_word-requires : goal.column_word-requires
column_word-requires c =
    let columns = c.columns-column-items.result.now in
    let order = c.args.text.now.order in
    let matrix = subst (IsMatrix order) (sym c.columns-column-items.ensures.columns) c.requires in
    subst (λ column. HaveLetters column.items) (sym c.column-item.is)
    (matrix_letters order columns matrix c.loop-column.column-index c.column-item.result c.loop-column-test.true)

pub loop-column-preserved : goal.loop-column-preserved
loop-column-preserved c =
    let columns = c.columns-column-items.result.now in
    let at = slice_index_or columns c.loop-column.column-index c.column-item.result in
    let word : c.as_slice.result.now ≡ column_word at.items = c.as_slice.ensures.value ∙ c.column_word.ensures
    ∙ ap (λ column. column_word column.items) c.column-item.is in
    record {
      so_far =
          c.push_bytes-in-loop-column.ensures
          ∙ ap (λ (l : List ℕ). l ++ c.as_slice.result.now) c.push.ensures.items
          ∙ append_assoc c.loop-column.line.items (32 ∷ []) c.as_slice.result.now
          ∙ (λ t. c.loop-column.invariant.so_far t ++ 32 ∷ word t)
          ∙ sym (column_more (codes "matrix") (decimal c.args.text.now.order) columns c.loop-column.column-index c.column-item.result c.loop-column-test.true);
      room = omega (
        arith,
        ap (λ (l : List ℕ). length l) c.push_bytes-in-loop-column.ensures,
        length-append c.push.new.self.items c.as_slice.result.now,
        c.push.ensures.len,
        c.as_slice.ensures.fits,
        c.loop-column.invariant.room,
      );
    }
