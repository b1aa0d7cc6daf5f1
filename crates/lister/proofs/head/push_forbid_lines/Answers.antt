use Rattle.std.proofs.Common.{◌∙◌, ℕ, List, ◌++◌, map, take, ap, sym, arith, append_assoc}
use Rattle.std.proofs.lemmas.List.{take_all}
use Rattle.named_matroids.specs.Names.{NamedMatroid, named_by}
use Rattle.formats.specs.Statement.{Forbids}
use Rattle.formats.specs.Listing.{text_of_statements}
use Rattle.request_reader.specs.Requested.{minors_of}
use Rattle.lister.proofs.Heads.{entry_text, forbid_more}
use Rattle.lister.proofs.head.push_forbid_lines.Goals as goal

pub loop-item-preserved : goal.loop-item-preserved
loop-item-preserved c =
    let items = c.args.items.now in
    let before = text_of_statements (map Forbids (minors_of (take c.loop-item.item-index items))) in
    record {
      so_far =
          c.push_forbid_line.ensures.bytes
          ∙ ap (λ (l : List ℕ). l ++ entry_text (Forbids (named_by c.item-item.result.spelling))) c.loop-item.invariant.so_far
          ∙ append_assoc c.args.head.now.items before _
          ∙ ap (λ (l : List ℕ). c.args.head.now.items ++ l)
          (ap (λ (x : NamedMatroid). before ++ entry_text (Forbids (named_by x.spelling))) c.item-item.is
          ∙ sym (forbid_more items c.loop-item.item-index c.item-item.result c.loop-item-test.true));
      room = omega arith;
    }

pub returns-clause-bytes : goal.returns-clause-bytes
returns-clause-bytes c = c.loop-item.invariant.so_far
    ∙ ap (λ (items : List NamedMatroid). c.args.head.now.items ++ text_of_statements (map Forbids (minors_of items)))
    (take_all c.loop-item.item-index c.args.items.now c.loop-item-test.false)
