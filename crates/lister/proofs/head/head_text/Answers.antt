use Rattle.std.proofs.Common.{◌≡◌, ◌∙◌, List, [], ◌∷◌, ◌++◌, map, ap, codes, refl}
use Rattle.std.specs.Prelude.{Option, option_to_list}
use Rattle.matroid_theory.specs.declared.Mode.{Mode}
use Rattle.formats.specs.declared.refusal.PrintMode.{PrintMode}
use Rattle.formats.specs.Statement.{MinorName, Statement, Forbids, ListsConnected, ListsThreeConnected, ListsCosimple, ListsDistinct, ListsWith, Prints}
use Rattle.formats.specs.Listing.{head_text, where_set, text_of_statements}
use Rattle.lister.proofs.Heads.{first_entries, mode_entries, more_text, flag_text}
use Rattle.lister.proofs.head.head_text.Goals as goal

pub returns : goal.returns
unfolding head_text
returns c =
    let q = c.args.request.now in
    let title = codes "macek listing 1\n" in
    let es0 : List Statement = first_entries q.version q.factors q.rank q.size in
    let es1 : List Statement = es0 ++ mode_entries q.mode in
    let es2 : List Statement = es1 ++ map Forbids q.forbid in
    let es3 : List Statement = es2 ++ where_set q.connected ListsConnected in
    let es4 : List Statement = es3 ++ where_set q.three_connected ListsThreeConnected in
    let es5 : List Statement = es4 ++ where_set q.cosimple ListsCosimple in
    let es6 : List Statement = es5 ++ where_set q.distinct ListsDistinct in
    let es7 : List Statement = es6 ++ map ListsWith (option_to_list q.has) in
    let filters = c.filters-filters.ensures in
    let h0 : c.first_lines-head.result.items ≡ title ++ text_of_statements es0 =
    c.first_lines-head.ensures.bytes
    ∙ (λ i. title ++ text_of_statements (first_entries (c.version.ensures i) (c.factors.ensures i) (c.rank.ensures i) (c.size.ensures i))) in
    let h1 =
    more_text title _ c.push_mode_line.new.head.items es0 _ h0
    (c.push_mode_line.ensures.bytes
    ∙ ap (λ (m : Mode). c.first_lines-head.result.items ++ text_of_statements (mode_entries m)) c.mode.ensures) in
    let h2 =
    more_text title _ c.push_forbid_lines.new.head.items es1 _ h1
    (c.push_forbid_lines.ensures.bytes
    ∙ ap (λ (ms : List MinorName). c.push_mode_line.new.head.items ++ text_of_statements (map Forbids ms)) c.forbid.ensures.names) in
    let h3 =
    more_text title _ c.push_flag_line.new.head.items es2 _ h2
    (flag_text _ _ _ q.connected ListsConnected (codes "connected") refl filters.connected c.push_flag_line.ensures.set c.push_flag_line.ensures.unset) in
    let h4 =
    more_text title _ c.push_flag_line-2.new.head.items es3 _ h3
    (flag_text _ _ _ q.three_connected ListsThreeConnected (codes "3conn") refl filters.three
    c.push_flag_line-2.ensures.set c.push_flag_line-2.ensures.unset) in
    let h5 =
    more_text title _ c.push_flag_line-3.new.head.items es4 _ h4
    (flag_text _ _ _ q.cosimple ListsCosimple (codes "cosimple") refl filters.cosimple c.push_flag_line-3.ensures.set c.push_flag_line-3.ensures.unset) in
    let h6 =
    more_text title _ c.push_flag_line-4.new.head.items es5 _ h5
    (flag_text _ _ _ q.distinct ListsDistinct (codes "distinct") refl filters.distinct c.push_flag_line-4.ensures.set c.push_flag_line-4.ensures.unset) in
    let h7 =
    more_text title _ c.push_has_line.new.head.items es6 _ h6
    (c.push_has_line.ensures.bytes
    ∙ ap (λ (o : Option MinorName). c.push_flag_line-4.new.head.items ++ text_of_statements (map ListsWith (option_to_list o))) filters.has) in
    more_text title _ c.push_print_line.new.head.items es7 _ h7
    (c.push_print_line.ensures
    ∙ ap (λ (p : PrintMode). c.push_has_line.new.head.items ++ text_of_statements (Prints p ∷ [])) c.print.ensures)
