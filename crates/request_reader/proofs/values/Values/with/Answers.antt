use Rattle.std.proofs.Common.{◌≡◌, ◌∙◌, ◌<◌, [], ◌∷◌, ◌++◌, length, sym, ap, subst, arith}
use Rattle.std.proofs.lemmas.Bool.Decides.{nat_tests}
use Rattle.request_lines.specs.declared.line.NamedMinor.TheVariants.{Small}
use Rattle.request_lines.specs.declared.line.Said.TheVariants.{Forbid}
use Rattle.request_reader.specs.Values.{Holds}
use Rattle.formats.proofs.KindCounts.{is_there, not_there}
use Rattle.request_reader.proofs.EntryValues.{version_new, rank_new, field_new, size_new, forbid_new, filter_new, filter_wrong, print_new, mode_new, version_again, rank_again, field_again, size_again, ninth, too_big, print_again, mode_again}
use Rattle.request_reader.proofs.values.Values.with.Goals as goal
use Rattle.request_reader.proofs.values.Values.with.Goals.{in_default-via-in-Version+else-not-self, in_default-via-in-Rank+else-is_none, in_default-via-in-Field+else-is_none-2, in_default-via-in-Size+else-is_none-3, in_default-via-in-Equivalence+else-is_none-4, in_default-via-in-Print+else-is_none-5}

pub returns-in-Version : goal.returns-in-Version
returns-in-Version c = λ es e h s. version_new es c.args.self c.args.said e h s c.in-Version.is c.if-not-self.true

pub returns-in-Rank : goal.returns-in-Rank
returns-in-Rank c = λ es e h s. rank_new es c.args.self c.args.said e c.in-Rank.rank h s c.in-Rank.is (not_there _ _ c.is_none.ensures c.if-is_none.true)

pub returns-in-Field : goal.returns-in-Field
returns-in-Field c = λ es e h s. field_new es c.args.self c.args.said e c.in-Field.factors h s c.in-Field.is c.if-is_none-2.ensures

pub returns-in-Size : goal.returns-in-Size
returns-in-Size c = λ es e h s. size_new es c.args.self c.args.said e c.in-Size.size h s c.in-Size.is c.if-is_none-3.ensures

pub returns-in-Forbid : goal.returns-in-Forbid
returns-in-Forbid c = λ es e h s.
    let full : length c.args.self.forbid.items ≡ 8 = grind (arith, nat_tests) in
    ninth es c.args.self c.args.said e c.in-Forbid.field-0 h s c.in-Forbid.is full

pub returns-in-Forbid-Small : goal.returns-in-Forbid-Small
returns-in-Forbid-Small c = λ es e h s.
    let room : length c.args.self.forbid.items < 8 = grind (arith, nat_tests) in
    let is = c.in-Forbid.is ∙ ap Forbid (c.in-Forbid-Small.field-0-is ∙ ap Small (sym c.in-Forbid-Small.item-is)) in
    subst (λ values. Holds (es ++ e ∷ []) values) (sym c.with_forbidden.ensures.values)
    (forbid_new es c.args.self c.args.said e _ h s is room c.with_forbidden.ensures.given)

pub returns-in-Forbid-TooBig : goal.returns-in-Forbid-TooBig
returns-in-Forbid-TooBig c = λ es e h s.
    let room : length c.args.self.forbid.items < 8 = grind (arith, nat_tests) in
    too_big es c.args.self c.args.said e h s (c.in-Forbid.is ∙ ap Forbid c.in-Forbid-TooBig.field-0-is) room

pub returns-in-Ok : goal.returns-in-Ok
returns-in-Ok c = λ es e h s. filter_new es c.args.self c.args.said e c.in-Filter.filter c.in-Ok.filters h s c.in-Filter.is (c.in-Ok.ensures es e)

pub returns-in-Err : goal.returns-in-Err
returns-in-Err c = λ es e h s. filter_wrong es c.args.self c.args.said e c.in-Filter.filter c.in-Err.wrong h s c.in-Filter.is (c.in-Err.ensures es e)

pub returns-in-Equivalence : goal.returns-in-Equivalence
returns-in-Equivalence c = λ es e h s. mode_new es c.args.self c.args.said e c.in-Equivalence.mode h s c.in-Equivalence.is c.if-is_none-4.ensures

pub returns-in-Print : goal.returns-in-Print
returns-in-Print c = λ es e h s. print_new es c.args.self c.args.said e c.in-Print.print h s c.in-Print.is c.if-is_none-5.ensures

pub returns-in_default : goal.returns-in_default
returns-in_default c = λ es e h s. elim c.in_default.branch [
  | in_default-via-in-Version+else-not-self w ↦ version_again es c.args.self c.args.said e h s w.in-Version.is w.if-not-self.false
  | in_default-via-in-Rank+else-is_none w ↦
      rank_again es c.args.self c.args.said e w.in-Rank.rank h s w.in-Rank.is (is_there _ _ w.is_none.ensures w.if-is_none.false)
  | in_default-via-in-Field+else-is_none-2 w ↦ field_again es c.args.self c.args.said e w.in-Field.factors h s w.in-Field.is w.if-is_none-2.ensures
  | in_default-via-in-Size+else-is_none-3 w ↦ size_again es c.args.self c.args.said e w.in-Size.size h s w.in-Size.is w.if-is_none-3.ensures
  | in_default-via-in-Equivalence+else-is_none-4 w ↦
      mode_again es c.args.self c.args.said e w.in-Equivalence.mode h s w.in-Equivalence.is w.if-is_none-4.ensures
  | in_default-via-in-Print+else-is_none-5 w ↦ print_again es c.args.self c.args.said e w.in-Print.print h s w.in-Print.is w.if-is_none-5.ensures
]
