use Rattle.std.proofs.Common.{List, subst}
use Rattle.std.specs.List.{Contains}
use Rattle.level_driver.specs.declared.parent.Leader.{Leader}
use Rattle.level_driver.specs.Known.{ChildrenOf, IsAnswer}
use Rattle.level_driver.proofs.Known.{kept_answer}
use Rattle.level_driver.proofs.parent.Children.known.Goals as goal

pub returns : goal.returns
returns c =
    let s = c.self.inside in
    let leader : Leader = c.in_ok-leader.leader.now in
    let inside : Contains s.leaders.items leader = subst (λ (ls : List Leader). Contains ls leader) c.deref.ensures.value c.in_ok-leader.ensures.0 in
    subst (λ (k : ChildrenOf). IsAnswer k c.args.column.now.items c.copy_of.result) c.self.view_is
    (kept_answer (record { parent = s.parent.now; mode = s.mode; forbidden = s.forbidden.now }) s.symmetries
    s.leaders.items c.self.invariant c.laws.ensures.fields.some
    leader inside c.args.column.now.items c.least_image-least.result.items c.least_image-least.ensures.equivalent
    c.in_ok-leader.ensures.1 c.copy_of.result c.copy_of.ensures)
