use Rattle.level_driver.proofs.MatroidLists.{more_matroids}
use Rattle.level_driver.proofs.distinct.base_lists.Goals as goal

pub loop-form-preserved : goal.loop-form-preserved
loop-form-preserved c =
    more_matroids c.args.forms.now c.loop-form.form-index c.form-item.result c.loop-form-test.true c.form-item.is
    c.loop-form.lists.items c.push.new.self.items c.in_ok-base_list.field-0 c.loop-form.invariant
    c.in_ok-base_list.ensures c.in_ok-push.ensures.items
