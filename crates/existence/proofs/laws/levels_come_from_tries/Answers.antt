use Rattle.existence.proofs.Classes.{form_has_try, try_has_form, form_of_try}
use Rattle.existence.proofs.laws.levels_come_from_tries.Goals as goal

pub returns-clause-exactly : goal.returns-clause-exactly
returns-clause-exactly c = λ q n N room. ((λ h. (let w = form_has_try q n N room h in ((w.0, w.1), w.3))), (λ w. form_of_try q n N w.0 w.1))

pub returns-clause-each_try : goal.returns-clause-each_try
returns-clause-each_try c = try_has_form

pub returns-clause-own_try : goal.returns-clause-own_try
returns-clause-own_try c = form_has_try
