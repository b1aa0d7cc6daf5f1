use Rattle.matrix_lemmas.proofs.Products.{sum_exact, product_exact}
use Rattle.matroid_laws.proofs.laws.operations_are_exact.Goals as goal

pub returns-clause-sum : goal.returns-clause-sum
returns-clause-sum c = λ q a b d o. sum_exact q o a b d

pub returns-clause-product : goal.returns-clause-product
returns-clause-product c = λ q a b d o. product_exact q o a b d
