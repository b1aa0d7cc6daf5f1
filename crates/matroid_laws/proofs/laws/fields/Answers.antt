use Rattle.matrix_lemmas.proofs.FieldLaws.{field_laws}
use Rattle.matroid_laws.proofs.laws.fields.Goals as goal

pub returns : goal.returns
returns c = field_laws
