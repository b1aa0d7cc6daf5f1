use Rattle.represent.proofs.NamedBases.{named_first}
use Rattle.represent.proofs.laws.named_matroids_begin_with_base.Goals as goal

pub returns : goal.returns
returns c = named_first
