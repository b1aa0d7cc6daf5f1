use Rattle.std.proofs.Common.{refl}
use Rattle.formats.specs.Listing.{head_text, head_statements, text_of_statements}
use Rattle.formats.proofs.Heads.{head_stands}
use Rattle.formats.proofs.laws.head_stands_for_its_request.Goals as goal

pub returns : goal.returns
unfolding head_text
returns c = λ text q stands. (text_of_statements (head_statements q), refl, head_stands text q stands)
