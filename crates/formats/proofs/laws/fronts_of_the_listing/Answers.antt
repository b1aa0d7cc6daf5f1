use Rattle.formats.proofs.Fronts.{cut_is_front, up_to_is_front}
use Rattle.formats.proofs.laws.fronts_of_the_listing.Goals as goal

pub returns : goal.returns
returns c = record { cut = cut_is_front; up_to = up_to_is_front }
