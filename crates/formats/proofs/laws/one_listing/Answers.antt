use Rattle.formats.proofs.OneListing.{listing_same}
use Rattle.formats.proofs.laws.one_listing.Goals as goal

pub returns : goal.returns
returns c = listing_same
