use Rattle.request_laws.proofs.Listings.{entry_exists, listing_exists, cut_is_front_of_listing, up_to_is_front_of_listing}
use Rattle.request_laws.proofs.laws.each_request_has_a_listing.Goals as goal

pub returns-clause-listing : goal.returns-clause-listing
returns-clause-listing c = listing_exists

pub returns-clause-entry : goal.returns-clause-entry
returns-clause-entry c = λ q n names. entry_exists q names n

pub returns-clause-cut : goal.returns-clause-cut
returns-clause-cut c = cut_is_front_of_listing

pub returns-clause-up_to : goal.returns-clause-up_to
returns-clause-up_to c = up_to_is_front_of_listing
