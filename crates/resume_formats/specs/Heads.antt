-- Whole heads.
use Rattle.std.specs.Prelude.{◌≡◌, ℕ, List}
use Rattle.formats.specs.Request.{Request, StandsFor}
use Rattle.formats.specs.Listing.{head_text}
use Rattle.resume_formats.specs.Cut.{ListsAllForms}

-- These bytes are the head of a request without filter that prints forms, for which some text stands.
pub record IsHeadOf (q : Request) (head : List ℕ) : Type 0 where
  pub asking : List ℕ
  pub stands : StandsFor asking q
  pub all_forms : ListsAllForms q
  pub is : head ≡ head_text q
