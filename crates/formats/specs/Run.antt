-- What a run was asked for, and what it has written by then.
use Rattle.std.specs.Prelude.{ℕ, List, Option}
use Rattle.std.specs.Io.KnownBytes.{Appends}
use Rattle.formats.specs.declared.refusal.Refusal.{Refusal}
use Rattle.formats.specs.Request.{Request, StandsFor}
use Rattle.formats.specs.Refusal.{HasRefusal}
use Rattle.formats.specs.Words.{Piece, AsksForText}

-- The words and the source ask for a request.
pub record Asks (MayStand : Piece → Type 0) (words : List (List ℕ)) (left : Option (List ℕ)) (request : Request) : Type 0 where
  pub text : List ℕ
  pub asked : AsksForText MayStand words left text
  pub stands : StandsFor text request

-- The words and the source ask for a text that is refused so.
pub record AsksForRefused (MayStand : Piece → Type 0) (words : List (List ℕ)) (left : Option (List ℕ)) (refusal : Refusal) : Type 0 where
  pub text : List ℕ
  pub asked : AsksForText MayStand words left text
  pub refused : HasRefusal text refusal

-- The sink gained bytes for which `Part` holds.
pub record Gains (before after : Option (List ℕ)) (Part : List ℕ → Type 0) : Type 0 where
  pub written : List ℕ
  pub gained : Appends before after written
  pub part : Part written
