-- What a run that resumes is asked for, and what it has written by then.
use Rattle.std.specs.Prelude.{◌≡◌, ℕ, ◌≤◌, List, [], ◌∷◌, Option, decimal}
use Rattle.formats.specs.Request.{Request}
use Rattle.formats.specs.Words.{IsLeft}
use Rattle.formats.specs.Run.{Gains}
use Rattle.resume_formats.specs.declared.fault.LevelFault.{LevelFault}
use Rattle.resume_formats.specs.Cut.{CanStart}
use Rattle.resume_formats.specs.Fault.{HasFaultFor}

-- The words are one word, a number from 1 to 16.
pub record AskForSize (words : List (List ℕ)) (size : ℕ) : Type 0 where
  pub word : words ≡ decimal size ∷ []
  pub at_least : 1 ≤ size
  pub at_most : size ≤ 16

-- the request with another greatest size
abbrev pub with_size : Request → ℕ → Request
with_size q size = record q { size = size }

-- Growth to the size can start from the text, which then asks for this request.
pub record CanResume (size : ℕ) (text : List ℕ) (q : Request) : Type 0 where
  pub start : Request
  pub last : ℕ
  pub can_start : CanStart text start last
  pub enough : last ≤ size
  pub asked : q ≡ with_size start size

-- Growth to the size can start from what is left, and the sink gained bytes for which `Part` holds of what is then asked for.
pub record ResumesTo (size : ℕ) (left before after : Option (List ℕ)) (Part : Request → List ℕ → Type 0) : Type 0 where
  pub text : List ℕ
  pub is_left : IsLeft left text
  pub request : Request
  pub can_resume : CanResume size text request
  pub gains : Gains before after (Part request)

-- The same for the size that the words ask for.
pub record Resumes (words : List (List ℕ)) (left before after : Option (List ℕ)) (Part : Request → List ℕ → Type 0) : Type 0 where
  pub size : ℕ
  pub asked : AskForSize words size
  pub resumed : ResumesTo size left before after Part

-- Growth to the size can't start from what is left, for this reason.
pub record LeavesFault (size : ℕ) (left : Option (List ℕ)) (fault : LevelFault) : Type 0 where
  pub text : List ℕ
  pub is_left : IsLeft left text
  pub faulty : HasFaultFor size text fault

-- The same for the size that the words ask for.
pub record AskWithFault (words : List (List ℕ)) (left : Option (List ℕ)) (fault : LevelFault) : Type 0 where
  pub size : ℕ
  pub asked : AskForSize words size
  pub leaves : LeavesFault size left fault
