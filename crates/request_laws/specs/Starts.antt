-- What there is for a text that growth may start from.
use Rattle.std.specs.Prelude.{ℕ, List}
use Rattle.formats.specs.Request.{Request}
use Rattle.resume_formats.specs.declared.fault.LevelFault.{LevelFault}
use Rattle.resume_formats.specs.Cut.{CanStart}
use Rattle.resume_formats.specs.Fault.{HasFault, HasFaultFor}
use Rattle.resume_formats.specs.Resumed.{CanResume}

-- growth can start from the text, for some request and some greatest whole size
abbrev pub IsSomeStart : List ℕ → Type 0
IsSomeStart text = (q : Request) × (n : ℕ) × CanStart text q n

-- the text has some fault
abbrev pub HasSomeFault : List ℕ → Type 0
HasSomeFault text = (why : LevelFault) × HasFault text why

-- the same for growth to a wanted size
abbrev pub IsSomeStartFor : ℕ → List ℕ → Type 0
IsSomeStartFor wanted text = (q : Request) × CanResume wanted text q

abbrev pub HasSomeFaultFor : ℕ → List ℕ → Type 0
HasSomeFaultFor wanted text = (why : LevelFault) × HasFaultFor wanted text why
