-- What growth to a size starts from.
use Rattle.std.specs.Prelude.{ℕ, ◌<◌, List, length}
use Rattle.formats.specs.Request.{Request}
use Rattle.level_driver.specs.declared.level.Level.{Level}
use Rattle.resume_formats.specs.Fault.{HasFaultFor}
use Rattle.resume_formats.specs.Resumed.{CanResume}
use Rattle.level_driver.specs.Grown.{AreGrown}
use Rattle.level_file.specs.declared.read.StartFault.{StartFault}
use Rattle.level_file.specs.declared.read.StartFault.TheVariants.{Bad, NoMemory}

-- Growth to the size can start from the text, which then asks for this request, and these are its levels from the rank up, at least one.
pub record IsStartTo (size : ℕ) (text : List ℕ) (q : Request) (levels : List Level) : Type 0 where
  pub can : CanResume size text q
  pub some : 0 < length levels
  pub grown : AreGrown q q.rank levels

-- It can't, for this reason; want of memory is free.
abbrev pub IsStartFaultTo : ℕ → List ℕ → StartFault → Type 0
IsStartFaultTo size text (Bad why) = HasFaultFor size text why
IsStartFaultTo size text NoMemory = Unit {0}
