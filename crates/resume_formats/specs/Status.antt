-- The numbers and the texts of how a run that resumes ends.
use Rattle.std.specs.Prelude.{ℕ, List, [], ◌++◌, codes, decimal}
use Rattle.resume_formats.specs.declared.fault.LevelFault.{LevelFault}
use Rattle.resume_formats.specs.declared.fault.LevelFault.TheVariants as fault
use Rattle.resume_formats.specs.declared.status.ResumeStatus.{ResumeStatus}
use Rattle.resume_formats.specs.declared.status.ResumeStatus.TheVariants.{Done, Usage, BadListing, ReadFault, WriteFault, NoMemory}

abbrev pub fault_number : LevelFault → ℕ
fault_number fault.TooLong = 1
fault_number fault.Head = 2
fault_number (fault.Differs line) = 3
fault_number fault.NoLevel = 4
fault_number (fault.Less n) = 5

abbrev pub status_number : ResumeStatus → ℕ
status_number Done = 0
status_number Usage = 2
status_number (BadListing why) = 3
status_number ReadFault = 4
status_number WriteFault = 5
status_number NoMemory = 6

unfoldable pub status_text : ResumeStatus → List ℕ
status_text Done = []
status_text Usage = codes "macek_resume: usage: N\n"
status_text (BadListing why) = codes "macek_resume: listing refused " ++ decimal (fault_number why) ++ codes "\n"
status_text ReadFault = codes "macek_resume: the listing could not be read\n"
status_text WriteFault = codes "macek_resume: the listing could not be written\n"
status_text NoMemory = codes "macek_resume: out of memory\n"
