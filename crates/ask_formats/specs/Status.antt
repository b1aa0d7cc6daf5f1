-- The numbers and the texts of the statuses of asking.
use Rattle.std.specs.Prelude.{ℕ, List, [], codes}
use Rattle.ask_formats.specs.declared.status.AskStatus.{AskStatus}
use Rattle.ask_formats.specs.declared.status.AskStatus.TheVariants.{Done, Usage, WriteFault}

abbrev pub status_number : AskStatus → ℕ
status_number Done = 0
status_number Usage = 2
status_number WriteFault = 5

unfoldable pub ask_text : AskStatus → List ℕ
ask_text Done = []
ask_text Usage = codes "macek_ask: usage: dual FIELD FORM, over Q name M, over Q form FIELD FORM\n"
ask_text WriteFault = codes "macek_ask: the answer could not be written\n"
