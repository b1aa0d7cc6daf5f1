use Rattle.ask_formats.proofs.Readings.{read_as, spelled_as}
use Rattle.ask_formats.proofs.laws.by_places.Goals as goal

pub returns : goal.returns
returns c words M can = (read_as M can words, spelled_as M can words)
