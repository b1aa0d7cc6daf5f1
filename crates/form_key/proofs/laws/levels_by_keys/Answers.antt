use Rattle.form_key.proofs.LevelKeys.{keys_of_level, level_of_keys}
use Rattle.form_key.proofs.laws.levels_by_keys.Goals as goal

pub returns : goal.returns
returns c = record { keys = keys_of_level; level = level_of_keys }
