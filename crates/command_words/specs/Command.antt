-- The command that `clap` is given: two options that take one text each, a flag, and nothing else.
use Rattle.std.specs.Prelude.{◌≡◌, ◌≢◌, ℕ, List, [], codes, Some, true}
use Rattle.clap.specs.Words.{App, Rule, new_app, new_rule, with_rule, fault_of, rows_of, matches_of}
use Rattle.clap.specs.Simple.{on_top}
use Rattle.clap.specs.declared.parser.matches.Found.{Found}
use Rattle.clap.specs.declared.builder.action.ArgAction.TheVariants.{Set, SetTrue}

abbrev pub workers_rule : Rule
workers_rule = record (new_rule (codes "workers")) { long = Some (codes "workers"); action = Some Set }

abbrev pub sample_rule : Rule
sample_rule = record (new_rule (codes "sample")) { long = Some (codes "sample"); action = Some Set }

abbrev pub orderly_rule : Rule
orderly_rule = record (new_rule (codes "orderly")) { long = Some (codes "orderly"); action = Some SetTrue }

abbrev pub macek_app : App
macek_app = with_rule (with_rule (with_rule
    (on_top (λ s. record s { no_binary_name = true; disable_help_flag = true; disable_version_flag = true }) (new_app (codes "macek")))
    workers_rule) sample_rule) orderly_rule

-- `clap` refuses the words
abbrev pub AreRefused : List (List ℕ) → Type 0
AreRefused words = fault_of macek_app words ≢ []

-- `clap` takes the words, and these are its matches
abbrev pub AreMatched : List (List ℕ) → Found → Type 0
AreMatched words found = (fault_of macek_app words ≡ []) × (rows_of found ≡ matches_of macek_app words)
