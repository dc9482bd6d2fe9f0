-- The command words as clap takes them: the command `safetynets` (this project's profile).
use Rattle.std.specs.Prelude.{◌≢◌, true, List, [], map, codes, Some, String, pos}
use Rattle.std.specs.String.{string_bytes}
use Rattle.std.specs.declared.alloc.Global.{Global}
use Rattle.clap.specs.Words.{App, Rule, Text, fault_of, new_app, new_rule, with_rule, with_subcommand}
use Rattle.clap.specs.declared.builder.ArgAction.TheVariants.{Append}
use Rattle.clap.specs.declared.builder.ValueParser.TheVariants.{Signed}
use Rattle.command_words.specs.declared.command.TheConstants.{MOST_WORKERS}

-- the texts of words
abbrev pub texts : List (String Global) → List Text
texts = map string_bytes

-- the option `--site`, which has to be there, with one value
abbrev pub site : Rule
site = record (new_rule (codes "site")) { long = Some (codes "site"); required = true }

-- the option `--workers`, which has to be there, with an integer of 1 to 64
abbrev pub workers : Rule
workers = record (new_rule (codes "workers")) { long = Some (codes "workers"); parser = Some (Signed (pos 1) (pos MOST_WORKERS)); required = true }

-- the feeds: any number of words, none included
abbrev pub feeds : Rule
feeds = record (new_rule (codes "feed")) { action = Some Append }

-- `replay --site FILE FEED...`
abbrev pub replay : App
replay = with_rule (with_rule (new_app (codes "replay")) site) feeds

-- `run --site FILE --workers N FEED...`
abbrev pub run : App
run = with_rule (with_rule (with_rule (new_app (codes "run")) site) workers) feeds

-- words after the program's name that begin with no name of it, and of which one has to be a command
abbrev pub bare : App
bare = let app = new_app (codes "safetynets") in record app { top = record app.top { no_binary_name = true; subcommand_required = true } }

-- the whole
abbrev pub safetynets : App
safetynets = with_subcommand (with_subcommand bare replay.top) run.top

-- clap refuses the words, for another cause than want of memory
abbrev pub Refuses : List Text → Type 0
Refuses words = fault_of safetynets words ≢ []
